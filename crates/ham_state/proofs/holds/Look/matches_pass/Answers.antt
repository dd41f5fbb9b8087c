use Rattle.std.proofs.Common.{◌∙◌}
use Rattle.ham_content.specs.Kept.{content}
use Rattle.ham_state.specs.Ahead.{is_sound_after}
use Rattle.ham_state.proofs.Looking.{one_match}
use Rattle.ham_state.proofs.holds.Look.matches_pass.Goals as goal

pub returns-in-Some : goal.returns-in-Some
returns-in-Some c = c.row_passes.ensures ∙ one_match (is_sound_after (content c.args.self.now.ahead.facts.now c.args.self.now.ahead.amounts.now) c.args.self.now.watch.now.invariant c.args.self.now.ahead.steps.now) c.args.relation c.in-Some.row c.args.pattern.now c.args.self.now.ahead.facts.now.keys c.in-Some.ensures.1
