use Rattle.std.proofs.Common.{◌∙◌}
use Rattle.ham_steps.specs.Steps.{after_steps}
use Rattle.ham_content.specs.Kept.{content}
use Rattle.ham_state.proofs.Standing.{one_at}
use Rattle.ham_state.proofs.spot.is_unique_sound.Goals as goal

pub returns-in-None : goal.returns-in-None
returns-in-None c = c.at_most_one_stands.ensures ∙ one_at (after_steps c.args.ahead.now.steps.now (content c.args.ahead.now.facts.now c.args.ahead.now.amounts.now)) c.args.relation c.args.columns.now c.args.spot.now
