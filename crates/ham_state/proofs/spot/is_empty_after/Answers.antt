use Rattle.std.proofs.Common.{◌∙◌}
use Rattle.ham_steps.specs.Steps.{after_steps}
use Rattle.ham_content.specs.Kept.{content}
use Rattle.ham_state.proofs.Standing.{none_at}
use Rattle.ham_state.proofs.spot.is_empty_after.Goals as goal

pub returns-in-None : goal.returns-in-None
returns-in-None c = c.none_stands.ensures ∙ none_at (after_steps c.args.ahead.now.steps.now (content c.args.ahead.now.facts.now c.args.ahead.now.amounts.now)) c.args.relation c.args.columns.now c.args.key.now
