use Rattle.std.proofs.Common.{◌∙◌}
use Rattle.ham_steps.proofs.Touching.{pointwise-row}
use Rattle.ham_steps.proofs.touch.same_row.Goals as goal

pub returns : goal.returns
returns c = c.eq.ensures ∙ pointwise-row c.args.row.now c.args.other.now
