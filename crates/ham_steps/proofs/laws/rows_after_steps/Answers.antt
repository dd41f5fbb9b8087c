use Rattle.ham_steps.proofs.LastTouch.{has-after_steps}
use Rattle.ham_steps.proofs.laws.rows_after_steps.Goals as goal

pub returns : goal.returns
returns c = has-after_steps
