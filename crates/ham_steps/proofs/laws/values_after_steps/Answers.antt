use Rattle.ham_steps.proofs.LastTouch.{value-after_steps}
use Rattle.ham_steps.proofs.laws.values_after_steps.Goals as goal

pub returns : goal.returns
returns c = value-after_steps
