use Rattle.ham_meaning.specs.OfObjects.{meaning}
use Rattle.ham_laws.proofs.Missing.{single_plan_sound}
use Rattle.ham_laws.proofs.Single.{single_sound}
use Rattle.ham_laws.proofs.laws.single_plan_is_sound.Goals as goal

pub returns : goal.returns
returns c = record { constraints = λ o. single_sound (meaning o); plans = single_plan_sound }
