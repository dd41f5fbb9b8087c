use Rattle.ham_frame.proofs.Pieces.{one_reading}
use Rattle.ham_frame.proofs.laws.a_reading_is_the_only_one.Goals as goal

pub returns : goal.returns
returns c = λ old new other held given gone bytes reads same u v. one_reading old new other held given gone bytes reads same u v
