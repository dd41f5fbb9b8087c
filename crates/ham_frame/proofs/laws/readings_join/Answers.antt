use Rattle.ham_frame.proofs.Pieces.{reads_join}
use Rattle.ham_frame.proofs.laws.readings_join.Goals as goal

pub returns : goal.returns
returns c = λ old mid new held gone given a b before after. reads_join old mid new held gone given a b before after
