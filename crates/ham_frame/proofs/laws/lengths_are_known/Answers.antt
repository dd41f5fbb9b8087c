use Rattle.ham_frame.proofs.Lengths.{length-spelling}
use Rattle.ham_frame.proofs.laws.lengths_are_known.Goals as goal

pub returns : goal.returns
returns c = λ f fit. length-spelling f fit
