use Rattle.ham_witness.proofs.MadeUp.{ids_apart}
use Rattle.ham_witness.proofs.laws.ids_differ.Goals as goal

pub returns : goal.returns
returns c = ids_apart
