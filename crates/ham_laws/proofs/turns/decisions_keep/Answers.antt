use Rattle.ham_meaning.specs.OfObjects.{meaning}
use Rattle.ham_laws.proofs.Keeping.{decision_keeps}
use Rattle.ham_laws.proofs.turns.decisions_keep.Goals as goal

pub returns : goal.returns
returns c o checked p e later r d sound well turn = decision_keeps (meaning o) p sound e later r d well turn
