use Rattle.ham_tables.proofs.Deriving.{conflict_symmetric}
use Rattle.ham_tables.proofs.laws.conflicts_are_symmetric.Goals as goal

pub returns : goal.returns
returns c = conflict_symmetric
