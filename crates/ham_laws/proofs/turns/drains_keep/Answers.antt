use Rattle.ham_meaning.specs.OfObjects.{meaning}
use Rattle.ham_laws.proofs.Drain.{drain_keeps}
use Rattle.ham_laws.proofs.turns.drains_keep.Goals as goal

pub returns : goal.returns
returns c o checked p e later r delivered well turn = drain_keeps (meaning o) p e later r delivered well turn
