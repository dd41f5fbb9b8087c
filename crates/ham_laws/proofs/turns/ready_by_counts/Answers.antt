use Rattle.ham_meaning.specs.OfObjects.{meaning}
use Rattle.ham_laws.proofs.Places.{same_place}
use Rattle.ham_laws.proofs.Counts.{ready_exactly}
use Rattle.ham_laws.proofs.turns.ready_by_counts.Goals as goal

pub returns : goal.returns
returns c o checked p e number well ordered share numbered log d h k =
    ready_exactly (meaning o) p e same_place well ordered share number numbered log d h k
