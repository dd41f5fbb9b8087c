use Rattle.ham_meaning.specs.OfObjects.{meaning}
use Rattle.ham_laws.proofs.Places.{same_place}
use Rattle.ham_laws.proofs.Draining.{drain_exists}
use Rattle.ham_laws.proofs.turns.drains_exist.Goals as goal

pub returns : goal.returns
returns c o p e delivered log = drain_exists (meaning o) p e same_place delivered log
