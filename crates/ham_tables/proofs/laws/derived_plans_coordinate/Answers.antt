use Rattle.ham_meaning.specs.OfObjects.{meaning}
use Rattle.ham_meaning.proofs.Lawful.{meaning_lawful}
use Rattle.ham_laws.specs.Constrained.{constraints_of}
use Rattle.ham_laws.proofs.Places.{same_place}
use Rattle.ham_laws.proofs.Coordinated.{coordinated}
use Rattle.ham_tables.proofs.Deriving.{derived_sound}
use Rattle.ham_tables.proofs.laws.derived_plans_coordinate.Goals as goal

pub returns : goal.returns
returns c o p e checked is well = coordinated (meaning o) (constraints_of p) e (meaning_lawful o checked) (derived_sound o checked p is) same_place well
