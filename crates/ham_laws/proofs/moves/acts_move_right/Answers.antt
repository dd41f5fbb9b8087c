use Rattle.ham_meaning.specs.OfObjects.{meaning}
use Rattle.ham_meaning.proofs.Lawful.{meaning_lawful}
use Rattle.ham_laws.proofs.Moving.{moves_right}
use Rattle.ham_laws.proofs.moves.acts_move_right.Goals as goal

pub returns : goal.returns
returns c o checked = moves_right (meaning o) (meaning_lawful o checked)
