use Rattle.ham_meaning.specs.OfObjects.{meaning}
use Rattle.ham_meaning.proofs.Lawful.{meaning_lawful}
use Rattle.ham_laws.proofs.Places.{same_place}
use Rattle.ham_laws.proofs.Cutting.{cut}
use Rattle.ham_laws.proofs.CutStates.{cut_alike}
use Rattle.ham_laws.proofs.moves.cuts_are_closed.Goals as goal

pub returns : goal.returns
returns c = record {
  closed = λ o checked p e xs ys hx hy. cut (meaning o) p e same_place xs ys hx hy;
  alike = λ o checked p e xs ys sound well hx hy found. cut_alike (meaning o) p e (meaning_lawful o checked) sound same_place well xs ys hx found;
}
