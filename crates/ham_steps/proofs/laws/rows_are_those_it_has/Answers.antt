use Rattle.ham_steps.proofs.Ascending.{listed}
use Rattle.ham_steps.proofs.laws.rows_are_those_it_has.Goals as goal

pub returns : goal.returns
returns c = listed
