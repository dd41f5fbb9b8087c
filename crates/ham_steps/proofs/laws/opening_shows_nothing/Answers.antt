use Rattle.ham_steps.proofs.ContentLaws.{has-opening, value-opening}
use Rattle.ham_steps.proofs.laws.opening_shows_nothing.Goals as goal

pub returns-clause-rows : goal.returns-clause-rows
returns-clause-rows c = has-opening

pub returns-clause-values : goal.returns-clause-values
returns-clause-values c = value-opening
