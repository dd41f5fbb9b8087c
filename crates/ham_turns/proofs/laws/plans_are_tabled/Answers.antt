use Rattle.ham_turns.proofs.Tabling.{tabled}
use Rattle.ham_turns.proofs.laws.plans_are_tabled.Goals as goal

pub returns : goal.returns
returns c = tabled
