use Rattle.ham_turns.proofs.Ranging.{ranged}
use Rattle.ham_turns.proofs.laws.rules_are_ranged.Goals as goal

pub returns : goal.returns
returns c = ranged
