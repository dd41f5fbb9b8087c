use Rattle.ham_rules.proofs.Turned.{turned, computed_turned}
use Rattle.ham_rules.proofs.laws.state_commute_is_symmetric.Goals as goal

pub returns : goal.returns
returns c = record { derivable = turned; computed = computed_turned }
