use Rattle.ham_tests.proofs.Small.{small}
use Rattle.ham_tests.proofs.meanings.a_net_is_applied_whole.Goals as goal

pub apply_net-requires-clause-values : goal.apply_net-requires-clause-values
apply_net-requires-clause-values g c = small c.in_ok-state.state.content c.in_ok-state.ensures.0
