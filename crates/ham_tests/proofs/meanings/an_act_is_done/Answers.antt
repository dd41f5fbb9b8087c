use Rattle.ham_tests.proofs.Small.{small}
use Rattle.ham_tests.proofs.meanings.an_act_is_done.Goals as goal

pub apply-requires-clause-values : goal.apply-requires-clause-values
apply-requires-clause-values g c = small c.in_ok-state.state.content c.in_ok-state.ensures.0
