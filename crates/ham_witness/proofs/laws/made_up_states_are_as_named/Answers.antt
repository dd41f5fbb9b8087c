use Rattle.ham_witness.proofs.MadeUp.{is_made_up}
use Rattle.ham_witness.proofs.laws.made_up_states_are_as_named.Goals as goal

pub returns : goal.returns
returns c = is_made_up
