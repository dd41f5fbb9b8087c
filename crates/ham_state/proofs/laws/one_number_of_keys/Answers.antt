use Rattle.ham_content.proofs.Numbers.{one_number}
use Rattle.ham_state.proofs.laws.one_number_of_keys.Goals as goal

pub returns : goal.returns
returns c = one_number
