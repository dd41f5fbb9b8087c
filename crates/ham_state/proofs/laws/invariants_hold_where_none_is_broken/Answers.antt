use Rattle.ham_state.proofs.Held.{holds_where_none}
use Rattle.ham_state.proofs.laws.invariants_hold_where_none_is_broken.Goals as goal

pub returns : goal.returns
returns c = holds_where_none
