use Rattle.ham_lane.proofs.Pushed.{number_found}
use Rattle.ham_lane.proofs.in_lane.InLane.call.Goals as goal

pub returns-clause-number : goal.returns-clause-number
returns-clause-number c = number_found _ _ _ _ c.self.invariant.numbers c.deref.ensures.value c.call_numbered.ensures
