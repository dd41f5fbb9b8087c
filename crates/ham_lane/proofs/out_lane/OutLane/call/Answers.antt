use Rattle.ham_lane.proofs.Pushed.{number_found}
use Rattle.ham_lane.proofs.out_lane.OutLane.call.Goals as goal

pub returns-clause-number : goal.returns-clause-number
returns-clause-number c = number_found _ _ _ _ c.self.invariant.lane.numbers c.deref.ensures.value c.call_numbered.ensures
