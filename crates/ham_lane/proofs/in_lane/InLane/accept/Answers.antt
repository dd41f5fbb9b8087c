use Rattle.ham_lane.proofs.Pushed.{in_more}
use Rattle.ham_lane.proofs.in_lane.InLane.accept.Goals as goal

pub invariant_of-self-2 : goal.invariant_of-self-2
invariant_of-self-2 c =
    let few = rw (← c.self.view_is) at c.requires.few in
    let number = rw (← c.self.view_is) at c.requires.next in
    in_more _ _ _ c.self.invariant few number c.in_ok-push.ensures.items
