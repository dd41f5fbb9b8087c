use Rattle.ham_lane.proofs.Pushed.{in_more}
use Rattle.ham_lane.proofs.in_lane.InLane.accept_reserved.Goals as goal

pub invariant_of-self : goal.invariant_of-self
invariant_of-self c =
    let few = rw (← c.self.view_is) at c.requires.few in
    let number = rw (← c.self.view_is) at c.requires.next in
    in_more _ _ _ c.self.invariant few number c.push_reserved.ensures.items
