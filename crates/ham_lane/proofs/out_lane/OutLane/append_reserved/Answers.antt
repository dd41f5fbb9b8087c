use Rattle.ham_lane.proofs.Pushed.{out_more}
use Rattle.ham_lane.proofs.out_lane.OutLane.append_reserved.Goals as goal

pub invariant_of-self : goal.invariant_of-self
invariant_of-self c =
    let few = rw (← c.self.view_is) at c.requires.few in
    let number = rw (← c.self.view_is) at c.requires.next in
    out_more _ _ _ _ c.self.invariant few number c.push_reserved.ensures.items
