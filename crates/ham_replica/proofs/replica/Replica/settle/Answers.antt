use Rattle.ham_replica.proofs.Turned.{drained}
use Rattle.ham_replica.proofs.replica.Replica.settle.Goals as goal
use Rattle.ham_replica.proofs.replica.Replica.settle.Goals.{then-drain, else-drain}

pub returns-clause-drain : goal.returns-clause-drain
returns-clause-drain c =
    let drains = rw c.new-places.ensures.items at c.drain.ensures in
    rw (← c.self.view_is) (elim c.if-drain.branch [
      | then-drain w ↦ rw (w.result-is, w.from.ensures) (drained _ _ _ _ _ (rw w.if-drain.true at drains))
      | else-drain w ↦ rw w.result-is (c.drain.new.places.items, drained _ _ _ _ _ (rw w.if-drain.false at drains))
    ])
