use Rattle.ham_replica.proofs.Turned.{ticks_if}
use Rattle.ham_replica.proofs.replica.Replica.tick.Goals as goal

pub returns-clause-turn : goal.returns-clause-turn
returns-clause-turn c = rw (← c.self.view_is) (ticks_if _ _ c.tick_in.result c.self.invariant c.tick_in.ensures)
