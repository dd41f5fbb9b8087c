use Rattle.ham_replica.proofs.Turned.{call_there}
use Rattle.ham_replica.proofs.replica.Replica.call_at.Goals as goal

pub returns-clause-logged : goal.returns-clause-logged
returns-clause-logged c = rw (c.call_logged.ensures, ← c.self.view_is) (call_there _ _ _ c.self.invariant)
