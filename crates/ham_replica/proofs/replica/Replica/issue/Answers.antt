use Rattle.ham_replica.proofs.Turned.{issues}
use Rattle.ham_replica.proofs.replica.Replica.issue.Goals as goal

pub returns-clause-turn : goal.returns-clause-turn
returns-clause-turn c = rw (← c.self.view_is) (issues _ _ _ _ c.issue_in.result c.self.invariant c.issue_in.ensures)
