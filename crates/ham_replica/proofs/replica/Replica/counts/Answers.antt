use Rattle.std.proofs.Common.{ℕ, List, length, get_or, ap, ◌∙◌}
use Rattle.ham_replica.proofs.replica.Replica.counts.Goals as goal

pub returns-clause-many : goal.returns-clause-many
returns-clause-many c = rw (← c.self.view_is) (ap length c.deref.ensures.value ∙ c.self.invariant.shaped.logged)

pub returns-clause-each : goal.returns-clause-each
returns-clause-each c = rw (← c.self.view_is) (λ l. ap (λ (xs : List ℕ). get_or xs l 0) c.deref.ensures.value ∙ c.self.invariant.lanes l)
