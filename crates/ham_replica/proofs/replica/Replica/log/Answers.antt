use Rattle.std.proofs.Common.{◌≤◌, length, sym, subst}
use Rattle.ham_replica.proofs.Loggable.{log_few}
use Rattle.ham_replica.proofs.replica.Replica.log.Goals as goal

pub returns-clause-few : goal.returns-clause-few
returns-clause-few c = subst (λ l. length l ≤ 16777216) (sym c.deref.ensures.value) (log_few _ _ c.self.invariant)
