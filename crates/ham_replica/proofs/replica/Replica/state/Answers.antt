use Rattle.ham_site.specs.Sites.{IsBounded}
use Rattle.ham_replica.proofs.Loggable.{state_within}
use Rattle.ham_replica.proofs.replica.Replica.state.Goals as goal

pub returns-clause-small : goal.returns-clause-small
unfolding IsBounded
returns-clause-small c = state_within _ _ c.self.invariant
