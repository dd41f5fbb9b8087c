use Rattle.std.proofs.Common.{ap}
use Rattle.std.specs.Prelude.{unwrap_or}
use Rattle.ham_watch.proofs.room.reserve_tallies.Goals as goal

pub returns-clause-counts : goal.returns-clause-counts
returns-clause-counts c = λ k. ap (λ o. unwrap_or o 0) (c.reserve.ensures.entries.2 k)
