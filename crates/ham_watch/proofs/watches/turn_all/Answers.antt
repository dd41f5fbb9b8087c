use Rattle.std.proofs.Common.{arith, ◌+◌}
use Rattle.ham_watch.proofs.Moves.{invariants-moved}
use Rattle.ham_watch.proofs.watches.turn_all.Goals as goal

pub returns-clause-invariants : goal.returns-clause-invariants
returns-clause-invariants c = invariants-moved _ (λ n. n + 1) c.args.watches.now c.loop-watch.watches c.loop-watch.watch-index (omega arith) c.loop-watch.invariant
