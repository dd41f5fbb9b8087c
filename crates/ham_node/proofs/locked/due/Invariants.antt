use Rattle.std.proofs.Common.{◌≡◌}
use Rattle.ham_node.proofs.locked.due.Given as goal

abbrev pub invariant-loop-peer : goal.invariant-loop-peer
invariant-loop-peer g l = l.guarded ≡ l.initial.guarded
