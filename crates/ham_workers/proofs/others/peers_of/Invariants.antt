use Rattle.std.proofs.Common.{◌≡◌, ◌+◌, vec_len}
use Rattle.ham_workers.proofs.others.peers_of.Given as goal

abbrev pub invariant-loop-below : goal.invariant-loop-below
invariant-loop-below g l = vec_len l.peers + 1 ≡ l.below

abbrev pub invariant-loop-above : goal.invariant-loop-above
invariant-loop-above g l = vec_len l.peers + 2 ≡ l.above
