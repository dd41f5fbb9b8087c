use Rattle.std.proofs.Common.{◌≡◌, length, vec_len}
use Rattle.ham_workers.proofs.running.seats_back.Given as goal

abbrev pub invariant-loop-end : goal.invariant-loop-end
invariant-loop-end g l = vec_len l.back ≡ length l.yielded
