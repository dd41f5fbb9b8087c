use Rattle.std.proofs.Common.{◌≡◌, ◌+◌, length, vec_len}
use Rattle.ham_workers.proofs.running.fn.work.scope.Given as goal

abbrev pub invariant-loop-worker : goal.invariant-loop-worker
invariant-loop-worker g l = record {
  each : vec_len l.started + vec_len l.refused ≡ length l.yielded;
  none : vec_len l.back ≡ 0;
}

abbrev pub invariant-loop-run : goal.invariant-loop-run
invariant-loop-run g l = vec_len l.back ≡ length l.yielded

abbrev pub invariant-loop-handle : goal.invariant-loop-handle
invariant-loop-handle g l = vec_len l.back ≡ vec_len l.initial.back + length l.yielded
