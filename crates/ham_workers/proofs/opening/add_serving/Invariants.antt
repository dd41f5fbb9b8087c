use Rattle.std.proofs.Common.{◌≡◌, ◌+◌, ◌≤◌, vec_len}
use Rattle.ham_workers.proofs.opening.add_serving.Given as goal

abbrev pub invariant-loop-worker : goal.invariant-loop-worker
invariant-loop-worker g l = record {
  each : vec_len l.tasks + 1 ≡ vec_len l.initial.tasks + l.worker;
  later : g.B.Switchboard.faults l.initial.board ≤ g.B.Switchboard.faults l.board;
}
