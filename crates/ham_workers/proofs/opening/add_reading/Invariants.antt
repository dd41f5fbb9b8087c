use Rattle.std.proofs.Common.{◌≡◌, ◌+◌, ◌≤◌, length, vec_len}
use Rattle.ham_workers.proofs.opening.add_reading.Given as goal

abbrev pub invariant-loop-peer : goal.invariant-loop-peer
invariant-loop-peer g l = record {
  each : vec_len l.tasks ≡ vec_len l.initial.tasks + length l.yielded;
  later : g.B.Switchboard.faults l.initial.board ≤ g.B.Switchboard.faults l.board;
}
