use Rattle.std.proofs.Common.{◌≡◌, ◌+◌, length, vec_len}
use Rattle.ham_workers.proofs.running.workers.Given as goal

abbrev pub invariant-loop-task : goal.invariant-loop-task
invariant-loop-task g l = record {
  made : vec_len l.all ≡ length l.yielded;
  taken : l.seats.next ≡ l.initial.seats.next + length l.yielded;
  count : l.seats.count ≡ l.initial.seats.count;
  left : vec_len l.clocks + length l.yielded ≡ vec_len l.initial.clocks;
}
