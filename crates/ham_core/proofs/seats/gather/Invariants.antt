use Rattle.std.proofs.Common.{◌≡◌, ◌+◌, length, sum_by}
use Rattle.ham_core.proofs.seats.gather.Given as goal

abbrev pub invariant-loop-seat : goal.invariant-loop-seat
invariant-loop-seat g l =
    record {
      parts : l.all.parts ≡ l.initial.all.parts + length l.yielded;
      amount : l.all.amount ≡ l.initial.all.amount + sum_by (λ s. s.share.amount) l.yielded;
    }
