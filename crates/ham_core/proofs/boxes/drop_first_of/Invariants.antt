use Rattle.std.proofs.Common.{◌≡◌, drop}
use Rattle.ham_core.proofs.boxes.drop_first_of.Given as goal

abbrev pub invariant-loop-taken : goal.invariant-loop-taken
invariant-loop-taken l =
    record {
      items : l.queue.items ≡ drop l._taken l.initial.queue.items;
      cap : l.queue.cap ≡ l.initial.queue.cap;
    }
