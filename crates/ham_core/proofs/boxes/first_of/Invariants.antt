use Rattle.std.proofs.Common.{◌≡◌, map, take}
use Rattle.ham_replica.specs.Values.{words}
use Rattle.ham_core.specs.Waits.{shown}
use Rattle.ham_core.proofs.boxes.first_of.Given as goal

abbrev pub invariant-loop-at : goal.invariant-loop-at
invariant-loop-at l =
    record {
      frames : l.frames.items ≡ map (shown (words l.replica.lists).decided) (take l.at l.queue.items);
    }
