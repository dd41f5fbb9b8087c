use Rattle.std.proofs.Common.{◌≡◌, [], replicate}
use Rattle.ham_core.specs.Boxing.{lists_of, AreRoomy}
use Rattle.ham_core.proofs.boxes.Boxes.new.Given as goal

abbrev pub invariant-loop-number : goal.invariant-loop-number
invariant-loop-number l =
    record {
      roomy : AreRoomy l.held.items;
      empty : lists_of l.held.items ≡ replicate l._number [];
    }
