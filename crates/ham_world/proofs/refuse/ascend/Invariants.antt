use Rattle.std.proofs.Common.{◌≡◌, drop}
use Rattle.ham_wire.specs.Cuts.{is_ascending}
use Rattle.ham_world.proofs.refuse.ascend.Given as goal

abbrev pub invariant-loop-cut : goal.invariant-loop-cut
invariant-loop-cut l = is_ascending 0 l.cuts l.end ≡ is_ascending l.last (drop l.cut-index l.cuts) l.end
