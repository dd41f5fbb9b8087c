use Rattle.std.proofs.Common.{◌≡◌}
use Rattle.std.specs.Prelude.{replicate}
use Rattle.ham_world.proofs.Opened.{nothing_fed}
use Rattle.ham_world.proofs.open.decoders.Given as goal

abbrev pub invariant-loop-i : goal.invariant-loop-i
invariant-loop-i l = l.decoders.items ≡ replicate l._i nothing_fed
