use Rattle.std.proofs.Common.{refl, ap}
use Rattle.std.specs.Prelude.{Err}
use Rattle.ham_wire.proofs.Decoded.{no_fault}
use Rattle.ham_wire.proofs.pieces.feed.Goals as goal

pub unreachable-requires : goal.unreachable-requires
unreachable-requires c =
    let h = rw c.in-Err-Bad.field-0-is at c.in-Err-Bad.ensures.refused in
    no_fault _ _ _ c.requires.viable (h c.requires.working c.in-Err-Bad.field-0-0 c.in-Err-Bad.field-0-1 refl).refused
