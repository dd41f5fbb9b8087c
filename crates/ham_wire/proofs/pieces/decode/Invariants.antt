use Rattle.std.proofs.Common.{◌≡◌, ◌≤◌, true, length, drop}
use Rattle.ham_wire.specs.Cuts.{is_ascending}
use Rattle.ham_wire.proofs.Decoded.{IsReading}
use Rattle.ham_wire.proofs.pieces.decode.Given as goal

abbrev pub invariant-loop-cut : goal.invariant-loop-cut
invariant-loop-cut l =
    IsReading l.bytes l.fn.frames l.frames l.fn.decoder l.decoder l.start
    × (is_ascending l.start (drop l.cut-index l.cuts) (length l.bytes) ≡ true)
    × (l.start ≤ length l.bytes)
