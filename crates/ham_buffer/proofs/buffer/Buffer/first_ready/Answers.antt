use Rattle.std.proofs.Common.{arith, sym, ap, ◌∙◌}
use Rattle.ham_buffer.specs.Buffers.{Buffer}
use Rattle.ham_buffer.proofs.Scan.{first_found, none_found}
use Rattle.ham_buffer.proofs.buffer.Buffer.first_ready.Goals as goal

pub returns-then-is_met : goal.returns-then-is_met
returns-then-is_met c = first_found _ _ _ _ (sym c.is_met.ensures ∙ c.if-is_met.true) c.loop-lane.invariant

pub returns : goal.returns
returns c =
    let kept = rw c.self.view_is at c.self.invariant in
    let lanes = ap (λ (b : Buffer). b.lanes) c.self.view_is in
    none_found _ _ _ _ kept (omega arith) c.loop-lane.invariant
