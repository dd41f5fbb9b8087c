use Rattle.std.proofs.Common.{◌≡◌, ◌+◌, ◌-◌, ◌≤◌, arith, length}
use Rattle.ham_wire.proofs.Spans.{parts-span, length-parts}
use Rattle.ham_wire.proofs.link.Link.span.Goals as goal

pub part-requires-clause-last : goal.part-requires-clause-last
part-requires-clause-last c =
    let v : length c.args.self.now ≡ length c.self.inside.ends.items = rw (← c.self.view_is) (length-parts 0 c.self.inside.ends.items c.self.inside.bytes) in
    rw c.as_slice-ends.ensures.value (omega (arith, v, c.requires.last))

pub returns : goal.returns
returns c =
    let v : length c.args.self.now ≡ length c.self.inside.ends.items = rw (← c.self.view_is) (length-parts 0 c.self.inside.ends.items c.self.inside.bytes) in
    let k : c.args.last ≡ (c.args.first - 1) + (c.args.last + 1 - c.args.first) = omega (arith, c.requires.first, c.requires.some) in
    let h : c.args.first - 1 ≤ length c.self.inside.ends.items = omega (arith, v, c.requires.last, c.requires.some) in
    rw (← c.self.view_is, parts-span c.self.inside.ends.items c.self.inside.bytes (c.args.first - 1) (c.args.last + 1 - c.args.first) c.args.last k h c.self.invariant)
    (rw (c.as_slice-ends.ensures.value, c.items.ensures) at c.part.ensures)
