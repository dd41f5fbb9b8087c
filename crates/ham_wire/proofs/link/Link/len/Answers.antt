use Rattle.std.proofs.Common.{ap, length}
use Rattle.ham_wire.proofs.Spans.{length-parts}
use Rattle.ham_wire.proofs.link.Link.len.Goals as goal

pub returns : goal.returns
returns c = rw (← c.self.view_is, length-parts) (ap length c.as_slice.ensures.value)
