use Rattle.ham_buffer.proofs.Scan.{taken}
use Rattle.ham_buffer.proofs.buffer.Buffer.take_ready.Goals as goal

pub returns : goal.returns
returns c = taken _ _ _ _ _ _ c.in_ok-place.ensures c.take.ensures.call c.take.ensures.place c.take.ensures.rest
