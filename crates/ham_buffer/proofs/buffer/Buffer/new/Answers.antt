use Rattle.std.proofs.Common.{ap}
use Rattle.ham_buffer.specs.Buffers.{map_of}
use Rattle.ham_buffer.proofs.Keeping.{begun_kept}
use Rattle.ham_buffer.proofs.buffer.Buffer.new.Goals as goal

pub invariant_of-result : goal.invariant_of-result
invariant_of-result c = begun_kept _ _ _ c.requires.lanes c.requires.slots (ap map_of c.new.ensures.empty)
