use Rattle.std.proofs.Common.{arith}
use Rattle.ham_lists.proofs.Padded.{IsPadded-copied}
use Rattle.ham_steps.specs.Nothing.{nothing}
use Rattle.ham_steps.proofs.step.Net.new.Goals as goal

pub invariant_of-result : goal.invariant_of-result
invariant_of-result c = IsPadded-copied nothing 8 c.args.items.now _ c.copy_from_slice.ensures.after (omega arith)
