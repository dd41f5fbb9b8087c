use Rattle.std.proofs.Common.{length, ◌+◌, arith}
use Rattle.ham_core.proofs.Boxed.{few_calls, one_counted, one_more}
use Rattle.ham_core.proofs.boxes.Boxes.put_call.Goals as goal

pub overflow_add-count : goal.overflow_add-count
overflow_add-count c = omega (arith, c.loop-at.invariant.count, c.put_for-count.ensures.count, one_counted c.args.me c.loop-at.at (c.loop-at.at + 1) c.args.call.now (omega arith), few_calls c.args.me (c.loop-at.at + 1) c.args.call.now, c.loop-at-test.true, c.ranges.replicas.fits)
