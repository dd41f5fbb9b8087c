use Rattle.std.proofs.Common.{arith}
use Rattle.ham_bulk.specs.Drafts.{swept_so_far}
use Rattle.ham_bulk.proofs.After.{receiver_more, all_from, still_going, still_replica, is_next, all_passed}
use Rattle.ham_bulk.proofs.sweep.sweep_from.Goals as goal

pub sweep_to-requires-clause-going : goal.sweep_to-requires-clause-going
sweep_to-requires-clause-going c = still_going _ _ _ _ c.loop-receiver.invariant.script c.requires.going

pub sweep_to-requires-clause-from : goal.sweep_to-requires-clause-from
sweep_to-requires-clause-from c = still_replica _ _ _ _ _ c.loop-receiver.invariant.script c.requires.from

pub sweep_to-requires-clause-to : goal.sweep_to-requires-clause-to
sweep_to-requires-clause-to c = still_replica _ _ _ _ _ c.loop-receiver.invariant.script (is_next c.args.world.now.plan _ c.loop-receiver.receiver c.replicas-receiver-end.ensures.replicas (omega arith))

pub loop-receiver-preserved : goal.loop-receiver-preserved
loop-receiver-preserved c = receiver_more _ _ _ _ _ _ _ (swept_so_far c.args.world.now c.args.draft.now c.args.reached.now) c.args.from c.loop-receiver.receiver c.loop-receiver.invariant c.in_ok-sweep_to.ensures

pub returns : goal.returns
returns c = all_from _ _ _ _ (swept_so_far c.args.world.now c.args.draft.now c.args.reached.now) c.args.from c.loop-receiver.receiver
    (all_passed c.args.world.now.plan _ c.loop-receiver.receiver c.replicas-receiver-end.ensures.replicas (omega arith) (omega arith)) c.loop-receiver.invariant
