use Rattle.std.proofs.Common.{arith}
use Rattle.ham_bulk.specs.Drafts.{swept_so_far}
use Rattle.ham_bulk.proofs.After.{sender_more, swept_all, still_going, still_replica, is_next, all_passed}
use Rattle.ham_bulk.proofs.sweep.sweep.Goals as goal

pub sweep_from-requires-clause-going : goal.sweep_from-requires-clause-going
sweep_from-requires-clause-going c = still_going _ _ _ _ c.loop-sender.invariant.script c.requires

pub sweep_from-requires-clause-from : goal.sweep_from-requires-clause-from
sweep_from-requires-clause-from c = still_replica _ _ _ _ _ c.loop-sender.invariant.script (is_next c.args.world.now.plan _ c.loop-sender.sender c.replicas-sender-end.ensures.replicas (omega arith))

pub loop-sender-preserved : goal.loop-sender-preserved
loop-sender-preserved c = sender_more _ _ _ _ _ _ _ (swept_so_far c.args.world.now c.args.draft.now c.args.reached.now) c.loop-sender.sender c.loop-sender.invariant c.in_ok-sweep_from.ensures

pub returns : goal.returns
returns c = swept_all _ _ _ _ (swept_so_far c.args.world.now c.args.draft.now c.args.reached.now) c.loop-sender.sender
    (all_passed c.args.world.now.plan _ c.loop-sender.sender c.replicas-sender-end.ensures.replicas (omega arith) (omega arith)) c.loop-sender.invariant
