use Rattle.std.proofs.Common.{◌≡◌, arith}
use Rattle.ham_resend.proofs.Open.{calls_step, calls_stop, calls_all}
use Rattle.ham_resend.proofs.due.due_calls.Goals as goal
use Rattle.ham_resend.proofs.due.due_calls.Goals.{else-loop-more-test, then-loop-more-test+in-None}

pub loop-more-preserved : goal.loop-more-preserved
loop-more-preserved c = calls_step _ _ _ _ _ _ _ _ c.acked-acked.ensures.acked c.in-Some.ensures.call c.loop-more.invariant c.in_ok-push-in-Some.ensures.items c.in_ok-copy-in-Some.ensures

pub returns : goal.returns
returns c = elim c.loop-more-test.branch [
  | else-loop-more-test w ↦ let full : c.loop-more.more ≡ 16 = omega arith in calls_all c.args.lane.now.calls _ _ _ full c.loop-more.invariant
  | then-loop-more-test+in-None w ↦ calls_stop _ _ _ _ _ c.acked-acked.ensures.acked w.in-None.ensures.call c.loop-more.auto.more-end c.loop-more.invariant
]
