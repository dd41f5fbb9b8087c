use Rattle.std.proofs.Common.{◌<◌, arith}
use Rattle.ham_resend.proofs.Open.{due_begins, open_now, told_now}
use Rattle.ham_resend.proofs.asks.due_from.Goals as goal
use Rattle.ham_resend.proofs.asks.due_from.Goals.{in-None+in_ok-push, in_default}

pub loop-at-init : goal.loop-at-init
loop-at-init c = rw c.new-frames.ensures.items (due_begins _ _ _ c.requires)

pub loop-at-preserved : goal.loop-at-preserved
loop-at-preserved c = elim c.match-ask.branch [
  | in-None+in_ok-push w ↦
      let few = c.loop-at.invariant.few in
      let room : c.loop-at.count < 16 = omega arith in
      rw (w.count-is, w.frames-is, w.in_ok-push.ensures.items) (open_now _ _ _ _ _ _ c.loop-at.invariant c.loop-at-test.true room c.index-made-at.is w.in-None.is)
  | in_default w ↦ rw (w.count-is, w.frames-is) (told_now _ _ _ _ _ _ c.loop-at.invariant c.loop-at-test.true c.index-made-at.is w.in_default.not-None)
]
