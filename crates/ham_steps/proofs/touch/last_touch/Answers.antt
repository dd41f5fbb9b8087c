use Rattle.std.proofs.Common.{◌∙◌, sym, arith}
use Rattle.ham_steps.proofs.Touching.{touch_first, touch_next, touch_last}
use Rattle.ham_steps.proofs.touch.last_touch.Goals as goal

pub loop-step-init : goal.loop-step-init
loop-step-init c = touch_first c.args.steps.now c.args.relation c.args.row.now

pub loop-step-preserved : goal.loop-step-preserved
loop-step-preserved c =
    touch_next c.args.steps.now c.loop-step.step-index c.step-item.result c.args.relation c.args.row.now c.loop-step.last c.touched-last.result
    c.loop-step-test.true c.step-item.is c.touched-last.ensures ∙ c.loop-step.invariant

pub returns : goal.returns
returns c = sym (touch_last c.args.steps.now c.loop-step.step-index c.args.relation c.args.row.now c.loop-step.last (omega arith)) ∙ c.loop-step.invariant
