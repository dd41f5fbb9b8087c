use Rattle.std.proofs.Common.{◌+◌, ◌*◌, ◌^◌, ◌∙◌, ap, sym, subst, arith, drop}
use Rattle.std.proofs.lemmas.List.Elements.{All-from_recursion}
use Rattle.ham_steps.specs.Steps.{after_step, after_steps, IsWithin}
use Rattle.ham_steps.proofs.Amounts.{steps_next}
use Rattle.ham_watch.proofs.Unmoved.{value_step}
use Rattle.ham_state.proofs.state.State.take_steps.Goals as goal

pub loop-step-preserved : goal.loop-step-preserved
loop-step-preserved c =
    let i = c.loop-step.step-index in
    let small = subst (IsWithin 1125899906842624) (sym c.step-item.is) (All-from_recursion (IsWithin 1125899906842624) c.args.steps.now c.requires.small c.loop-step.step-index c.step-item.result c.loop-step-test.true) in
    let one = c.take_step.ensures.spare in
    let so_far = c.loop-step.invariant.spare in
    record {
      done =
          ap (after_steps (drop (c.loop-step.step-index + 1) c.args.steps.now)) c.take_step.ensures.content
          ∙ ap (λ st. after_steps (drop (c.loop-step.step-index + 1) c.args.steps.now) (after_step st c.loop-step.self.content)) c.step-item.is
          ∙ sym (steps_next c.args.steps.now c.loop-step.step-index c.step-item.result c.loop-step.self.content c.loop-step-test.true)
          ∙ c.loop-step.invariant.done;
      invariants = c.take_step.ensures.invariants ∙ c.loop-step.invariant.invariants;
      spare = omega arith;
      values = λ d k. omega (arith, value_step c.step-item.result c.loop-step.self.content c.take_step.new.self.content small c.take_step.ensures.content d k (2 ^ 100 + c.loop-step.step-index * 2 ^ 50) (c.loop-step.invariant.values d k));
    }
