use Rattle.std.proofs.Common.{◌∙◌, List, sym, ap, subst}
use Rattle.std.proofs.lemmas.List.Elements.{All-from_recursion}
use Rattle.ham_steps.specs.declared.step.Step.{Step}
use Rattle.ham_steps.specs.Steps.{after_steps, IsWithin}
use Rattle.ham_witness.proofs.Made.{taken-none, taken-more}
use Rattle.ham_witness.proofs.states.made.Goals as goal

pub loop-step-init : goal.loop-step-init
loop-step-init c = record { taken = taken-none c.args.steps.now c.in_ok-state.state.content c.in_ok-state.ensures.0; opened = c.in_ok-state.ensures.1 }

pub loop-step-preserved : goal.loop-step-preserved
loop-step-preserved c = record {
  taken =
      taken-more c.args.steps.now c.loop-step.step-index c.step-item.result c.loop-step.state.content c.apply_net.new.self.content c.loop-step-test.true c.step-item.is
      (subst (IsWithin 1125899906842624) (sym c.step-item.is) (All-from_recursion (IsWithin 1125899906842624) c.args.steps.now c.requires.small c.loop-step.step-index c.step-item.result c.loop-step-test.true))
      (c.in_ok-apply_net.ensures.applied ∙ ap (λ (net : List Step). after_steps net c.loop-step.state.content) (rw c.unwrap-net.ensures at c.new.ensures).1) c.loop-step.invariant.taken;
  opened = c.apply_net.ensures.invariants ∙ c.loop-step.invariant.opened;
}
