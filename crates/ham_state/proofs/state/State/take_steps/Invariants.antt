use Rattle.std.proofs.Common.{◌≡◌, ℕ, ◌+◌, ◌*◌, ◌^◌, ◌≤◌, drop}
use Rattle.std.specs.Prelude.{nat_abs}
use Rattle.ham_steps.specs.Content.{value}
use Rattle.ham_steps.specs.Steps.{after_steps}
use Rattle.ham_state.proofs.state.State.take_steps.Given as goal

abbrev pub invariant-loop-step : goal.invariant-loop-step
invariant-loop-step l = record {
  done : after_steps (drop l.step-index l.steps) l.self.content ≡ after_steps l.steps l.initial.self.content;
  invariants : l.self.invariants ≡ l.initial.self.invariants;
  spare : l.initial.self.spare ≤ l.self.spare + l.step-index;
  values : (c k : ℕ) → nat_abs (value l.self.content c k) ≤ 2 ^ 100 + l.step-index * 2 ^ 50;
}
