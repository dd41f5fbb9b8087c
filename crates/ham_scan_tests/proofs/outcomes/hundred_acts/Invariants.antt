use Rattle.std.proofs.Common.{◌≡◌, ℕ, ◌*◌, ◌^◌, ◌≤◌}
use Rattle.std.specs.Prelude.{nat_abs}
use Rattle.ham_state.specs.Content.{value}
use Rattle.ham_scan_tests.proofs.outcomes.hundred_acts.Given as goal

abbrev pub invariant-loop : goal.invariant-loop
invariant-loop l = record {
  opened : l.state.invariants ≡ l.object.invariants;
  values : (c k : ℕ) → nat_abs (value l.state.content c k) ≤ l.counter * 2 ^ 35;
}
