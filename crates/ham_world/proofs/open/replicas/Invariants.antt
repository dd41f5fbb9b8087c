use Rattle.std.proofs.Common.{◌≡◌, ℕ, ◌-◌, ◌≤◌, length, Some}
use Rattle.std.specs.Prelude.{slice_get}
use Rattle.ham_world.specs.Opened.{opened}
use Rattle.ham_world.proofs.open.replicas.Given as goal

abbrev pub invariant-loop-before : goal.invariant-loop-before
invariant-loop-before l = (length l.replicas.items ≡ l.before) × ((r : ℕ) → 1 ≤ r → r ≤ l.before → slice_get l.replicas.items (r - 1) ≡ Some (opened l.object l.plan r))
