use Rattle.std.proofs.Common.{◌≡◌, ℕ, ◌-◌, ◌≤◌, length}
use Rattle.std.specs.Prelude.{slice_index}
use Rattle.ham_plan.specs.Plans.{slot_of}
use Rattle.ham_site.proofs.tables.slots_of.Given as goal

abbrev pub invariant-loop-before : goal.invariant-loop-before
invariant-loop-before l = record {
  long : length l.slots ≡ 8;
  found : (r : ℕ) → 1 ≤ r → r ≤ l.before → slice_index l.slots (r - 1) ≡ slot_of l.plan l.method r;
}
