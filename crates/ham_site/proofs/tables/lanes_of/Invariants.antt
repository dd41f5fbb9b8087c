use Rattle.std.proofs.Common.{◌≡◌, ℕ, ◌-◌, ◌≤◌, length}
use Rattle.std.specs.Prelude.{slice_index}
use Rattle.ham_plan.specs.Plans.{lane_of}
use Rattle.ham_site.proofs.tables.lanes_of.Given as goal

abbrev pub invariant-loop-before : goal.invariant-loop-before
invariant-loop-before l = record {
  long : length l.lanes ≡ 8;
  found : (r : ℕ) → 1 ≤ r → r ≤ l.before → slice_index l.lanes (r - 1) ≡ lane_of l.plan l.method r;
}
