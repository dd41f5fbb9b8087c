use Rattle.ham_syntax.specs.declared.limits.TheConstants.{MAX_LANES}
use Rattle.std.proofs.Common.{◌≡◌, ℕ, ◌<◌, ◌≤◌, length, take, drop, slice_index, []}
use Rattle.ham_site.specs.Sites.{rules_at, setting_at}
use Rattle.ham_audit.specs.Faults as faults
use Rattle.ham_audit.specs.Records.{log_of}
use Rattle.ham_audit.proofs.positions.log_fault.Given as goal

abbrev pub invariant-loop-i : goal.invariant-loop-i
invariant-loop-i l = record {
  log : l.log ≡ log_of l.logs l.replica;
  rest : faults.fault_along (rules_at l.site) (setting_at l.site) l.logs l.replica (take l.i l.log) (drop l.i l.log) ≡
      faults.fault_along (rules_at l.site) (setting_at l.site) l.logs l.replica [] l.log;
  size : length l.counts ≡ MAX_LANES;
  counts : (k : ℕ) → k < MAX_LANES → slice_index l.counts k ≡ faults.lane_count (take l.i l.log) k;
  few : (k : ℕ) → k < MAX_LANES → slice_index l.counts k ≤ l.i;
}
