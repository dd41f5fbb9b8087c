use Rattle.std.proofs.Common.{◌≡◌, ◌-◌, ◌+◌, []}
use Rattle.std.specs.List.{range_with_len}
use Rattle.ham_site.specs.Sites.{rules_at, setting_at}
use Rattle.ham_audit.specs.Faults as faults
use Rattle.ham_audit.specs.Records.{log_of}
use Rattle.ham_audit.proofs.positions.place_fault.Given as goal

abbrev pub invariant-loop-replica : goal.invariant-loop-replica
invariant-loop-replica l =
    faults.first_among (λ r. faults.fault_along (rules_at l.site) (setting_at l.site) l.logs r [] (log_of l.logs r)) (range_with_len l.replica ((setting_at l.site).replicas + 1 - l.replica)) ≡
    faults.place_fault (rules_at l.site) (setting_at l.site) l.logs
