use Rattle.std.proofs.Common.{◌≡◌, ◌-◌, ◌+◌}
use Rattle.std.specs.List.{range_with_len}
use Rattle.ham_site.specs.Sites.{setting_at}
use Rattle.ham_audit.specs.Faults as faults
use Rattle.ham_audit.specs.Order.{order}
use Rattle.ham_audit.specs.Records.{log_of}
use Rattle.ham_audit.proofs.auditing.cycle_fault.Given as goal

abbrev pub invariant-loop-replica : goal.invariant-loop-replica
invariant-loop-replica l =
    faults.first_among (λ r. faults.left_along (setting_at l.site) (order (setting_at l.site) l.logs) r 1 (log_of l.logs r)) (range_with_len l.replica ((setting_at l.site).replicas + 1 - l.replica)) ≡
    faults.cycle_fault (setting_at l.site) l.logs
