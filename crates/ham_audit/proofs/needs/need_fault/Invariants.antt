use Rattle.std.proofs.Common.{◌≡◌, ◌-◌, ◌+◌, []}
use Rattle.std.specs.List.{range_with_len}
use Rattle.ham_site.specs.Sites.{setting_at}
use Rattle.ham_audit.specs.Faults as faults
use Rattle.ham_audit.specs.Records.{log_of, places}
use Rattle.ham_audit.proofs.needs.need_fault.Given as goal

abbrev pub invariant-loop-replica : goal.invariant-loop-replica
invariant-loop-replica l =
    faults.first_among (λ r. faults.late_along (setting_at l.site) l.logs r [] (places (log_of l.logs r))) (range_with_len l.replica ((setting_at l.site).replicas + 1 - l.replica)) ≡
    faults.need_fault (setting_at l.site) l.logs
