use Rattle.std.proofs.Common.{◌≡◌, take, drop}
use Rattle.ham_site.specs.Sites.{setting_at}
use Rattle.ham_audit.specs.Faults as faults
use Rattle.ham_audit.specs.Order.{audited}
use Rattle.ham_audit.specs.Records.{log_of, places}
use Rattle.ham_audit.proofs.needs.first_late.Given as goal

abbrev pub invariant-loop-other : goal.invariant-loop-other
invariant-loop-other l =
    faults.late_need (setting_at l.site) (audited (setting_at l.site) l.logs) l.call.place (places (take l.index (log_of l.logs l.replica))) (places (drop l.other-index l.front))
    ≡ faults.late_need (setting_at l.site) (audited (setting_at l.site) l.logs) l.call.place (places (take l.index (log_of l.logs l.replica))) (places l.front)
