use Rattle.std.proofs.Common.{◌≡◌, ◌+◌, drop}
use Rattle.ham_site.specs.Sites.{setting_at}
use Rattle.ham_audit.specs.Faults as faults
use Rattle.ham_audit.specs.Order.{taken_after}
use Rattle.ham_audit.specs.Records.{log_of}
use Rattle.ham_audit.proofs.auditing.left_in.Given as goal

abbrev pub invariant-loop-i : goal.invariant-loop-i
invariant-loop-i l = record {
  log : l.log ≡ log_of l.logs l.replica;
  rest : faults.left_along (setting_at l.site) (taken_after (setting_at l.site) l.logs l.progress.count) l.replica (l.i + 1) (drop l.i l.log)
      ≡ faults.left_along (setting_at l.site) (taken_after (setting_at l.site) l.logs l.progress.count) l.replica 1 (log_of l.logs l.replica);
}
