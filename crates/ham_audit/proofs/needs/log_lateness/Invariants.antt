use Rattle.std.proofs.Common.{◌≡◌, length, take, []}
use Rattle.ham_syntax.specs.declared.limits.TheConstants.{MAX_LANES}
use Rattle.ham_site.specs.Sites.{setting_at}
use Rattle.ham_audit.specs.Faults as faults
use Rattle.ham_audit.specs.Lateness.{HasFirst}
use Rattle.ham_audit.specs.Records.{log_of, places}
use Rattle.ham_audit.proofs.Timely.{late_from}
use Rattle.ham_audit.proofs.needs.log_lateness.Given as goal

abbrev pub invariant-loop-i : goal.invariant-loop-i
invariant-loop-i l = record {
  log : l.log ≡ log_of l.logs l.replica;
  size : length l.counts ≡ MAX_LANES;
  firsts : HasFirst l.counts (places (take l.i (log_of l.logs l.replica)));
  rest : late_from (setting_at l.site) l.logs l.replica l.i ≡ faults.late_along (setting_at l.site) l.logs l.replica [] (places (log_of l.logs l.replica));
}
