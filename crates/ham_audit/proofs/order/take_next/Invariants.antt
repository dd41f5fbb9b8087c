use Rattle.std.proofs.Common.{◌≡◌}
use Rattle.ham_site.specs.Sites.{setting_at}
use Rattle.ham_audit.specs.Order.{next_taken, taken_after}
use Rattle.ham_audit.specs.Passing.{IsAt}
use Rattle.ham_audit.proofs.Choosing.{next_from}
use Rattle.ham_audit.proofs.order.take_next.Given as goal

abbrev pub invariant-loop-replica : goal.invariant-loop-replica
invariant-loop-replica l = record {
  at : IsAt l.site l.logs l.progress;
  count : l.progress.count ≡ l.fn.progress.count;
  rest : next_from (setting_at l.site) l.logs (taken_after (setting_at l.site) l.logs l.progress.count) l.replica (setting_at l.site).replicas
      ≡ next_taken (setting_at l.site) l.logs (taken_after (setting_at l.site) l.logs l.progress.count);
}
