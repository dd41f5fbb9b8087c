use Rattle.std.proofs.Common.{◌≡◌, ◌≤◌}
use Rattle.ham_audit.specs.Passing.{IsAt}
use Rattle.ham_audit.proofs.order.take_all.Given as goal

abbrev pub invariant-loop : goal.invariant-loop
invariant-loop l = record {
  at : IsAt l.site l.logs l.progress;
  count : l.progress.count ≡ l.counter;
}
