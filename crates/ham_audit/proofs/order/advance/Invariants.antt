use Rattle.std.proofs.Common.{◌≡◌}
use Rattle.ham_audit.specs.Records.{log_of}
use Rattle.ham_audit.specs.Passing.{at_of, IsAt}
use Rattle.ham_audit.proofs.order.advance.Given as goal

abbrev pub invariant-loop-i : goal.invariant-loop-i
invariant-loop-i l = record {
  at : IsAt l.site l.logs l.progress;
  count : l.progress.count ≡ l.fn.progress.count;
  here : at_of l.progress.at.items l.replica ≡ l.i;
  log : l.log ≡ log_of l.logs l.replica;
}
