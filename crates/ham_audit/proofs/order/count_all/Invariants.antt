use Rattle.std.proofs.Common.{◌≡◌, ◌+◌, ◌*◌, ◌^◌, ◌≤◌, length, take, drop}
use Rattle.ham_audit.specs.Records.{every_place}
use Rattle.ham_audit.proofs.order.count_all.Given as goal

abbrev pub invariant-loop-log : goal.invariant-loop-log
invariant-loop-log l = record {
  count : l.count + length (every_place (drop l.log-index l.logs)) ≡ length (every_place l.logs);
  few : l.count ≤ l.log-index * 2 ^ 24;
}
