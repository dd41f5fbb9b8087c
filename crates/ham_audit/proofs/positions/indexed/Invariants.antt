use Rattle.std.proofs.Common.{◌≡◌, ◌-◌, ◌^◌, ◌<◌, length, take}
use Rattle.std.specs.Prelude.{All}
use Rattle.ham_audit.proofs.positions.indexed.Given as goal

abbrev pub invariant-loop-log : goal.invariant-loop-log
invariant-loop-log l = record {
  logs : l.indexed ≡ take l.log-index l.logs;
  few : All (λ log. length log < 2 ^ 32 - 1) l.indexed;
}
