use Rattle.std.proofs.Common.{◌≡◌, length}
use Rattle.ham_site.specs.Tables.{HasDeciders}
use Rattle.ham_site.proofs.tables.deciders.Given as goal

abbrev pub invariant-loop-lane : goal.invariant-loop-lane
invariant-loop-lane l = record {
  many : length l.found.items ≡ l.lane;
  each : HasDeciders l.plan l.lane l.found.items;
}
