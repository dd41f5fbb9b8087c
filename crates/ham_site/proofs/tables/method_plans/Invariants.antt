use Rattle.std.proofs.Common.{◌≡◌, length}
use Rattle.ham_site.specs.Tables.{AreMethodPlans}
use Rattle.ham_site.proofs.tables.method_plans.Given as goal

abbrev pub invariant-loop-method : goal.invariant-loop-method
invariant-loop-method l = record {
  many : length l.found.items ≡ l.method;
  each : AreMethodPlans l.plan l.found.items;
}
