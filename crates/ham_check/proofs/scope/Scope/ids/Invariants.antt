use Rattle.std.proofs.Common.{◌≡◌, map, take, drop}
use Rattle.ham_syntax.specs.Typed.{AreTyped}
use Rattle.ham_check.specs.Faults.{ids_ills}
use Rattle.ham_check.specs.Resolved.{resolved_term}
use Rattle.ham_check.proofs.scope.Scope.ids.Given as goal

abbrev pub invariant-loop-term : goal.invariant-loop-term
invariant-loop-term l = record {
  done : l.ids ≡ map (resolved_term l.self.params.now) (take l.term-index l.terms);
  typed : AreTyped l.ids;
  rest : ids_ills l.any l.self.params.now l.terms ≡ ids_ills l.any l.self.params.now (drop l.term-index l.terms);
}
