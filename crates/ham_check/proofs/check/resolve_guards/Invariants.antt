use Rattle.std.specs.List.{AllByRecursion}
use Rattle.ham_syntax.specs.Typed.{IsTypedGuard}
use Rattle.ham_check.specs.Faults.{guard_faults}
use Rattle.ham_check.specs.Resolved.{resolved_guard}
use Rattle.ham_check.proofs.Walked.{IsWalked}
use Rattle.ham_check.proofs.check.resolve_guards.Given as goal

abbrev pub invariant-loop-i : goal.invariant-loop-i
invariant-loop-i l = record { typed : AllByRecursion IsTypedGuard l.guards; walked : IsWalked (guard_faults l.fn.scope.declared.relations.now l.fn.scope.declared.counters.now l.fn.entry l.fn.scope.params.now) (resolved_guard l.fn.scope.declared.relations.now l.fn.scope.declared.counters.now l.fn.scope.params.now) l.raw l.i l.guards }
