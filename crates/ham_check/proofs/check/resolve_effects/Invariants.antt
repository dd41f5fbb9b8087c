use Rattle.std.specs.List.{AllByRecursion}
use Rattle.ham_syntax.specs.Typed.{IsTypedEffect}
use Rattle.ham_check.specs.Faults.{effect_faults}
use Rattle.ham_check.specs.Resolved.{resolved_effect}
use Rattle.ham_check.proofs.Walked.{IsWalked}
use Rattle.ham_check.proofs.check.resolve_effects.Given as goal

abbrev pub invariant-loop-i : goal.invariant-loop-i
invariant-loop-i l = record { typed : AllByRecursion IsTypedEffect l.effects; walked : IsWalked (effect_faults l.fn.scope.declared.relations.now l.fn.scope.declared.counters.now l.fn.entry l.fn.scope.params.now) (resolved_effect l.fn.scope.declared.relations.now l.fn.scope.declared.counters.now l.fn.scope.params.now) l.raw l.i l.effects }
