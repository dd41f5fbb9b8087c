use Rattle.std.proofs.Common.{◌≤◌}
use Rattle.std.specs.List.{AllByRecursion}
use Rattle.ham_syntax.specs.Typed.{IsTypedMethod}
use Rattle.ham_check.specs.Faults.{method_faults}
use Rattle.ham_check.specs.Resolved.{resolved_method}
use Rattle.ham_check.proofs.Walked.{IsWalked}
use Rattle.ham_check.proofs.check.resolve_methods.Given as goal

abbrev pub invariant-loop-i : goal.invariant-loop-i
invariant-loop-i l = record { few : l.i ≤ 32; typed : AllByRecursion IsTypedMethod l.methods; walked : IsWalked (method_faults l.fn.declared.relations.now l.fn.declared.counters.now) (resolved_method l.fn.declared.relations.now l.fn.declared.counters.now) l.raw l.i l.methods }
