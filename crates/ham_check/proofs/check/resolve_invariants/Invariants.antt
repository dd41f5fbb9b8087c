use Rattle.std.proofs.Common.{◌≤◌}
use Rattle.std.specs.List.{AllByRecursion}
use Rattle.ham_syntax.specs.Typed.{IsTypedInvariant}
use Rattle.ham_check.specs.Faults.{invariant_faults}
use Rattle.ham_check.specs.Resolved.{resolved_invariant}
use Rattle.ham_check.proofs.Walked.{IsWalked}
use Rattle.ham_check.proofs.check.resolve_invariants.Given as goal

abbrev pub invariant-loop-i : goal.invariant-loop-i
invariant-loop-i l = record { few : l.i ≤ 32; typed : AllByRecursion IsTypedInvariant l.invariants; walked : IsWalked (invariant_faults l.fn.declared.relations.now l.fn.declared.counters.now) (resolved_invariant l.fn.declared.relations.now l.fn.declared.counters.now) l.raw l.i l.invariants }
