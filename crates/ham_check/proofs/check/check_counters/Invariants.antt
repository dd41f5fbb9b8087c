use Rattle.std.proofs.Common.{◌≤◌}
use Rattle.std.specs.List.{AllByRecursion}
use Rattle.std.specs.Prelude.{IsTrue}
use Rattle.ham_syntax.specs.Names.{is_name}
use Rattle.ham_syntax.specs.declared.object.Counter.{Counter}
use Rattle.ham_check.specs.Faults.{counter_faults}
use Rattle.ham_check.proofs.Walked.{IsWalked}
use Rattle.ham_check.proofs.check.check_counters.Given as goal

abbrev pub invariant-loop-i : goal.invariant-loop-i
invariant-loop-i l = record { few : l.i ≤ 16; named : AllByRecursion (λ c. IsTrue (is_name c.name)) l.counters; walked : IsWalked (counter_faults l.fn.relations) (λ (c : Counter). c) l.raw l.i l.counters }
