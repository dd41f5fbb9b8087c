use Rattle.std.proofs.Common.{◌≤◌}
use Rattle.std.specs.List.{AllByRecursion}
use Rattle.std.specs.Prelude.{IsTrue}
use Rattle.ham_syntax.specs.Names.{is_name}
use Rattle.ham_syntax.specs.Checked.{IsRelation}
use Rattle.ham_check.specs.Faults.{relation_faults, relation_of}
use Rattle.ham_check.proofs.Walked.{IsWalked}
use Rattle.ham_check.proofs.check.check_relations.Given as goal

abbrev pub invariant-loop-i : goal.invariant-loop-i
invariant-loop-i l = record { few : l.i ≤ 16; each : AllByRecursion IsRelation l.relations; named : AllByRecursion (λ r. IsTrue (is_name r.name)) l.relations; walked : IsWalked relation_faults relation_of l.raw l.i l.relations }
