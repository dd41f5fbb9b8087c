use Rattle.ham_tables.specs.DerivedPlans.{depends_of}
use Rattle.ham_tables.proofs.Filling.{IsFilled}
use Rattle.ham_tables.proofs.derived.fill_depends.Given as goal

abbrev pub invariant-loop-n : goal.invariant-loop-n
invariant-loop-n l = IsFilled (depends_of l.deriver.object.now l.m) l.m l.n l.initial.grid.at l.grid.at
