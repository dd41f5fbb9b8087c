use Rattle.ham_tables.specs.DerivedPlans.{depends_of}
use Rattle.ham_tables.proofs.Filling.{AreFilled}
use Rattle.ham_tables.proofs.derived.dependencies.Given as goal

abbrev pub invariant-loop-m : goal.invariant-loop-m
invariant-loop-m l = AreFilled (depends_of l.deriver.object.now) l.deriver.methods l.m l.grid.at
