use Rattle.std.proofs.Common.{◌≡◌, [], take, drop}
use Rattle.ham_check.specs.Faults.{has_bad_column}
use Rattle.ham_syntax.specs.Checked.{AreColumns}
use Rattle.ham_check.proofs.invariants.resolve_columns.Given as goal

abbrev pub invariant-loop-i : goal.invariant-loop-i
invariant-loop-i l = record {
  done : l.resolved ≡ take l.i l.columns;
  good : AreColumns l.width (take l.i l.columns);
  rest : has_bad_column l.width [] l.columns ≡ has_bad_column l.width (take l.i l.columns) (drop l.i l.columns);
}
