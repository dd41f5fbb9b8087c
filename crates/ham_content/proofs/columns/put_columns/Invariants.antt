use Rattle.std.proofs.Common.{◌-◌}
use Rattle.std.specs.Prelude.{slice_index}
use Rattle.ham_content.proofs.Filling.{Made}
use Rattle.ham_content.proofs.columns.put_columns.Given as goal

abbrev pub invariant-loop-i : goal.invariant-loop-i
invariant-loop-i l = Made (λ c. slice_index l.row (c - 1)) l.columns l.ids l.i
