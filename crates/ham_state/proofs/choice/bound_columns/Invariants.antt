use Rattle.std.proofs.Common.{◌≤◌, length}
use Rattle.ham_state.proofs.choice.bound_columns.Given as goal

abbrev pub invariant-loop-i : goal.invariant-loop-i
invariant-loop-i l = length l.columns ≤ l.i
