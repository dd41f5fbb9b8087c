use Rattle.std.proofs.Common.{◌≡◌, drop}
use Rattle.ham_steps.specs.Pattern.{matches}
use Rattle.ham_steps.proofs.pattern.row_matches.Given as goal

abbrev pub invariant-loop-i : goal.invariant-loop-i
invariant-loop-i l = matches l.pattern l.row ≡ matches (drop l.i l.pattern) (drop l.i l.row)
