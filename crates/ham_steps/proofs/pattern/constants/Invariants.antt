use Rattle.std.proofs.Common.{◌≡◌, length, map, take}
use Rattle.ham_syntax.specs.declared.term.Term.TheVariants.{Const}
use Rattle.ham_steps.proofs.pattern.constants.Given as goal

abbrev pub invariant-loop-i : goal.invariant-loop-i
invariant-loop-i l = record {
  room : length l.ids ≡ 4;
  so_far : map Const (take l.i l.ids) ≡ take l.i l.pattern;
}
