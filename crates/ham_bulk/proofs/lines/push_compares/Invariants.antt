use Rattle.std.proofs.Common.{◌≡◌, ◌-◌, ◌++◌}
use Rattle.std.specs.List.{flat_map, range_with_len}
use Rattle.ham_bulk.specs.ScriptTexts.{compare_line}
use Rattle.ham_bulk.proofs.lines.push_compares.Given as goal

abbrev pub invariant-loop-other : goal.invariant-loop-other
invariant-loop-other l = l.text ≡ l.fn.text ++ flat_map (compare_line l.object) (range_with_len 2 (l.other - 2))
