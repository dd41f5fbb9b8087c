use Rattle.std.proofs.Common.{◌≡◌, ◌++◌, map, take}
use Rattle.std.specs.Prelude.{codes}
use Rattle.ham_text.specs.Written.{lines_text}
use Rattle.ham_witness.specs.ExampleText.{named_line}
use Rattle.ham_witness.proofs.printer.push_rows_of.Given as goal

abbrev pub invariant-loop-row : goal.invariant-loop-row
invariant-loop-row l = l.text ≡ l.initial.text ++ lines_text (map (named_line (codes "row") l.name) (take l.row-index l.rows))
