use Rattle.ham_witness.specs.ExampleText.{row_lines_of}
use Rattle.ham_witness.proofs.Written.{Lined}
use Rattle.ham_witness.proofs.printer.push_rows.Given as goal

abbrev pub invariant-loop-r : goal.invariant-loop-r
invariant-loop-r l = Lined (row_lines_of l.object l.state.content) l.r l.initial.text l.text
