use Rattle.ham_witness.specs.ExampleText.{value_lines_of}
use Rattle.ham_witness.proofs.Written.{Lined}
use Rattle.ham_witness.proofs.printer.push_values.Given as goal

abbrev pub invariant-loop-c : goal.invariant-loop-c
invariant-loop-c l = Lined (value_lines_of l.object l.ids l.state.content) l.c l.initial.text l.text
