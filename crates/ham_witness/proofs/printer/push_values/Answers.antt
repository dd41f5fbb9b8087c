use Rattle.ham_witness.specs.ExampleText.{value_lines_of}
use Rattle.ham_witness.proofs.Written.{lined-more}
use Rattle.ham_witness.proofs.printer.push_values.Goals as goal

pub loop-c-preserved : goal.loop-c-preserved
loop-c-preserved c = lined-more (value_lines_of c.args.object.now c.args.ids c.args.state.now.content) c.loop-c.c c.args.text.now c.loop-c.text _ c.loop-c.invariant c.in_ok-push_values_of.ensures
