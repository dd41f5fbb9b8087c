use Rattle.ham_grammar.proofs.Printed.{print_reads}
use Rattle.ham_grammar.proofs.printer.print_line.Goals as goal

pub returns-clause-read : goal.returns-clause-read
returns-clause-read c = print_reads c.args.object.now c.args.line.now c.printed.result c.methods-checked.ensures.checked c.printed.ensures.spells
