use Rattle.ham_grammar.proofs.Printed.{printed_spells, printed_read}
use Rattle.ham_grammar.proofs.laws.printed_lines_are_read_back.Goals as goal

pub returns-clause-spells : goal.returns-clause-spells
returns-clause-spells c = printed_spells

pub returns-clause-read : goal.returns-clause-read
returns-clause-read c = printed_read
