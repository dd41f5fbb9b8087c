use Rattle.ham_lines.proofs.ClientReadings.{one_spelling, one_line}
use Rattle.ham_lines.proofs.laws.client_lines_have_one_reading.Goals as goal

pub returns-clause-written : goal.returns-clause-written
returns-clause-written c = one_spelling

pub returns-clause-line : goal.returns-clause-line
returns-clause-line c = one_line
