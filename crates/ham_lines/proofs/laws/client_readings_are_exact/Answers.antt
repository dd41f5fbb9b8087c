use Rattle.ham_lines.proofs.ClientReadings.{no_fault, one_fault}
use Rattle.ham_lines.proofs.laws.client_readings_are_exact.Goals as goal

pub returns-clause-line : goal.returns-clause-line
returns-clause-line c = no_fault

pub returns-clause-fault : goal.returns-clause-fault
returns-clause-fault c = one_fault
