use Rattle.ham_laws.proofs.Banking.{bank_checked, withdrawals_sound}
use Rattle.ham_laws.proofs.Paying.{payments_well, payments_ordered, payments_shared, payments_numbered}
use Rattle.ham_laws.proofs.bank.orders_differ.Goals as goal

pub returns-clause-checked : goal.returns-clause-checked
returns-clause-checked c = bank_checked

pub returns-clause-sound : goal.returns-clause-sound
returns-clause-sound c = withdrawals_sound

pub returns-clause-well : goal.returns-clause-well
returns-clause-well c = payments_well

pub returns-clause-ordered : goal.returns-clause-ordered
returns-clause-ordered c = payments_ordered

pub returns-clause-shared : goal.returns-clause-shared
returns-clause-shared c = payments_shared

pub returns-clause-numbered : goal.returns-clause-numbered
returns-clause-numbered c = payments_numbered
