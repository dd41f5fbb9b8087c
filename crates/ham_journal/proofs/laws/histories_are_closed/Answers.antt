use Rattle.ham_journal.proofs.Closing.{histories_closed}
use Rattle.ham_journal.proofs.laws.histories_are_closed.Goals as goal

pub returns : goal.returns
returns c = histories_closed
