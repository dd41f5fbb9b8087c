use Rattle.ham_journal.proofs.Closing.{histories_recorded}
use Rattle.ham_journal.proofs.laws.histories_are_recorded.Goals as goal

pub returns : goal.returns
returns c = histories_recorded
