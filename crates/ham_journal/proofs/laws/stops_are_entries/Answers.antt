use Rattle.ham_journal.proofs.Stops.{stopped_by_stop}
use Rattle.ham_journal.proofs.laws.stops_are_entries.Goals as goal

pub returns : goal.returns
returns c = stopped_by_stop
