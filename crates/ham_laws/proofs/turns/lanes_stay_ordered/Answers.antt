use Rattle.ham_meaning.specs.OfObjects.{meaning}
use Rattle.ham_laws.proofs.Lanes.{lanes_later, numbered_later, lanes_kept, numbered_kept}
use Rattle.ham_laws.proofs.turns.lanes_stay_ordered.Goals as goal

pub returns-clause-decisions : goal.returns-clause-decisions
returns-clause-decisions c o checked p e later r d number well turn next ordered numbered = (
  lanes_later (meaning o) p e later r d well turn next.logged ordered,
  numbered_later (meaning o) p e later r d well turn next.logged number numbered next.next,
)

pub returns-clause-drains : goal.returns-clause-drains
returns-clause-drains c o checked p e later r delivered number well turn ordered numbered = (
  lanes_kept (meaning o) p e later well turn.extends turn.decided ordered,
  numbered_kept (meaning o) p e later well turn.extends turn.decided number numbered,
)

pub returns-clause-deliveries : goal.returns-clause-deliveries
returns-clause-deliveries c o p e later number well turn ordered numbered = (
  lanes_kept (meaning o) p e later well turn.extends turn.decided ordered,
  numbered_kept (meaning o) p e later well turn.extends turn.decided number numbered,
)
