use Rattle.ham_meaning.specs.OfObjects.{meaning}
use Rattle.ham_laws.proofs.Places.{same_place}
use Rattle.ham_laws.proofs.Drain.{drains_reach, drained_closed, drains_one, drains_alike, log_grows}
use Rattle.ham_laws.proofs.turns.drains_list_the_reach.Goals as goal

pub returns : goal.returns
returns c o checked p e delivered log after known drains = (
  λ d. drains_reach (meaning o) p e delivered same_place log after drains d,
  λ h. drained_closed (meaning o) p e delivered known drains h,
  λ ordered reordered other same also. drains_one (meaning o) p e delivered same_place ordered known log after other drains (drains_alike (meaning o) p e delivered reordered same also),
  log_grows (meaning o) p e delivered drains,
)
