use Rattle.std.proofs.Common.{refl}
use Rattle.ham_slips.proofs.Checks.{seats_checked}
use Rattle.ham_slips.proofs.Showing.{seats_clash}
use Rattle.ham_slips.proofs.laws.keys_are_apart_in_the_key.Goals as goal

pub returns : goal.returns
returns c = record { checked = seats_checked; first = refl; second = refl; derived = refl; fails = seats_clash }
