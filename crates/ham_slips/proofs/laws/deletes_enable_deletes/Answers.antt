use Rattle.std.proofs.Common.{refl}
use Rattle.ham_slips.proofs.Checks.{school_checked}
use Rattle.ham_slips.proofs.Showing.{courses_wait}
use Rattle.ham_slips.proofs.laws.deletes_enable_deletes.Goals as goal

pub returns : goal.returns
returns c = record { checked = school_checked; close = refl; leave = refl; derived = refl; right_rule = refl; fails = courses_wait }
