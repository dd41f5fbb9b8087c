use Rattle.std.proofs.Common.{refl}
use Rattle.ham_slips.proofs.Checks.{tags_checked}
use Rattle.ham_slips.proofs.Showing.{tags_dont_commute}
use Rattle.ham_slips.proofs.laws.parameters_may_be_equal.Goals as goal

pub returns : goal.returns
returns c = record { checked = tags_checked; put = refl; drop = refl; derived = refl; right_rule = refl; fails = tags_dont_commute }
