use Rattle.std.proofs.Common.{refl}
use Rattle.ham_plan.proofs.Slipping.{two_free_plan, other_decider}
use Rattle.ham_plan.proofs.laws.slips_in_numbers_show.Goals as goal

pub returns : goal.returns
returns c = record { plan = two_free_plan; decider = other_decider; right_decider = refl; slot = refl }
