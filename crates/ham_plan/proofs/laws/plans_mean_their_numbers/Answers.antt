use Rattle.ham_plan.proofs.Meanings.{groups_mean, lanes_mean, slots_mean, arrays_mean}
use Rattle.ham_plan.proofs.laws.plans_mean_their_numbers.Goals as goal

pub returns : goal.returns
returns c = record { groups = groups_mean; lanes = lanes_mean; slots = slots_mean; arrays = arrays_mean }
