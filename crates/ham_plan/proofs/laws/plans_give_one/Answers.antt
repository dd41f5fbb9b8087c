use Rattle.ham_plan.proofs.OnePlan.{gives_same}
use Rattle.ham_plan.proofs.laws.plans_give_one.Goals as goal

pub returns : goal.returns
returns c p q is_p is_q same = gives_same p q is_p is_q same
