use Rattle.ham_runs.proofs.OnePlan.{one_setting}
use Rattle.ham_runs.proofs.laws.plans_have_one_setting.Goals as goal

pub returns : goal.returns
returns c p q is_p is_q same = one_setting p q is_p is_q same
