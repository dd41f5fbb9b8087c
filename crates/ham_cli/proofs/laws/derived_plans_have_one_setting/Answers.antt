use Rattle.ham_cli.proofs.OneRun.{one_setting}
use Rattle.ham_cli.proofs.laws.derived_plans_have_one_setting.Goals as goal

pub returns : goal.returns
returns c = one_setting c.derived_plans_say_one.ensures.same c.plans_have_one_setting.ensures
