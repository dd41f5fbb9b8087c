use Rattle.ham_turns.specs.Settings.{rules_of, setting_of}
use Rattle.ham_runs.proofs.Single.{logs_follow}
use Rattle.ham_runs.proofs.PlanSettings.{plan_single}
use Rattle.ham_runs.proofs.laws.logs_follow.Goals as goal

pub returns : goal.returns
returns c o p planned single = logs_follow (rules_of o) (setting_of p) (c.plans_are_settings.ensures o p planned) (plan_single p planned.plan single.conflict)
