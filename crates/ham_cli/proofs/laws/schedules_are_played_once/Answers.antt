use Rattle.ham_cli.proofs.OneRun.{played_once}
use Rattle.ham_cli.proofs.laws.schedules_are_played_once.Goals as goal

pub returns : goal.returns
returns c = played_once c.derived_plans_have_one_setting.ensures
