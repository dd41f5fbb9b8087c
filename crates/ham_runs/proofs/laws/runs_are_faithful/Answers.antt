use Rattle.ham_turns.specs.Settings.{rules_of, setting_of}
use Rattle.ham_runs.proofs.Safe.{runs_are_faithful}
use Rattle.ham_runs.proofs.laws.runs_are_faithful.Goals as goal

pub returns : goal.returns
returns c o p planned = runs_are_faithful (rules_of o) (setting_of p) (c.plans_are_settings.ensures o p planned)
