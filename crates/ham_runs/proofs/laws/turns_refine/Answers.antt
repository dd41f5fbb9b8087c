use Rattle.ham_turns.specs.Settings.{rules_of, setting_of}
use Rattle.ham_runs.proofs.Refined.{turns_refine}
use Rattle.ham_runs.proofs.laws.turns_refine.Goals as goal

pub returns : goal.returns
returns c o p planned = turns_refine (rules_of o) (setting_of p) (c.plans_are_settings.ensures o p planned)
