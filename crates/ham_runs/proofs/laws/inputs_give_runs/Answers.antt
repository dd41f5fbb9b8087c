use Rattle.ham_turns.specs.Settings.{rules_of, setting_of}
use Rattle.ham_runs.proofs.Following.{notes_follow, inputs_give_runs}
use Rattle.ham_runs.proofs.OneRun.{runs_one}
use Rattle.ham_runs.proofs.laws.inputs_give_runs.Goals as goal

pub returns : goal.returns
returns c = record {
  noted = λ o p planned. notes_follow (rules_of o) (setting_of p) (c.plans_are_settings.ensures o p planned);
  computed = λ o p planned. inputs_give_runs (rules_of o) (setting_of p) (c.plans_are_settings.ensures o p planned);
  one = λ o p planned. runs_one (rules_of o) (setting_of p) (c.plans_are_settings.ensures o p planned);
}
