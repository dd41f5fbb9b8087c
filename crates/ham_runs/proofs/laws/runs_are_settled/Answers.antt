use Rattle.ham_turns.specs.Settings.{rules_of, setting_of}
use Rattle.ham_runs.proofs.Settled.{ready_by_needs, runs_are_settled, torn_and_ticks_leave}
use Rattle.ham_runs.proofs.laws.runs_are_settled.Goals as goal

pub returns : goal.returns
returns c = record {
  ready_by_needs = λ o p planned. ready_by_needs (rules_of o) (setting_of p) (c.plans_are_settings.ensures o p planned);
  settled = λ o p planned. runs_are_settled (rules_of o) (setting_of p) (c.plans_are_settings.ensures o p planned);
  words_stay = λ o p planned. torn_and_ticks_leave (rules_of o) (setting_of p) (c.plans_are_settings.ensures o p planned);
}
