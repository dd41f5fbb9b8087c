use Rattle.ham_turns.specs.Settings.{rules_of, setting_of}
use Rattle.ham_runs.proofs.Safe.{frames_are_taken}
use Rattle.ham_runs.proofs.Room.{lanes_have_room}
use Rattle.ham_runs.proofs.laws.runs_go_on.Goals as goal

pub returns : goal.returns
returns c = record {
  taken = λ o p planned. frames_are_taken (rules_of o) (setting_of p) (c.plans_are_settings.ensures o p planned);
  room = λ o p planned. lanes_have_room (rules_of o) (setting_of p) (c.plans_are_settings.ensures o p planned);
}
