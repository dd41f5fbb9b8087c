use Rattle.ham_replay.proofs.Faithful.{faithful}
use Rattle.ham_replay.proofs.laws.replays_are_faithful.Goals as goal

pub returns : goal.returns
returns c = faithful c.inputs_give_runs.ensures.computed c.runs_are_faithful.ensures c.readings_are_computed.ensures.reading
