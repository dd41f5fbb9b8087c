use Rattle.ham_replay.proofs.Faithful.{all_runs}
use Rattle.ham_replay.proofs.laws.replays_are_runs.Goals as goal

pub returns : goal.returns
returns c = all_runs c.inputs_give_runs.ensures.computed c.readings_are_computed.ensures.reading
