use Rattle.ham_world.proofs.Reached.{worlds_faithful}
use Rattle.ham_world.proofs.laws.worlds_are_faithful.Goals as goal

pub returns : goal.returns
returns c = worlds_faithful c.runs_are_faithful.ensures c.inputs_give_runs.ensures.computed
