use Rattle.ham_replay.proofs.Answering.{equal_by}
use Rattle.ham_replay.proofs.asking.are_equal.Goals as goal

pub returns : goal.returns
returns c = equal_by _ _ _ _ _ c.state.ensures.state c.state-2.ensures.state c.equal.ensures
