use Rattle.ham_node.proofs.Hiding.{each_hidden}
use Rattle.ham_node.proofs.locked.enter_all_locked.Goals as goal

pub returns-clause-told : goal.returns-clause-told
returns-clause-told g c = each_hidden _ _ _ _ _ _ _ _ _ c.enter_each-stopped.ensures.told
