use Rattle.ham_check.proofs.FirstFault.{Checks-placed}
use Rattle.ham_check.proofs.check.effect_entry.Goals as goal

pub returns-clause-checks : goal.returns-clause-checks
returns-clause-checks c = Checks-placed _ _ _ c.resolve_effect.result c.placed.result c.resolve_effect.ensures.resolved c.placed.ensures.placed
