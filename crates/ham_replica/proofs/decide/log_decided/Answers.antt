use Rattle.std.proofs.Common.{arith}
use Rattle.ham_replica.proofs.Loggable.{state_small, log_few}
use Rattle.ham_replica.proofs.decide.log_decided.Goals as goal

pub apply-requires-clause-small : goal.apply-requires-clause-small
apply-requires-clause-small c = state_small _ _ c.requires.kept

pub put_decided-requires-clause-many : goal.put_decided-requires-clause-many
put_decided-requires-clause-many c =
    let count = c.requires.kept.counted c.slot_of-slot.result in
    let few = log_few _ _ c.requires.kept in
    omega arith
