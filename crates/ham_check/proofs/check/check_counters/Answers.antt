use Rattle.std.proofs.Common.{arith}
use Rattle.std.proofs.lemmas.List.{map-id}
use Rattle.ham_check.proofs.Walked.{IsWalked-all}
use Rattle.ham_check.proofs.check.check_counters.Goals as goal

pub returns-clause-checks : goal.returns-clause-checks
returns-clause-checks c = rw map-id at (IsWalked-all _ _ c.args.raw.now c.loop-i.i c.loop-i.counters c.loop-i.invariant.walked (omega arith))
