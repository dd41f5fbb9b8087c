use Rattle.std.proofs.Common.{refl}
use Rattle.ham_watch.proofs.Unmoved.{content-same}
use Rattle.ham_watch.proofs.room.reserve_tables.Goals as goal

pub returns-in_err-reserve-clause-content : goal.returns-in_err-reserve-clause-content
returns-in_err-reserve-clause-content c = content-same c.args.facts.now c.args.amounts.now c.reserve.new.self c.args.amounts.now c.in_err-reserve.ensures.keys.2 (λ s. refl)

pub returns-clause-content : goal.returns-clause-content
returns-clause-content c = content-same c.args.facts.now c.args.amounts.now c.reserve.new.self c.reserve-2.new.self c.in_ok-reserve.ensures.keys.2 c.reserve-2.ensures.entries.2
