use Rattle.ham_bulk.proofs.After.{ok_then, round_taken, round_empty}
use Rattle.ham_bulk.proofs.draft.Draft.round.Goals as goal

pub returns-in-Some : goal.returns-in-Some
returns-in-Some c = ok_then c.take.result (round_taken c.args.world.now c.take.new.world c.args.self.now c.take.new.self c.round-event.result c.in-Some.event c.round-event.ensures c.in-Some.is) c.take.ensures

pub returns-in-None : goal.returns-in-None
returns-in-None c = round_empty c.args.world.now c.args.self.now c.round-event.result c.round-event.ensures c.in-None.is
