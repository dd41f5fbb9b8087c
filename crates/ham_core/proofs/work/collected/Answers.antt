use Rattle.ham_core.proofs.Doing.{collect_does}
use Rattle.ham_core.proofs.work.collected.Goals as goal

pub returns-in-Ok : goal.returns-in-Ok
returns-in-Ok c = collect_does c.args.replica.now c.args.boxes.now c.drop_first.new.self c.args.peer c.in-Ok.frames c.requires.settled c.requires.sound c.in-Ok.ensures c.drop_first.ensures
