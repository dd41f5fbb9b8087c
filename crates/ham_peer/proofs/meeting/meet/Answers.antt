use Rattle.ham_peer.proofs.Delivered.{meets_off}
use Rattle.ham_peer.proofs.meeting.meet.Goals as goal

pub returns-clause-off : goal.returns-clause-off
returns-clause-off g c =
    meets_off (g.D.Door.object c.args.door.now) (g.D.Door.plan c.args.door.now) (g.D.Door.me c.args.door.now) c.args.greeting.now c.args.greeted c.is_farewell-bye.result
    (g.D.Door.history c.args.door.now) (g.D.Door.history c.enter-reply.new.self) c.args.frame c.enter-reply.result c.after.result
    c.if-not-greeted.false c.is_farewell-bye.ensures c.enter-reply.ensures.told c.enter-reply.ensures.kind c.after.ensures.off
