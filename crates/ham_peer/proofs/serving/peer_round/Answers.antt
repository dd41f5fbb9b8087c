use Rattle.std.proofs.Common.{Bool, subst, refl, inr}
use Rattle.ham_core.specs.Doors.{StoppedBy}
use Rattle.ham_peer.proofs.Delivered.{looked, looked_last}
use Rattle.ham_peer.proofs.serving.peer_round.Goals as goal

pub returns-then-stopped-clause-off : goal.returns-then-stopped-clause-off
returns-then-stopped-clause-off g c = looked_last _ _ _ _ _ _ _ _ _ _ _ c.stopped.ensures.history (rw c.in-Ok-Quiet.field-0-is at c.in-Ok-Quiet.ensures.takes)
    (λ start. inr (((c.args.greeted, refl), c.requires.unfinished), rw c.stopped.ensures.history (subst (λ (b : Bool). StoppedBy (g.D.Door.object c.args.door.now) (g.D.Door.plan c.args.door.now) (g.D.Door.me c.args.door.now) (g.D.Door.history c.args.door.now) b) c.if-stopped.true c.stopped.ensures.told)))

pub returns-in-Ok-Quiet-clause-on : goal.returns-in-Ok-Quiet-clause-on
returns-in-Ok-Quiet-clause-on g c = looked _ _ _ _ _ _ _ _ _ _ c.stopped.ensures.history (rw c.in-Ok-Quiet.field-0-is at c.in-Ok-Quiet.ensures.takes) c.requires.working c.requires.unfinished

pub returns-in-Ok-End-clause-off : goal.returns-in-Ok-End-clause-off
returns-in-Ok-End-clause-off g c =
    let e = (rw c.in-Ok-End.field-0-is at c.in-Ok-End.ensures.takes) in
    looked_last _ _ _ _ _ _ _ _ _ _ _ refl e.0 (λ start. (((c.args.greeted, refl), c.requires.unfinished), rw e.0 e.1, c.is_torn.ensures))

pub returns-in-Err-clause-off : goal.returns-in-Err-clause-off
returns-in-Err-clause-off g c = looked_last _ _ _ _ _ _ _ _ _ _ _ refl c.in-Err.ensures.takes (λ start. ((c.args.greeted, refl), c.requires.unfinished))

pub returns-clause-causes : goal.returns-clause-causes
returns-clause-causes g c = c.take_piece.ensures.causes _ _ _ _
