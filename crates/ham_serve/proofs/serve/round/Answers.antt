use Rattle.std.proofs.Common.{refl, inr, subst, Bool}
use Rattle.ham_core.specs.Doors.{StoppedBy}
use Rattle.ham_serve.proofs.Talks.{round_none, halt_none}
use Rattle.ham_links.proofs.Sending.{goes_none}
use Rattle.ham_serve.proofs.serve.round.Goals as goal

pub returns-then-stopped-clause-off : goal.returns-then-stopped-clause-off
returns-then-stopped-clause-off g c = halt_none _ _ _ _ _ _ _ _ _ _ _ c.stopped.ensures.history (rw c.in-Ok-Quiet.field-0-is at c.in-Ok-Quiet.ensures.takes) c.get.ensures.sent
    (rw c.get.ensures.sent (goes_none _), inr (refl, c.requires.held, rw c.stopped.ensures.history (subst (λ (b : Bool). StoppedBy (g.D.Door.object c.args.door.now) (g.D.Door.plan c.args.door.now) (g.D.Door.me c.args.door.now) (g.D.Door.history c.args.door.now) b) c.if-stopped.true c.stopped.ensures.told)))

pub returns-in-Ok-Quiet-clause-on : goal.returns-in-Ok-Quiet-clause-on
returns-in-Ok-Quiet-clause-on g c = round_none _ _ _ _ _ _ _ _ _ _ c.requires.held c.stopped.ensures.history (rw c.in-Ok-Quiet.field-0-is at c.in-Ok-Quiet.ensures.takes) c.get.ensures.sent

pub returns-in-Ok-End-clause-off : goal.returns-in-Ok-End-clause-off
returns-in-Ok-End-clause-off g c = halt_none _ _ _ _ _ _ _ _ _ _ _ refl (rw c.in-Ok-End.field-0-is at c.in-Ok-End.ensures.takes).0 c.get.ensures.sent
    (let e = (rw c.in-Ok-End.field-0-is at c.in-Ok-End.ensures.takes) in (rw c.get.ensures.sent (goes_none _), refl, c.requires.held, rw e.0 e.1))

pub returns-in-Err-clause-off : goal.returns-in-Err-clause-off
returns-in-Err-clause-off g c = halt_none _ _ _ _ _ _ _ _ _ _ _ refl c.in-Err.ensures.takes c.get.ensures.sent tt
