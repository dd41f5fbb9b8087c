use Rattle.std.proofs.Common.{ap, ◌≡◌, List}
use Rattle.ham_turns.specs.declared.event.Event.{Event}
use Rattle.ham_bulk.proofs.After.{ok_then, ok_both, is_taken, is_refused}
use Rattle.ham_bulk.proofs.draft.Draft.step.Goals as goal

pub returns-in-Ok : goal.returns-in-Ok
returns-in-Ok c = ok_then c.push.result (λ (h : c.push.new.self ≡ _). is_taken _ _ c.args.event _ _ _ c.requires c.in-Ok.ensures.steps (ap (λ (es : List Event). record c.args.self.now { events = es }) h)) c.push.ensures.ok

pub returns-in-Err : goal.returns-in-Err
returns-in-Err c = ok_both c.refuse.result (λ h k. is_refused _ _ c.args.event _ _ _ c.requires c.in-Err.ensures.steps k h) c.refuse.ensures.refused c.refuse.ensures.reason
