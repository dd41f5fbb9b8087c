use Rattle.std.proofs.Common.{length, refl, ap, arith}
use Rattle.ham_turns.specs.Words.{FrameComes}
use Rattle.ham_frame.specs.declared.frame.Frame.TheVariants as frames
use Rattle.ham_turns.specs.declared.turn.Delivered.TheVariants as delivered
use Rattle.ham_replica.specs.Shown.{lists_of}
use Rattle.ham_replica.proofs.Plain.{as_plain, takes_plain}
use Rattle.ham_replica.proofs.Shaped.{shown_given}
use Rattle.ham_replica.proofs.Testing.{request_may}
use Rattle.ham_replica.proofs.Requesting.{request_again, request_early}
use Rattle.ham_replica.proofs.request.take_request.Goals as goal

pub returns-then-request-next : goal.returns-then-request-next
returns-then-request-next c =
    let next = c.next-next.ensures.next in
    let given = ap length (shown_given c.args.held.now.rulings c.args.request.now.from c.args.request.now.group) in
    let less = c.if-request-next.true in
    takes_plain c.args.site.now (lists_of c.args.held.now) c.args.request.now.from _ c.repeat_ruling.result delivered.Repeat _ c.repeat_ruling.ensures
    (λ which. request_again c.args.site.now (lists_of c.args.held.now) c.requires.may.kept c.requires.may.settled c.args.request.now.from which
    c.args.request.now.group c.args.request.now.number c.args.request.now.act (omega arith))

pub returns-then-next-request : goal.returns-then-next-request
returns-then-next-request c =
    let next = c.next-next.ensures.next in
    let given = ap length (shown_given c.args.held.now.rulings c.args.request.now.from c.args.request.now.group) in
    let more = c.if-next-request.true in
    λ which. as_plain c.args.site.now (lists_of c.args.held.now) (lists_of c.args.held.now)
    (FrameComes c.args.request.now.from which (frames.Request c.args.request.now.group c.args.request.now.number c.args.request.now.act)) c.plain.result delivered.Early c.none.result _ c.plain.ensures c.none.ensures
    (request_early c.args.site.now (lists_of c.args.held.now) c.requires.may.kept c.requires.may.settled c.args.request.now.from which
    c.args.request.now.group c.args.request.now.number c.args.request.now.act (omega arith))

pub rule_request-requires : goal.rule_request-requires
rule_request-requires c =
    let next = c.next-next.ensures.next in
    let given = ap length (shown_given c.args.held.now.rulings c.args.request.now.from c.args.request.now.group) in
    let less = c.if-request-next.false in
    let more = c.if-next-request.false in
    record { may = request_may c.args.site.now (lists_of c.args.held.now) c.args.request.now.from c.requires.may c.args.request.now refl c.requires.accepted c.requires.frame c.requires.few (omega arith) }
