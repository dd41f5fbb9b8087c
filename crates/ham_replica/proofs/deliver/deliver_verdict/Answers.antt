use Rattle.std.proofs.Common.{sym, ◌∙◌, inr}
use Rattle.ham_replica.specs.Shown.{lists_of}
use Rattle.ham_replica.proofs.Verdicts.{first_delivered, again_delivered, unknown_refused}
use Rattle.ham_replica.proofs.deliver.deliver_verdict.Goals as goal

pub returns-in-Ok-First : goal.returns-in-Ok-First
returns-in-Ok-First c =
    let told = rw c.in-Ok-First.field-0-is at c.in-Ok-First.ensures in
    first_delivered c.args.site.now (lists_of c.args.held.now) c.args.reply.now.from c.args.reply.now.group c.args.reply.now.number c.args.reply.now.ruling c.requires.may
    (sym c.is_led_by-yours.ensures ∙ c.if-not-yours.false) c.on_verdict.new.self c.plain.result c.none.result told.0 told.1 told.2 c.plain.ensures c.none.ensures

pub returns-in-Ok-Again : goal.returns-in-Ok-Again
returns-in-Ok-Again c =
    let told = rw c.in-Ok-Again.field-0-is at c.in-Ok-Again.ensures in
    again_delivered c.args.site.now (lists_of c.args.held.now) c.args.reply.now.from c.args.reply.now.group c.args.reply.now.number c.args.reply.now.ruling c.requires.may
    (sym c.is_led_by-yours.ensures ∙ c.if-not-yours.false) c.on_verdict.new.self c.plain-in-Ok-Again.result c.none-in-Ok-Again.result told.0 told.1 c.plain-in-Ok-Again.ensures c.none-in-Ok-Again.ensures

pub returns-in-Err-Unknown : goal.returns-in-Err-Unknown
returns-in-Err-Unknown c =
    let told = rw c.in-Err-Unknown.field-0-is at c.in-Err-Unknown.ensures in (
      (λ i. record (lists_of c.args.held.now) { asks = told.2 i }),
      inr (unknown_refused c.args.site.now (lists_of c.args.held.now) c.args.reply.now.from c.args.reply.now.group c.args.reply.now.number c.args.reply.now.ruling c.requires.may
          (sym c.is_led_by-yours.ensures ∙ c.if-not-yours.false) _ c.requires.some told.0 (c.in-Err-Unknown.len-is ∙ told.1)),
    )
