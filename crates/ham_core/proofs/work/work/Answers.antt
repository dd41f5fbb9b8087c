use Rattle.std.proofs.Common.{◌∙◌, ap, refl, arith}
use Rattle.std.proofs.lemmas.Int.{to_z-of_z}
use Rattle.ham_steps.specs.Content.{State, value, rows}
use Rattle.ham_core.proofs.Doing.{show_does, rows_does, verdict_does, log_does, counts_do, record_does, stop_does}
use Rattle.ham_core.proofs.work.work.Goals as goal

pub delivered-requires-clause-peer : goal.delivered-requires-clause-peer
delivered-requires-clause-peer c = c.requires.deliver _ _ c.in-Deliver.is

pub returns-in-Show : goal.returns-in-Show
returns-in-Show c =
    let shown = show_does c.args.replica.now c.args.boxes.now c.args.stopped.now c.args.input.now c.in-Show.counter c.in-Show.key c.value-value.result c.requires.settled c.requires.sound c.requires.going c.in-Show.is
    (c.value-value.ensures ∙ ap (λ (s : State). value s c.in-Show.counter c.in-Show.key) c.state.ensures.state) in
    grind (arith, to_z-of_z, shown)

pub returns-in-Ok : goal.returns-in-Ok
returns-in-Ok c =
    rows_does c.args.replica.now c.args.boxes.now c.args.stopped.now c.args.input.now c.in-Rows.relation c.in-Ok.rows c.requires.settled c.requires.sound c.requires.going c.in-Rows.is
    (c.in-Ok.ensures ∙ ap (λ (s : State). rows s c.in-Rows.relation) c.state-in-Rows.ensures.state)

pub returns-in-Verdict : goal.returns-in-Verdict
returns-in-Verdict c =
    verdict_does c.args.replica.now c.args.boxes.now c.args.stopped.now c.args.input.now c.in-Verdict.group c.in-Verdict.number c.verdict-asked.result c.requires.settled c.requires.sound c.requires.going c.in-Verdict.is c.verdict-asked.ensures

pub returns-in-Ok-of : goal.returns-in-Ok-of
returns-in-Ok-of c =
    log_does c.args.replica.now c.args.boxes.now c.args.stopped.now c.args.input.now c.in-Ok-of.log c.requires.settled c.requires.sound c.requires.going c.in-Log.is (c.in-Ok-of.ensures ∙ c.log.ensures.log)

pub returns-in-Ok-of-2 : goal.returns-in-Ok-of-2
returns-in-Ok-of-2 c =
    rw c.in-Ok-of-2.ensures
    (counts_do c.args.replica.now c.args.boxes.now c.args.stopped.now c.args.input.now c.counts.result.now c.requires.settled c.requires.sound c.requires.going c.in-Counts.is c.counts.ensures.many c.counts.ensures.each)

pub returns-in-Ok-logged_calls : goal.returns-in-Ok-logged_calls
returns-in-Ok-logged_calls c =
    record_does c.args.replica.now c.args.boxes.now c.args.stopped.now c.args.input.now c.in-Ok-logged_calls.calls c.requires.settled c.requires.sound c.requires.going c.in-Record.is c.in-Ok-logged_calls.ensures

pub returns-in-Stop : goal.returns-in-Stop
returns-in-Stop c =
    stop_does c.args.replica.now c.args.boxes.now _ c.args.input.now c.requires.settled c.requires.sound refl c.in-Stop.is
