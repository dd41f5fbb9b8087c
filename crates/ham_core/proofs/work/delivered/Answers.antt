use Rattle.std.proofs.Common.{length, ap, arith}
use Rattle.ham_core.proofs.Doing.{log_grows, deliver_does, deliver_refused}
use Rattle.ham_core.proofs.work.delivered.Goals as goal

pub grown-count-requires : goal.grown-count-requires
grown-count-requires c =
    let t = c.in-Ok.ensures.turn in
    omega (arith, ap length c.log-old.ensures.log, log_grows _ _ _ _ _ _ _ (t.1 0))

pub put-requires : goal.put-requires
put-requires c = let t = c.in-Ok.ensures.turn in (t.1 0).sends.few

pub returns-in-Ok : goal.returns-in-Ok
returns-in-Ok c =
    let t = c.in-Ok.ensures.turn in
    rw c.mark.ensures
    (deliver_does c.args.replica.now c.deliver.new.self c.args.boxes.now c.put.new.self c.args.from c.args.frame.now c.in-Ok.turn.answer c.in-Ok.turn.logged c.in-Ok.turn.out c.in-Ok.turn.settled c.grown-count.result
    c.requires.settled c.requires.placed c.requires.sound c.requires.peer.other t.0 (t.1 0) c.in-Ok.ensures.site (omega (arith, c.grown-count.ensures, ap length c.log-old.ensures.log)) c.put.ensures.boxes)

pub returns-in-Err : goal.returns-in-Err
returns-in-Err c =
    rw (c.not_delivered-mark.ensures.mark, c.not_delivered-mark.ensures.reply)
    (deliver_refused c.args.replica.now c.deliver.new.self c.args.boxes.now c.args.from c.args.frame.now c.in-Err.why c.requires.settled c.requires.sound c.in-Err.ensures.turn)
