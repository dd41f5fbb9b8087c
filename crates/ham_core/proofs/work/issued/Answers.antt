use Rattle.std.proofs.Common.{length, ap, arith}
use Rattle.ham_core.proofs.Doing.{log_grows, issue_does, issue_refused}
use Rattle.ham_core.proofs.work.issued.Goals as goal

pub grown-count-requires : goal.grown-count-requires
grown-count-requires c =
    let t = c.in-Ok.ensures.turn in
    omega (arith, ap length c.log-old.ensures.log, log_grows _ _ _ _ _ _ _ t.1)

pub put-requires : goal.put-requires
put-requires c = let t = c.in-Ok.ensures.turn in t.1.sends.few

pub returns-in-Ok : goal.returns-in-Ok
returns-in-Ok c =
    let t = c.in-Ok.ensures.turn in
    rw c.mark.ensures
    (issue_does c.args.replica.now c.issue.new.self c.args.boxes.now c.put.new.self c.args.act.now c.in-Ok.turn.answer c.in-Ok.turn.logged c.in-Ok.turn.out c.in-Ok.turn.settled c.grown-count.result
    c.requires.settled c.requires.placed c.requires.sound t.0 t.1 c.in-Ok.ensures.site (omega (arith, c.grown-count.ensures, ap length c.log-old.ensures.log)) c.put.ensures.boxes)

pub returns-in-Err : goal.returns-in-Err
returns-in-Err c =
    rw (c.not_issued-mark.ensures.mark, c.not_issued-mark.ensures.reply)
    (issue_refused c.args.replica.now c.issue.new.self c.args.boxes.now c.args.act.now c.in-Err.why c.requires.settled c.requires.sound c.in-Err.ensures.turn)
