use Rattle.std.proofs.Common.{sym, subst}
use Rattle.ham_replica.specs.Values.{Replica}
use Rattle.ham_journal.specs.declared.input.Input.TheVariants as inputs
use Rattle.ham_journal.specs.declared.input.Reply.TheVariants as replies
use Rattle.ham_journal.specs.declared.entry.Mark.TheVariants as marks
use Rattle.ham_core.specs.Kept.{Does}
use Rattle.ham_core.proofs.Doing.{tick_does, nothing_done}
use Rattle.ham_core.proofs.work.ticked.Goals as goal

pub returns-in-Ok : goal.returns-in-Ok
returns-in-Ok c =
    rw (c.mark.ensures, c.in-Ok.ensures.same)
    (tick_does c.args.replica.now c.args.boxes.now c.put-sent.new.self c.in-Ok.turn.logged c.in-Ok.turn.out c.in-Ok.turn.settled c.put-sent.result
    c.requires.settled c.requires.placed c.requires.sound c.in-Ok.ensures.turn c.put-sent.ensures.boxes c.put-sent.ensures.count)

pub returns-in-Err : goal.returns-in-Err
returns-in-Err c = rw c.in-Err.ensures.same (nothing_done c.args.replica.now c.args.boxes.now inputs.Tick c.requires.sound)
