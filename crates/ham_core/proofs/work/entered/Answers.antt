use Rattle.std.proofs.Common.{false}
use Rattle.ham_journal.specs.declared.entry.Mark.TheVariants as marks
use Rattle.ham_journal.specs.declared.input.Reply.TheVariants as replies
use Rattle.ham_syntax.specs.declared.act.Call.{Call}
use Rattle.ham_site.specs.Sites.{Site}
use Rattle.ham_turns.specs.Settings.{setting_of}
use Rattle.ham_turns.specs.Ready.{IsSettled}
use Rattle.ham_replica.specs.Values.{words}
use Rattle.ham_journal.specs.Closed.{IsPlaced}
use Rattle.ham_journal.specs.Replies.{MayEnter}
use Rattle.ham_core.specs.Waits.{AreSound}
use Rattle.ham_core.proofs.Doing.{makes, nothing_done, placed_by, sound_by, enter_by}
use Rattle.ham_core.proofs.work.entered.Goals.{then-settled, else-settled}
use Rattle.ham_core.proofs.work.entered.Goals as goal

pub work-requires-clause-placed : goal.work-requires-clause-placed
work-requires-clause-placed c = placed_by c.args.replica.now c.settle_first-before.new.replica c.settle_first-before.ensures.decided c.requires.placed

pub work-requires-clause-sound : goal.work-requires-clause-sound
work-requires-clause-sound c = sound_by c.args.replica.now c.settle_first-before.new.replica c.args.boxes.now c.settle_first-before.ensures.decided c.requires.sound

pub work-requires-clause-deliver : goal.work-requires-clause-deliver
work-requires-clause-deliver c = enter_by c.args.replica.now c.settle_first-before.new.replica c.args.input c.settle_first-before.ensures.site c.requires.deliver

pub returns : goal.returns
returns c = elim c.if-settled.branch [
  | then-settled w ↦ rw (w.replica-is, w.boxes-is, w.stopped-is, w.logged-is)
      (makes c.args.replica.now c.settle_first-before.new.replica w.work.new.replica c.args.boxes.now w.work.new.boxes w.work.new.stopped c.args.seat c.settle_first-before.result.0 c.args.input w.work.result.0 w.work.result.1 w.work.result.2
      c.settle_first-before.ensures.drained c.settle_first-before.ensures.decided c.settle_first-before.ensures.site w.work.ensures)
  | else-settled w ↦ rw (w.replica-is, w.boxes-is, w.stopped-is, w.logged-is, c.requires.going)
      (makes c.args.replica.now c.settle_first-before.new.replica c.settle_first-before.new.replica c.args.boxes.now c.args.boxes.now false c.args.seat c.settle_first-before.result.0 c.args.input 0 marks.NoMemory replies.NoMemory
      c.settle_first-before.ensures.drained c.settle_first-before.ensures.decided c.settle_first-before.ensures.site
      (nothing_done c.settle_first-before.new.replica c.args.boxes.now c.args.input (sound_by c.args.replica.now c.settle_first-before.new.replica c.args.boxes.now c.settle_first-before.ensures.decided c.requires.sound)))
]
