use Rattle.std.proofs.Common.{◌≡◌, ◌∙◌, List, map, take, ap, arith}
use Rattle.ham_journal.specs.declared.limits.TheConstants.{MAX_COLLECTED}
use Rattle.ham_core.specs.declared.waiting.Waiting.{Waiting}
use Rattle.ham_replica.specs.Values.{words}
use Rattle.ham_core.specs.Waits.{shown}
use Rattle.ham_core.proofs.Boxed.{take_min}
use Rattle.ham_core.proofs.boxes.first_of.Goals as goal

pub returns : goal.returns
returns c =
    c.from.ensures ∙ c.loop-at.invariant.frames
    ∙ ap (map (shown (words c.args.replica.now.lists).decided)) (take_min c.loop-at.at MAX_COLLECTED c.args.queue.now.items (omega (arith, c.loop-at.auto.at-end, c.loop-at-test.false, c.min-count.ensures, c.len.ensures, c.args.queue.now.ok.0)))
