use Rattle.std.proofs.Common.{◌≡◌, ◌≤◌, length}
use Rattle.ham_frame.specs.declared.frame.Frame.{Frame}
use Rattle.ham_frame.specs.Spelling.{spelling}
use Rattle.ham_world.specs.Sending.{Sends, copies}
use Rattle.ham_world.proofs.send.send_copies.Given as goal

abbrev pub invariant-loop-before : goal.invariant-loop-before
invariant-loop-before l =
    ((f : Frame) → l.spelled ≡ spelling f → Sends l.fn.links.items l.links.items l.me (copies l.by f l.before))
    × ((f : Frame) → l.count ≡ length (copies l.by f l.before))
    × (l.count ≤ l.before)
    × (length l.links.items ≡ length l.fn.links.items)
