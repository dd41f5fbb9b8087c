use Rattle.std.proofs.Common.{◌≡◌, map, take, drop}
use Rattle.std.specs.Prelude.{slice_index}
use Rattle.ham_frame.specs.declared.frame.Frame.TheVariants as frames
use Rattle.ham_resend.proofs.due.due_calls.Given as goal

abbrev pub invariant-loop-more : goal.invariant-loop-more
invariant-loop-more l = l.frames.items ≡ map frames.Call (take l.more (drop (slice_index l.lane.acked l.peer) l.lane.calls))
