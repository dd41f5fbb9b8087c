-- The calls that are due to a peer.
use Rattle.std.specs.Prelude.{ℕ, List, map, take, drop, slice_index}
use Rattle.ham_syntax.specs.declared.limits.TheConstants.{MAX_DUE}
use Rattle.ham_lane.specs.Lanes.{OutLane}
use Rattle.ham_frame.specs.declared.frame.Frame.{Frame}
use Rattle.ham_frame.specs.declared.frame.Frame.TheVariants as frames

-- the lowest calls above the number that the peer acknowledged
abbrev pub due_calls : OutLane → ℕ → List Frame
due_calls lane peer = map frames.Call (take MAX_DUE (drop (slice_index lane.acked peer) lane.calls))
