-- Frames that wait, as they are kept: a decided call by its place, each other frame itself.
--     waits_as, shown     how a frame is kept, and which frame that is, by the calls that are decided
--     put                 a frame of a turn waits
--     IsSound             the call of a place is decided, and the frame has a spelling
use Rattle.std.specs.Prelude.{◌≡◌, ℕ, ◌-◌, ◌==◌, if◌then◌else◌, List, [], ◌∷◌, map, set, Option, Some, None}
use Rattle.std.specs.List.{AllByRecursion}
use Rattle.ham_syntax.specs.declared.act.Call.{Call}
use Rattle.ham_frame.specs.declared.frame.Frame.{Frame}
use Rattle.ham_frame.specs.declared.frame.Frame.TheVariants as frames
use Rattle.ham_frame.specs.Spelling.{Fits}
use Rattle.ham_turns.specs.declared.turn.Out.{Out}
use Rattle.ham_turns.specs.Words.{place_of, numbered}
use Rattle.ham_journal.specs.Cores.{with_room, box_of}
use Rattle.ham_core.specs.declared.waiting.Waiting.{Waiting}
use Rattle.ham_core.specs.declared.waiting.Waiting.TheVariants as waiting

-- the decided calls, by lane
abbrev pub Decided : Type 0
Decided = ℕ → List Call

abbrev pub waits_as : Frame → Waiting
waits_as (frames.Call c) = waiting.Call (place_of c)
waits_as (frames.Hello version digest from of) = waiting.Other (frames.Hello version digest from of)
waits_as (frames.Ack lane count) = waiting.Other (frames.Ack lane count)
waits_as (frames.Request g n a) = waiting.Other (frames.Request g n a)
waits_as (frames.Verdict g n v) = waiting.Other (frames.Verdict g n v)
waits_as frames.Bye = waiting.Other frames.Bye

-- what stands for no call is never asked for
abbrev pub call_frame : Option Call → Frame
call_frame None = frames.Bye
call_frame (Some c) = frames.Call c

abbrev pub shown : Decided → Waiting → Frame
shown d (waiting.Call p) = call_frame (numbered (d p.lane) p.number)
shown d (waiting.Other f) = f

abbrev pub shown_in : Decided → List (List Waiting) → List (List Frame)
shown_in d boxes = map (map (shown d)) boxes

abbrev pub put_at : List (List Waiting) → ℕ → Waiting → List (List Waiting)
put_at boxes to w = set boxes (to - 1) (with_room (box_of boxes to) w)

abbrev pub put : List (List Waiting) → Out → List (List Waiting)
put boxes o = put_at boxes o.to (waits_as o.frame)

abbrev pub IsSound : Decided → Waiting → Type 0
IsSound d (waiting.Call p) = (c : Call) × (numbered (d p.lane) p.number ≡ Some c) × Fits (frames.Call c)
IsSound d (waiting.Other f) = Fits f

abbrev pub AreSound : Decided → List (List Waiting) → Type 0
AreSound d boxes = AllByRecursion (AllByRecursion (IsSound d)) boxes

-- a call for a replica, but for r
abbrev pub call_for : ℕ → ℕ → Call → List Out
call_for r to c = if to == r then [] else record { to = to; frame = frames.Call c } ∷ []

-- a call that is sent is decided
abbrev pub IsKnown : Decided → Frame → Type 0
IsKnown d (frames.Call c) = numbered (d c.lane) c.number ≡ Some c
IsKnown d (frames.Hello version digest from of) = Unit {0}
IsKnown d (frames.Ack lane count) = Unit {0}
IsKnown d (frames.Request g n a) = Unit {0}
IsKnown d (frames.Verdict g n v) = Unit {0}
IsKnown d frames.Bye = Unit {0}

-- what was decided stays so
abbrev pub Grows : Decided → Decided → Type 0
Grows d d' = (l n : ℕ) (c : Call) → numbered (d l) n ≡ Some c → numbered (d' l) n ≡ Some c
