-- Lanes as contracts see them: calls by number from 1, and for how many more there is room.
--     numbered                          the item of a number
--     OutLane, InLane                   a lane where it is decided, and elsewhere
--     IsNumbered, IsOutLane             what the types keep
--     Appends, Accepts, Acknowledges    what a call of that name answers and leaves
use Rattle.std.specs.Prelude.{◌≡◌, ℕ, zero, suc, ◌+◌, ◌-◌, ◌≤◌, ◌<◌, max, List, [], ◌∷◌, ◌++◌, length, slice_get, slice_set, slice_index, Option, None, Result, Ok, Err, ⊤}
use Rattle.std.specs.Prelude.{vec_len, vec_capacity}
use Rattle.std.specs.Global.{Vec}
use Rattle.ham_lists.specs.declared.list.NoMemory.{NoMemory}
use Rattle.ham_syntax.specs.declared.act.Call.{Call}
use Rattle.ham_syntax.specs.declared.limits.TheConstants.{MAX_LANE_CALLS}
use Rattle.ham_lane.specs.declared.out_lane.LaneFault.{LaneFault}
use Rattle.ham_lane.specs.declared.out_lane.LaneFault.TheVariants as faults
use Rattle.ham_lane.specs.declared.out_lane.AckBeyond.{AckBeyond}

-- the item with this number, counted from 1; none exactly where the number is 0 or above the length
abbrev pub numbered : {X : Type 0} → List X → ℕ → Option X
numbered xs zero = None
numbered xs (suc n) = slice_get xs n

-- ---- lanes

-- the calls that were decided here, and up to which number each peer acknowledged them
pub record OutLane : Type 0 where
  pub calls : List Call
  -- by replica, from 0; replicas count from 1
  pub acked : List ℕ
  -- for how many more calls there is room
  pub spare : ℕ

-- the calls that were logged here
pub record InLane : Type 0 where
  pub calls : List Call
  -- for how many more calls there is room
  pub spare : ℕ

-- for how many more items a vector has room
abbrev pub spare_of : {X : Type 0} → Vec X → ℕ
spare_of v = vec_capacity v - vec_len v

abbrev pub shown_out : Vec Call → List ℕ → OutLane
shown_out calls acked = record { calls = calls.items; acked = acked; spare = spare_of calls }

abbrev pub shown_in : Vec Call → InLane
shown_in calls = record { calls = calls.items; spare = spare_of calls }

-- ---- what the types keep

-- the calls have the numbers n, n + 1 and so on
abbrev pub AreNumberedFrom : ℕ → List Call → Type 0
AreNumberedFrom n [] = ⊤
AreNumberedFrom n (c ∷ rest) = (c.number ≡ n) × AreNumberedFrom (n + 1) rest

-- no more calls than a lane takes, numbered from 1
pub record IsNumbered (calls : List Call) : Type 0 where
  pub few : length calls ≤ MAX_LANE_CALLS
  pub numbers : AreNumberedFrom 1 calls

-- and no peer acknowledged more of them than there are
pub record IsOutLane (calls : List Call) (acked : List ℕ) : Type 0 where
  pub lane : IsNumbered calls
  pub within : (k : ℕ) → slice_index acked k ≤ length calls

-- ---- calls

-- a call was put last; or the lane was full; or there was no room, and memory ran out
abbrev pub Appends : OutLane → OutLane → Call → Result ℕ LaneFault → Type 0
Appends old new call (Ok n) =
    (length old.calls < MAX_LANE_CALLS) × (n ≡ length old.calls + 1) × (new.calls ≡ old.calls ++ call ∷ []) × (new.acked ≡ old.acked)
Appends old new call (Err (faults.Full max)) = (length old.calls ≡ MAX_LANE_CALLS) × (max ≡ MAX_LANE_CALLS) × (new ≡ old)
Appends old new call (Err faults.NoMemory) =
    (length old.calls < MAX_LANE_CALLS) × (old.spare ≡ 0) × (new.calls ≡ old.calls) × (new.acked ≡ old.acked)

-- a call was put last; or there was no room, and memory ran out
abbrev pub Accepts : InLane → InLane → Call → Result Unit NoMemory → Type 0
Accepts old new call (Ok _) = new.calls ≡ old.calls ++ call ∷ []
Accepts old new call (Err _) = (old.spare ≡ 0) × (new.calls ≡ old.calls)

-- the peer's count is now the greater of both; or the lane has fewer calls
abbrev pub Acknowledges : OutLane → OutLane → ℕ → ℕ → Result Unit AckBeyond → Type 0
Acknowledges old new peer count (Ok _) =
    (count ≤ length old.calls) × (new.calls ≡ old.calls) × (new.acked ≡ slice_set old.acked peer (max (slice_index old.acked peer) count)) × (new.spare ≡ old.spare)
Acknowledges old new peer count (Err beyond) = (length old.calls < count) × (beyond.len ≡ length old.calls) × (new ≡ old)
