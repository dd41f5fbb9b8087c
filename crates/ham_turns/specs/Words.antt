-- What a replica keeps, as the table of turns sees it, and what a turn takes in.
use Rattle.std.specs.Prelude.{ℕ, zero, suc, Bool, ◌&&◌, ◌==◌, List, Option, None, slice_get}
use Rattle.ham_syntax.specs.declared.act.Act.{Act}
use Rattle.ham_syntax.specs.declared.act.Place.{Place}
use Rattle.ham_syntax.specs.declared.act.Call.{Call}
use Rattle.ham_frame.specs.declared.frame.Ruling.{Ruling}
use Rattle.ham_frame.specs.declared.frame.Ruled.{Ruled}
use Rattle.ham_frame.specs.declared.frame.Frame.{Frame}
use Rattle.ham_state.specs.Content.{State}

-- the words of the table at one replica
pub record ReplicaWords : Type 0 where
  pub state : State
  -- the calls that are logged here, in order
  pub log : List Place
  -- of a slot: how many of its calls are logged here
  pub count_of : ℕ → ℕ
  -- of a lane that is decided here: its calls, by number from 1
  pub decided : ℕ → List Call
  -- of a place: the call that a frame brought here, be it logged or waiting
  pub kept : Place → Option Call
  -- of a group: the requests that this replica made to it, by number from 1
  pub requests : ℕ → List Act
  -- of a group and a number: the verdict that came for this request
  pub verdict : ℕ → ℕ → Option Ruling
  -- of a sender and a group: the requests that were decided here, by number from 1
  pub rulings : ℕ → ℕ → List Ruled
  -- of a lane and a peer: the greatest count that the peer acknowledged, 0 at first
  pub acked : ℕ → ℕ → ℕ

-- an act that is issued; a frame, the so many-th that was sent on the link from a peer; a part of one, before the link
-- breaks; or a beat, at which the replica sends again what is due
pub data Intake : Type 0 where
  ActComes : Act → Intake
  FrameComes : (from which : ℕ) → Frame → Intake
  PartComes : (from which : ℕ) → Frame → Intake
  Beat : Intake

abbrev pub place_of : Call → Place
place_of c = record { lane = c.lane; number = c.number }

abbrev pub same_place : Place → Place → Bool
same_place a b = (a.lane == b.lane) && (a.number == b.number)

abbrev pub in_lane : ℕ → Place → Bool
in_lane lane c = c.lane == lane

-- the item with this number, counted from 1
abbrev pub numbered : {X : Type 0} → List X → ℕ → Option X
numbered xs zero = None
numbered xs (suc n) = slice_get xs n
