-- The frames of a turn.
--     calls_to, frames_of          a call to each of the others, and then the rest
--     IsSendable, AreSendable      a frame has a spelling, and goes to another replica; and there are not too many
use Rattle.std.specs.Prelude.{◌≢◌, ℕ, ◌+◌, ◌-◌, ◌*◌, ◌≤◌, List, [], ◌++◌, map, length, Option, Some, None}
use Rattle.std.specs.List.{AllByRecursion}
use Rattle.ham_syntax.specs.declared.act.Call.{Call}
use Rattle.ham_syntax.specs.declared.limits.TheConstants.{MAX_REPLICAS, MAX_LANES, MAX_GROUPS, MAX_DUE}
use Rattle.ham_frame.specs.declared.frame.Frame.TheVariants as frames
use Rattle.ham_frame.specs.Spelling.{Fits}
use Rattle.ham_turns.specs.declared.turn.Out.{Out}
use Rattle.ham_turns.specs.Settings.{Setting, IsReplica}
use Rattle.ham_turns.specs.Sends.{peers}

-- a call, to each of n replicas but r
abbrev pub calls_to : ℕ → ℕ → Option Call → List Out
calls_to r n None = []
calls_to r n (Some c) = map (λ q. record { to = q; frame = frames.Call c }) (peers r n)

abbrev pub frames_of : ℕ → ℕ → Option Call → List Out → List Out
frames_of r n call rest = calls_to r n call ++ rest

-- a frame of replica r with a spelling, to another replica
pub record IsSendable (y : Setting) (r : ℕ) (out : Out) : Type 0 where
  pub fits : Fits out.frame
  pub to : IsReplica y out.to
  pub other : out.to ≢ r

-- the most frames of a turn: to each peer what is due of each lane and of each group
abbrev pub most_frames : ℕ
most_frames = (MAX_REPLICAS - 1) * ((MAX_LANES + MAX_GROUPS) * MAX_DUE)

pub record AreSendable (y : Setting) (r : ℕ) (outs : List Out) : Type 0 where
  pub each : AllByRecursion (IsSendable y r) outs
  pub few : length outs ≤ most_frames
