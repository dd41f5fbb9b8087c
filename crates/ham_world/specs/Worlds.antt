-- Worlds: a run, the events that extend it, and what a step leaves.
--     Run, begun                      a run of an object under a plan, and the one that has no note
--     inputs_of, taken                what an event asks of the replicas, and the run after that
--     world_refusal, refusal_of       the first reason for which an event is not taken
--     Steps                           what a step leaves: Takes, Refuses, or Stops where memory ran out
--     shown                           a note as the code keeps it
--     state_at, asked_of, same_calls, equal_states, bytes_of     what a run shows
use Rattle.std.specs.Prelude.{◌≡◌, ℕ, ◌+◌, ◌-◌, Bool, true, false, not, ◌&&◌, ◌==◌, nat_lt, nat_le, if◌then◌else◌, List, [], ◌∷◌, map, fold, take, drop, length, Option, Some, None, option_map, is_some, Result, Ok, Err}
use Rattle.std.specs.List.{range_with_len, list_all, list_any}
use Rattle.ham_syntax.specs.declared.act.Place.{Place}
use Rattle.ham_syntax.specs.declared.limits.TheConstants.{MAX_SENT_FRAMES}
use Rattle.ham_syntax.specs.Objects.{Schema}
use Rattle.ham_state.specs.Content.{State, coded_state}
use base.Stored.{Gv, gnil, gnum, gcons}
use Rattle.ham_plan.specs.Plans.{Plan}
use Rattle.ham_frame.specs.declared.frame.Frame.{Frame}
use Rattle.ham_frame.specs.declared.frame.Ruling.{Ruling}
use Rattle.ham_frame.specs.Spelling.{spelling, stream}
use Rattle.ham_wire.specs.Cuts.{is_ascending}
use Rattle.ham_resend.specs.declared.asks.Asked.{Asked}
use Rattle.ham_resend.specs.declared.asks.Asked.TheVariants as known
use Rattle.ham_resend.specs.Asking.{asked_with}
use Rattle.ham_turns.specs.declared.turn.IssueRefusal.{IssueRefusal}
use Rattle.ham_turns.specs.declared.event.Event.{Event}
use Rattle.ham_turns.specs.declared.event.Event.TheVariants as events
use Rattle.ham_turns.specs.Settings.{Rules, Setting, rules_of, setting_of}
use Rattle.ham_turns.specs.Words.{Intake, ActComes, FrameComes, PartComes, Beat, same_place, numbered}
use Rattle.ham_turns.specs.Refusals.{issue_refusal}
use Rattle.ham_runs.specs.Runs.{Note, words_of, on_link, requests_of, verdict_of}
use Rattle.ham_runs.specs.Next.{Input, is_replica, after_input}
use Rattle.ham_runs.specs.Next.Input.{Issue, Deliver, Tear, Tick}
use Rattle.ham_world.specs.declared.note.Took.{Took}
use Rattle.ham_world.specs.declared.note.Took.TheVariants as tooks
use Rattle.ham_world.specs.declared.note.Note.{Note as Told}
use Rattle.ham_world.specs.declared.refusal.TheConstants.{MAX_STRETCH}
use Rattle.ham_world.specs.declared.refusal.StepRefusal.{StepRefusal}
use Rattle.ham_world.specs.declared.refusal.StepRefusal.TheVariants as step

-- a run of an object under a plan, the newest note first, and whether it was stopped for want of memory
pub record Run : Type 0 where
  pub object : Schema
  pub plan : Plan
  pub notes : List Note
  pub stopped : Bool

abbrev pub begun : Schema → Plan → Run
begun o p = record { object = o; plan = p; notes = []; stopped = false }

-- ---- events

abbrev pub is_sent : List Note → ℕ → ℕ → ℕ → Bool
is_sent notes from to k = is_some (numbered (on_link notes from to) k)

abbrev pub all_sent : List Note → ℕ
all_sent [] = 0
all_sent (n ∷ earlier) = all_sent earlier + length n.sent

abbrev pub as_issue : Option IssueRefusal → Option StepRefusal
as_issue None = None
as_issue (Some r) = Some (step.Issue r)

-- no event is taken once more frames were sent
abbrev pub unless_full : List Note → Option StepRefusal → Option StepRefusal
unless_full notes otherwise = if nat_lt MAX_SENT_FRAMES (all_sent notes) then Some step.SentFull else otherwise

abbrev pub on_link_refusal : Setting → List Note → (from to : ℕ) → Bool → Bool → Option StepRefusal
on_link_refusal y notes from to sent good =
    if not ((is_replica y from && is_replica y to) && not (from == to)) then Some step.NoSuchReplica
    else if not sent then Some step.NoSuchFrame
    else if not good then Some step.BadCut
    else unless_full notes None

abbrev pub inputs_of : Event → List Input
inputs_of (events.Issue r a) = Issue r a ∷ []
inputs_of (events.Deliver from to k) = Deliver to from k ∷ []
inputs_of (events.Pieces from to first last cuts) = map (Deliver to from) (range_with_len first (last + 1 - first))
inputs_of (events.Torn from to k bytes) = Tear to from k ∷ []
inputs_of (events.Tick r) = Tick r ∷ []

abbrev pub took_of : Intake → Took
took_of (ActComes a) = tooks.Act a
took_of (FrameComes from k f) = tooks.Frame from k
took_of (PartComes from k f) = tooks.Frame from k
took_of Beat = tooks.Tick

-- a note as the code keeps it
abbrev pub shown : Note → Told
shown n = record { replica = n.at; took = took_of n.took; what = n.answer; logged = n.logged; sent = length n.sent }

-- the frames of a link from one number to another
abbrev pub between : ℕ → ℕ → List Frame → List Frame
between first last fs = take (last + 1 - first) (drop (first - 1) fs)

-- numbers of frames and places of cuts that are taken together
abbrev pub cuts_fit : List Frame → ℕ → ℕ → List ℕ → Bool
cuts_fit fs first last cuts =
    nat_le first last && (nat_lt last (first + MAX_STRETCH) && is_ascending 0 cuts (length (stream (between first last fs))))

abbrev pub part_fits : List Frame → ℕ → ℕ → Bool
part_fits fs k bytes = nat_lt 0 bytes && nat_lt bytes (length (stream (between k k fs)))

abbrev pub are_linked : Setting → ℕ → ℕ → Bool
are_linked y from to = (is_replica y from && is_replica y to) && not (from == to)

abbrev pub at_replica_refusal : Setting → List Note → ℕ → Option StepRefusal
at_replica_refusal y notes r = if not (is_replica y r) then Some step.NoSuchReplica else unless_full notes None

abbrev pub deliver_refusal : Setting → List Note → ℕ → ℕ → ℕ → Option StepRefusal
deliver_refusal y notes from to k = on_link_refusal y notes from to (is_sent notes from to k) true

abbrev pub pieces_refusal : Setting → List Note → ℕ → ℕ → ℕ → ℕ → List ℕ → Option StepRefusal
pieces_refusal y notes from to first last cuts =
    on_link_refusal y notes from to (is_sent notes from to first && is_sent notes from to last) (cuts_fit (on_link notes from to) first last cuts)

abbrev pub torn_refusal : Setting → List Note → ℕ → ℕ → ℕ → ℕ → Option StepRefusal
torn_refusal y notes from to k bytes = on_link_refusal y notes from to (is_sent notes from to k) (part_fits (on_link notes from to) k bytes)

-- the first reason for which the world itself does not take an event
abbrev pub world_refusal : Setting → List Note → Event → Option StepRefusal
world_refusal y notes (events.Issue r a) = at_replica_refusal y notes r
world_refusal y notes (events.Deliver from to k) = deliver_refusal y notes from to k
world_refusal y notes (events.Pieces from to first last cuts) = pieces_refusal y notes from to first last cuts
world_refusal y notes (events.Torn from to k bytes) = torn_refusal y notes from to k bytes
world_refusal y notes (events.Tick r) = at_replica_refusal y notes r

-- the first for which the replica does not
abbrev pub replica_refusal : Rules → Setting → List Note → Event → Option StepRefusal
replica_refusal x y notes (events.Issue r a) = as_issue (issue_refusal x y (words_of x y notes r) r a)
replica_refusal x y notes (events.Deliver from to k) = None
replica_refusal x y notes (events.Pieces from to first last cuts) = None
replica_refusal x y notes (events.Torn from to k bytes) = None
replica_refusal x y notes (events.Tick r) = None

abbrev pub first_some : Option StepRefusal → Option StepRefusal → Option StepRefusal
first_some (Some why) other = Some why
first_some None other = other

-- the first reason for which an event is not taken
unfoldable pub refusal_of : Schema → Setting → List Note → Event → Option StepRefusal
refusal_of o y notes e = first_some (world_refusal y notes e) (replica_refusal (rules_of o) y notes e)

-- the run after these inputs more
unfoldable pub taken : Schema → Setting → List Note → List Input → List Note
taken o y notes inputs = fold (after_input (rules_of o) y) notes inputs

-- want of memory: the turns of the first k inputs stand, and the world is stopped
abbrev pub Stops : Run → Run → Event → Type 0
Stops old new e = (k : ℕ) × (new ≡ record old { notes = taken old.object (setting_of old.plan) old.notes (take k (inputs_of e)); stopped = true })

abbrev pub Refuses : Run → Run → Event → StepRefusal → Type 0
Refuses old new e why = (refusal_of old.object (setting_of old.plan) old.notes e ≡ Some why) × (new ≡ old)

-- the event was taken, and made so many turns
pub record Takes (old new : Run) (e : Event) (count : ℕ) : Type 0 where
  pub allowed : refusal_of old.object (setting_of old.plan) old.notes e ≡ None
  pub run : new ≡ record old { notes = taken old.object (setting_of old.plan) old.notes (inputs_of e) }
  pub turns : length new.notes ≡ length old.notes + count

-- what a step leaves
abbrev pub Steps : Run → Run → Event → Result ℕ StepRefusal → Type 0
Steps old new e (Ok count) = Takes old new e count
Steps old new e (Err step.NoMemory) = Stops old new e
Steps old new e (Err step.NoSuchReplica) = Refuses old new e step.NoSuchReplica
Steps old new e (Err step.NoSuchFrame) = Refuses old new e step.NoSuchFrame
Steps old new e (Err step.BadCut) = Refuses old new e step.BadCut
Steps old new e (Err step.SentFull) = Refuses old new e step.SentFull
Steps old new e (Err (step.Issue why)) = Refuses old new e (step.Issue why)

-- ---- what a run shows

unfoldable pub state_at : Schema → Setting → List Note → ℕ → State
state_at o y notes r = (words_of (rules_of o) y notes r).state

-- what a replica knows of its request with this number to a group
unfoldable pub asked_of : List Note → ℕ → ℕ → ℕ → Asked
asked_of notes r g k = if nat_lt 0 k && nat_le k (length (requests_of notes r g)) then asked_with (verdict_of notes r g k) else known.Unknown

abbrev pub all_in : List Place → List Place → Bool
all_in xs ys = list_all (λ x. list_any (same_place x) ys) xs

-- the logs hold the same calls
unfoldable pub same_calls : List Place → List Place → Bool
same_calls xs ys = all_in xs ys && all_in ys xs

abbrev pub bytes_of : Option Frame → Option (List ℕ)
bytes_of f = option_map spelling f

-- ---- equal states

abbrev pub same_code : Gv → Gv → Bool
same_code gnil gnil = true
same_code gnil (gnum n) = false
same_code gnil (gcons c d) = false
same_code (gnum m) gnil = false
same_code (gnum m) (gnum n) = m == n
same_code (gnum m) (gcons c d) = false
same_code (gcons a b) gnil = false
same_code (gcons a b) (gnum n) = false
same_code (gcons a b) (gcons c d) = same_code a c && same_code b d

-- states are equal where their codes are
unfoldable pub equal_states : State → State → Bool
equal_states s t = same_code (coded_state.code s) (coded_state.code t)
