-- What is so of every run.
--     AtEachMoment, OfEachTurn     at first and after each note; of each turn, with what was noted before it
--     IsSafe                       the invariants, equal states, and which calls are logged
--     DecidesExactly               what is forbidden, and what is ruled on requests
--     LogsItsReach, IsAccepted     what a turn logs; that no delivery is refused
--     IsDecidedOnce                requests are decided once, in order, and told so
--     IsFaithful                   all of it
use Rattle.std.specs.Prelude.{◌≡◌, ◌≢◌, ◌↔◌, ℕ, ◌+◌, ◌<◌, ◌≤◌, ◌==◌, ◌&&◌, if◌then◌else◌, List, [], ◌∷◌, ◌++◌, length, Option, Some, None, ⊤}
use Rattle.std.specs.List.{range_with_len}
use Rattle.ham_frame.specs.declared.frame.Ruling.{Ruling}
use Rattle.ham_frame.specs.declared.frame.Ruled.{Ruled}
use Rattle.ham_frame.specs.declared.frame.Frame.{Frame}
use Rattle.ham_turns.specs.Refusals.{deliver_refusal}
use Rattle.ham_syntax.specs.declared.act.Act.{Act}
use Rattle.ham_syntax.specs.declared.act.Place.{Place}
use Rattle.ham_syntax.specs.declared.act.Call.{Call}
use Rattle.ham_meaning.specs.declared.outcome.Outcome.{Outcome}
use Rattle.ham_meaning.specs.declared.outcome.Outcome.TheVariants.{Yes}
use Rattle.ham_frame.specs.declared.frame.Frame.TheVariants as frames
use Rattle.ham_turns.specs.declared.turn.Issued.TheVariants as issued
use Rattle.ham_turns.specs.declared.turn.What.TheVariants as whats
use Rattle.ham_frame.specs.declared.frame.Ruling.TheVariants as rulings
use Rattle.ham_plan.specs.Lists.{In, IsOnceEach, SameCalls}
use Rattle.ham_laws.specs.Executions.{Needs, IsWellCoordinated}
use Rattle.ham_laws.specs.Coordinated.{IsPermissibleThroughout}
use Rattle.ham_laws.specs.Drain.{InReach}
use Rattle.ham_turns.specs.Settings.{Rules, Setting, meaning_by}
use Rattle.ham_runs.specs.Facts.{constraints}
use Rattle.ham_turns.specs.Words.{Intake, ActComes, FrameComes, PartComes, Beat, place_of, numbered}
use Rattle.ham_turns.specs.Work.{lane_here, ruling_by, place_made}
use Rattle.ham_runs.specs.Runs.{Note, execution, decided_execution, log_of, arrived, places, on_link, requests_of, rulings_of, words_of, IsRun}

-- at first, and after each note
abbrev pub AtEachMoment : (List Note → Type 0) → List Note → Type 0
AtEachMoment Holds [] = Holds []
AtEachMoment Holds (n ∷ earlier) = Holds (n ∷ earlier) × AtEachMoment Holds earlier

-- of the notes before each turn, and its note
abbrev pub OfEachTurn : (List Note → Note → Type 0) → List Note → Type 0
OfEachTurn Holds [] = ⊤
OfEachTurn Holds (n ∷ earlier) = Holds earlier n × OfEachTurn Holds earlier

pub record IsSafe (x : Rules) (y : Setting) (notes : List Note) : Type 0 where
  pub invariant : (r : ℕ) → x.Invariant (words_of x y notes r).state
  -- whatever the order of their logs
  pub agree : (r q : ℕ) → SameCalls (log_of notes r) (log_of notes q) → (words_of x y notes r).state ≡ (words_of x y notes q).state
  -- each logged call was permissible at its place
  pub permissible : (r : ℕ) → IsPermissibleThroughout (meaning_by x) (execution notes) (log_of notes r)
  pub once : (r : ℕ) → IsOnceEach (log_of notes r)
  -- a call that came is logged exactly where its needs are
  pub applied : (r : ℕ) (c : Call) → In c (arrived notes r) →
      In (place_of c) (log_of notes r) ↔ ((d : Place) → Needs (meaning_by x) (constraints y) (execution notes) (place_of c) d → In d (log_of notes r))

-- a turn logs exactly its reach: the log, its own call, and of what came here what has all its needs there
abbrev pub LogsItsReach : Rules → Setting → List Note → Note → Type 0
LogsItsReach x y earlier n = (c : Place) →
    In c (log_of earlier n.at ++ n.logged) ↔
    InReach (meaning_by x) (constraints y) (decided_execution n earlier) (log_of earlier n.at ++ place_made n.made) (places (arrived (n ∷ earlier) n.at)) c

-- a request that is the next of its sender and group
pub record IsNextRequest (earlier : List Note) (n : Note) : Type 0 where
  pub from : ℕ
  pub which : ℕ
  pub group : ℕ
  pub number : ℕ
  pub act : Act
  pub took : n.took ≡ FrameComes from which (frames.Request group number act)
  pub next : number ≡ length (rulings_of earlier n.at from group) + 1

-- it is what its sender asked, where the calls of its lane are decided
pub record IsAsked (y : Setting) (earlier : List Note) (n : Note) (q : IsNextRequest earlier n) : Type 0 where
  pub asked : numbered (requests_of earlier q.from q.group) q.number ≡ Some q.act
  pub lane : lane_here y q.from q.act ≡ q.group
  pub decides : y.decider q.group ≡ n.at

-- what is forbidden, and what is ruled on a request
pub record DecidesExactly (x : Rules) (y : Setting) (earlier : List Note) (n : Note) : Type 0 where
  -- an issue that is decided here is impermissible exactly where the state before forbids it, for the condition that is named
  pub issue : (a : Act) (u : Outcome) → n.took ≡ ActComes a → y.decider (lane_here y n.at a) ≡ n.at →
      n.answer ≡ whats.Issued (issued.Impermissible u) ↔ (x.IsOutcome (words_of x y earlier n.at).state a u × (u ≢ Yes))
  -- no other answer is
  pub only_here : (u : Outcome) → n.answer ≡ whats.Issued (issued.Impermissible u) →
      (a : Act) × (n.took ≡ ActComes a) × (y.decider (lane_here y n.at a) ≡ n.at)
  -- a request that is the next is ruled as the state before says, and full where the lane has no room
  pub request : (q : IsNextRequest earlier n) (calls : ℕ) (u : Outcome) → calls ≡ length ((words_of x y earlier n.at).decided q.group) → calls < x.lane_limit →
      n.ruled ≡ Some (ruling_by (calls + 1) u) ↔ x.IsOutcome (words_of x y earlier n.at).state q.act u
  pub full : (q : IsNextRequest earlier n) → x.lane_limit ≤ length ((words_of x y earlier n.at).decided q.group) → n.ruled ≡ Some rulings.Full
  pub always : IsNextRequest earlier n → (v : Ruling) × (n.ruled ≡ Some v)
  -- nothing else is ruled on
  pub only_next : (v : Ruling) → n.ruled ≡ Some v → IsNextRequest earlier n
  pub asked : (q : IsNextRequest earlier n) → IsAsked y earlier n q

-- the frame that a turn takes in isn't refused
abbrev pub IsAccepted : Rules → Setting → List Note → Note → Type 0
IsAccepted x y earlier n = (from k : ℕ) (f : Frame) → n.took ≡ FrameComes from k f → deliver_refusal x y (words_of x y earlier n.at) n.at from f ≡ None

-- the number of a request of this sender to this group
abbrev pub number_ruled : ℕ → ℕ → ℕ → Frame → List ℕ
number_ruled from g q (frames.Request h i a) = if (q == from) && (h == g) then i ∷ [] else []
number_ruled from g q (frames.Call c) = []
number_ruled from g q (frames.Ack lane count) = []
number_ruled from g q (frames.Verdict h i v) = []
number_ruled from g q (frames.Hello version digest sender of) = []
number_ruled from g q frames.Bye = []

-- the number of the request on which a turn ruled
abbrev pub numbers_ruled : ℕ → ℕ → Intake → Option Ruling → List ℕ
numbers_ruled from g (FrameComes q k f) (Some v) = number_ruled from g q f
numbers_ruled from g (FrameComes q k f) None = []
numbers_ruled from g (ActComes a) ruled = []
numbers_ruled from g (PartComes q k f) ruled = []
numbers_ruled from g Beat ruled = []

-- the requests of a sender to a group that were decided, by their numbers, in the order of their decision
abbrev pub decided_numbers : List Note → ℕ → ℕ → ℕ → List ℕ
decided_numbers [] r from g = []
decided_numbers (n ∷ earlier) r from g = if n.at == r then decided_numbers earlier r from g ++ numbers_ruled from g n.took n.ruled else decided_numbers earlier r from g

pub record IsDecidedOnce (notes : List Note) : Type 0 where
  -- the numbers 1, 2 and so on
  pub in_order : (r from g : ℕ) → decided_numbers notes r from g ≡ range_with_len 1 (length (rulings_of notes r from g))
  -- a verdict that was sent tells the ruling that is kept, so all verdicts on a request agree
  pub as_kept : (from to g i : ℕ) (v : Ruling) → In (frames.Verdict g i v) (on_link notes from to) →
      (d : Ruled) × (numbered (rulings_of notes from to g) i ≡ Some d) × (d.ruling ≡ v)
  pub one_verdict : (from to g i : ℕ) (v u : Ruling) → In (frames.Verdict g i v) (on_link notes from to) → In (frames.Verdict g i u) (on_link notes from to) → v ≡ u

pub record IsFaithful (x : Rules) (y : Setting) (notes : List Note) : Type 0 where
  pub run : IsRun x y notes
  pub well : IsWellCoordinated (meaning_by x) (constraints y) (execution notes)
  pub safe : AtEachMoment (IsSafe x y) notes
  pub exact : OfEachTurn (DecidesExactly x y) notes
  pub reach : OfEachTurn (LogsItsReach x y) notes
  pub accepted : OfEachTurn (IsAccepted x y) notes
  pub asked_once : IsDecidedOnce notes
