-- Runs: lists of notes, the newest first, so that what stood before a turn is the rest of the list.
--     Note                     what is noted of a turn
--     execution, log_of        the decided calls and the logs
--     on_link, words_of        what was sent on a link; the words of a replica, read off the notes
--     MayTake, IsNext, IsRun   what may happen next, and what is noted then
use Rattle.std.specs.Prelude.{◌≡◌, ℕ, Bool, ◌==◌, max, cond, if◌then◌else◌, List, [], ◌∷◌, ◌++◌, map, Option, Some, None, count_by, ⊤}
use Rattle.ham_syntax.specs.declared.act.Act.{Act}
use Rattle.ham_syntax.specs.declared.act.Place.{Place}
use Rattle.ham_syntax.specs.declared.act.Call.{Call}
use Rattle.ham_frame.specs.declared.frame.Ruling.{Ruling}
use Rattle.ham_frame.specs.declared.frame.Ruled.{Ruled}
use Rattle.ham_turns.specs.declared.turn.Out.{Out}
use Rattle.ham_frame.specs.declared.frame.Frame.{Frame}
use Rattle.ham_turns.specs.declared.turn.What.{What}
use Rattle.ham_laws.specs.Executions.{Execution, end_of}
use Rattle.ham_laws.specs.Drain.{Drains}
use Rattle.ham_turns.specs.Settings.{Rules, Setting, meaning_by, IsReplica}
use Rattle.ham_runs.specs.Facts.{constraints}
use Rattle.ham_turns.specs.Words.{ReplicaWords, Intake, ActComes, FrameComes, PartComes, Beat, place_of, same_place, in_lane, numbered}
use Rattle.ham_turns.specs.Work.{answer_of, ruled_of, made_of, call_in, at_place, place_made, request_in, ruling_in, verdict_in, ack_in, first_of_two}
use Rattle.ham_turns.specs.Sends.{sent_by}
use Rattle.ham_turns.specs.Refusals.{issue_refusal}

pub record Note : Type 0 where
  -- the replica
  pub at : ℕ
  pub took : Intake
  pub answer : What
  -- what was ruled on a fresh request
  pub ruled : Option Ruling
  -- the call that it decided
  pub made : Option Call
  -- the calls that it logged, the decided one first
  pub logged : List Place
  pub sent : List Out

-- ---- the execution

-- a decided call, the replica that decided it, and what that replica had logged
pub record Decision : Type 0 where
  pub call : Call
  pub by : ℕ
  pub before : List Place

-- the calls that a replica logged, in order
abbrev pub log_of : List Note → ℕ → List Place
log_of [] r = []
log_of (n ∷ earlier) r = if n.at == r then log_of earlier r ++ n.logged else log_of earlier r

-- what a turn adds to the decisions
abbrev pub decision_of : ℕ → List Place → Option Call → List Decision
decision_of r log None = []
decision_of r log (Some c) = record { call = c; by = r; before = log } ∷ []

-- in their order
abbrev pub decisions : List Note → List Decision
decisions [] = []
decisions (n ∷ earlier) = decisions earlier ++ decision_of n.at (log_of earlier n.at) n.made

-- what is said of the decision of the call at a place
abbrev pub of_place : {B : Type 0} → B → (Decision → B) → List Decision → Place → B
of_place none say [] c = none
of_place none say (d ∷ rest) c = if same_place (place_of d.call) c then say d else of_place none say rest c

-- of a call that wasn't decided
abbrev pub no_act : Act
no_act = record { method = 0; args = [] }

-- these decisions, with these logs
abbrev pub execution_of : List Decision → (ℕ → List Place) → Execution Place Act
execution_of ds log = record {
  decided = map (λ d. place_of d.call) ds;
  act = of_place no_act (λ d. d.call.act) ds;
  lane = λ c. c.lane;
  decider = of_place 0 (λ d. d.by) ds;
  before = of_place [] (λ d. d.before) ds;
  log = log;
}

abbrev pub execution : List Note → Execution Place Act
execution notes = execution_of (decisions notes) (log_of notes)

-- the logs with more at one replica
abbrev pub pushed : (ℕ → List Place) → ℕ → List Place → ℕ → List Place
pushed log r xs q = cond (r == q) (log q ++ xs) (log q)

-- after the decision of the newest turn, and before its drain
abbrev pub decided_execution : Note → List Note → Execution Place Act
decided_execution n earlier = execution_of (decisions (n ∷ earlier)) (pushed (log_of earlier) n.at (place_made n.made))

-- ---- the words, read off the notes

-- the frames to a replica
abbrev pub addressed : ℕ → List Out → List Frame
addressed to [] = []
addressed to (x ∷ rest) = if x.to == to then x.frame ∷ addressed to rest else addressed to rest

-- what was sent on a link, in order
abbrev pub on_link : List Note → ℕ → ℕ → List Frame
on_link [] from to = []
on_link (n ∷ earlier) from to = if n.at == from then on_link earlier from to ++ addressed to n.sent else on_link earlier from to

-- the calls that were decided in a lane, in order
abbrev pub calls_of_lane : ℕ → List Decision → List Call
calls_of_lane lane [] = []
calls_of_lane lane (d ∷ rest) = if in_lane lane (place_of d.call) then d.call ∷ calls_of_lane lane rest else calls_of_lane lane rest

-- the calls that frames brought, in order
abbrev pub arrived : List Note → ℕ → List Call
arrived [] r = []
arrived (n ∷ earlier) r = if n.at == r then arrived earlier r ++ call_in n.took else arrived earlier r

-- the requests of a replica to a group, in order
abbrev pub requests_of : List Note → ℕ → ℕ → List Act
requests_of [] r g = []
requests_of (n ∷ earlier) r g = if n.at == r then requests_of earlier r g ++ request_in g n.took n.answer else requests_of earlier r g

-- what a replica ruled on the requests of a sender to a group, in order
abbrev pub rulings_of : List Note → ℕ → ℕ → ℕ → List Ruled
rulings_of [] r from g = []
rulings_of (n ∷ earlier) r from g = if n.at == r then rulings_of earlier r from g ++ ruling_in from g n.took n.ruled else rulings_of earlier r from g

-- the first verdict that came on a request
abbrev pub verdict_of : List Note → ℕ → ℕ → ℕ → Option Ruling
verdict_of [] r g n = None
verdict_of (m ∷ earlier) r g n = if m.at == r then first_of_two (verdict_of earlier r g n) (verdict_in g n m.took) else verdict_of earlier r g n

-- the greatest count that a peer acknowledged
abbrev pub acked_of : List Note → ℕ → ℕ → ℕ → ℕ
acked_of [] r lane peer = 0
acked_of (n ∷ earlier) r lane peer = if n.at == r then max (acked_of earlier r lane peer) (ack_in lane peer n.took) else acked_of earlier r lane peer

-- the call of a place is in the slot
abbrev pub in_slot : Setting → Execution Place Act → ℕ → Place → Bool
in_slot y e s c = y.slot (e.act c).method (y.decider c.lane) == s

-- a replica has the decided calls of its own lanes
abbrev pub decided_here : Setting → ℕ → ℕ → List Call → List Call
decided_here y r lane calls = if y.decider lane == r then calls else []

-- the words of replica r after these notes
abbrev pub words_of : Rules → Setting → List Note → ℕ → ReplicaWords
words_of x y notes r = record {
  state = end_of (meaning_by x) (execution notes) (log_of notes r);
  log = log_of notes r;
  count_of = λ s. count_by (in_slot y (execution notes) s) (log_of notes r);
  decided = λ lane. decided_here y r lane (calls_of_lane lane (decisions notes));
  kept = at_place (arrived notes r);
  requests = requests_of notes r;
  verdict = verdict_of notes r;
  rulings = rulings_of notes r;
  acked = acked_of notes r;
}

-- ---- runs

-- nothing but this limits what may happen next at a replica
abbrev pub MayTake : Rules → Setting → List Note → ℕ → Intake → Type 0
MayTake x y earlier r (ActComes a) = issue_refusal x y (words_of x y earlier r) r a ≡ None
MayTake x y earlier r (FrameComes from k f) = numbered (on_link earlier from r) k ≡ Some f
MayTake x y earlier r (PartComes from k f) = numbered (on_link earlier from r) k ≡ Some f
MayTake x y earlier r Beat = ⊤

abbrev pub places : List Call → List Place
places calls = map place_of calls

-- what is noted next, after the notes `earlier`
pub record IsNext (x : Rules) (y : Setting) (earlier : List Note) (n : Note) : Type 0 where
  pub replica : IsReplica y n.at
  pub may : MayTake x y earlier n.at n.took
  pub answer : n.answer ≡ answer_of x y (words_of x y earlier n.at) n.at n.took
  pub ruled : n.ruled ≡ ruled_of x (words_of x y earlier n.at) n.took
  pub made : n.made ≡ made_of x y (words_of x y earlier n.at) n.at n.took
  -- the log, then the decided call, then call by call what may be logged of what came here, the one of the least lane first
  pub logged : Drains (meaning_by x) (constraints y) (decided_execution n earlier) (places (arrived (n ∷ earlier) n.at))
      (log_of earlier n.at ++ place_made n.made) (log_of earlier n.at ++ n.logged)
  pub sent : n.sent ≡ sent_by y (words_of x y earlier n.at) n.at n.took n.answer n.ruled n.made (log_of earlier n.at ++ n.logged)

abbrev pub IsRun : Rules → Setting → List Note → Type 0
IsRun x y [] = ⊤
IsRun x y (n ∷ earlier) = IsNext x y earlier n × IsRun x y earlier
