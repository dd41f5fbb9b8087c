-- The laws of runs.
--     RunsAreFaithful, TurnsRefine                what is so of a run; that replicas make it
--     FramesAreTaken, LanesHaveRoom               that it may go on
--     NotesFollow, InputsGiveRuns, OneRun         what its inputs say of it
--     ReadyByNeeds, RunsAreSettled                numbers and counts against needs; between turns
--     TornAndTicksLeave, LogsFollow               what leaves every word; where one replica decides everything
use Rattle.std.specs.Prelude.{◌≡◌, ◌≢◌, ◌↔◌, ℕ, ◌≤◌, List, [], ◌∷◌, length, Some, None, count_by}
use Rattle.ham_syntax.specs.declared.act.Call.{Call}
use Rattle.ham_syntax.specs.declared.act.Place.{Place}
use Rattle.ham_frame.specs.declared.frame.Frame.{Frame}
use Rattle.ham_plan.specs.Lists.{StartsWith}
use Rattle.ham_laws.specs.Executions.{IsClosed, end_of}
use Rattle.ham_laws.specs.Drain.{IsWaiting}
use Rattle.ham_turns.specs.Settings.{Rules, Setting, meaning_by, IsReplica}
use Rattle.ham_turns.specs.Words.{ReplicaWords, Intake, PartComes, Beat, place_of, numbered}
use Rattle.ham_turns.specs.Work.{own_work}
use Rattle.ham_turns.specs.Ready.{IsReadyHere, IsSettled, DrainsHere}
use Rattle.ham_turns.specs.Refusals.{deliver_refusal}
use Rattle.ham_runs.specs.Facts.{constraints}
use Rattle.ham_runs.specs.Runs.{Note, decisions, log_of, calls_of_lane, arrived, places, on_link, execution, in_slot, words_of, MayTake, IsRun}
use Rattle.ham_runs.specs.Next.{note_by, Input, inputs, next_note, run_of}
use Rattle.ham_runs.specs.Headline.{IsFaithful}

abbrev pub RunsAreFaithful : Rules → Setting → Type 0
RunsAreFaithful x y = (notes : List Note) → IsRun x y notes → IsFaithful x y notes

-- ---- replicas make runs

-- the note is the run's next, its replica has these words after it, and each other replica the words that it had
pub record GoesOn (x : Rules) (y : Setting) (earlier : List Note) (n : Note) (after : ReplicaWords) : Type 0 where
  pub run : IsRun x y (n ∷ earlier)
  pub own : after ≡ words_of x y (n ∷ earlier) n.at
  pub others : (q : ℕ) → q ≢ n.at → words_of x y earlier q ≡ words_of x y (n ∷ earlier) q

-- a replica whose words are the run's, and that drains by numbers and counts, makes the run's next note
abbrev pub TurnsRefine : Rules → Setting → Type 0
TurnsRefine x y =
    (earlier : List Note) (r : ℕ) (took : Intake) (calls : List Call) (w after : ReplicaWords) → IsRun x y earlier → IsReplica y r → MayTake x y earlier r took →
    w ≡ words_of x y earlier r → DrainsHere x y (own_work x y w r took) calls after → GoesOn x y earlier (note_by x y w r took calls) after

-- no frame that was sent so far would be refused
abbrev pub FramesAreTaken : Rules → Setting → Type 0
FramesAreTaken x y =
    (notes : List Note) → IsRun x y notes → (from to which : ℕ) (f : Frame) → numbered (on_link notes from to) which ≡ Some f →
    deliver_refusal x y (words_of x y notes to) to from f ≡ None

-- no lane has more calls than a lane takes
abbrev pub LanesHaveRoom : Rules → Setting → Type 0
LanesHaveRoom x y = (notes : List Note) → IsRun x y notes → (lane : ℕ) → length (calls_of_lane lane (decisions notes)) ≤ x.lane_limit

-- ---- inputs

-- each allowed input has its note
abbrev pub NotesFollow : Rules → Setting → Type 0
NotesFollow x y =
    (earlier : List Note) (r : ℕ) (took : Intake) → IsRun x y earlier → IsReplica y r → MayTake x y earlier r took →
    IsRun x y (next_note x y earlier r took ∷ earlier)

-- what is computed of inputs is a run, and each run is computed of its inputs
abbrev pub InputsGiveRuns : Rules → Setting → Type 0
InputsGiveRuns x y =
    ((i : List Input) → IsRun x y (run_of x y i)) × ((notes : List Note) → IsRun x y notes → run_of x y (inputs notes) ≡ notes)

-- one list of inputs gives one run
abbrev pub OneRun : Rules → Setting → Type 0
OneRun x y =
    (notes others : List Note) → IsRun x y notes → IsRun x y others → inputs notes ≡ inputs others → notes ≡ others

-- ---- what is ready

-- the words of a replica, had it this log
abbrev pub words_at : Rules → Setting → List Note → ℕ → List Place → ReplicaWords
words_at x y notes r log = record (words_of x y notes r) {
  state = end_of (meaning_by x) (execution notes) log;
  log = log;
  count_of = λ s. count_by (in_slot y (execution notes) s) log;
}

-- at each closed log, a call is ready by its number and counts exactly where it came, is new, and its needs are logged
abbrev pub ReadyByNeeds : Rules → Setting → Type 0
ReadyByNeeds x y =
    (notes : List Note) (r : ℕ) (log : List Place) (p : Place) → IsRun x y notes → IsClosed (meaning_by x) (constraints y) (execution notes) log →
    IsWaiting (meaning_by x) (constraints y) (execution notes) log (places (arrived notes r)) p ↔ ((c : Call) × (place_of c ≡ p) × IsReadyHere y (words_at x y notes r log) c)

-- between turns no replica has a call that is ready
abbrev pub RunsAreSettled : Rules → Setting → Type 0
RunsAreSettled x y = (notes : List Note) → IsRun x y notes → (r : ℕ) → IsSettled y (words_of x y notes r)

-- the note that logs nothing is the next, and after it each replica has the words that it had
abbrev pub Leaves : Rules → Setting → List Note → ℕ → Intake → Type 0
Leaves x y earlier r took =
    IsRun x y (note_by x y (words_of x y earlier r) r took [] ∷ earlier) ×
    ((q : ℕ) → words_of x y (note_by x y (words_of x y earlier r) r took [] ∷ earlier) q ≡ words_of x y earlier q)

abbrev pub TornAndTicksLeave : Rules → Setting → Type 0
TornAndTicksLeave x y =
    (earlier : List Note) (r : ℕ) → IsRun x y earlier → IsReplica y r →
    ((from k : ℕ) (f : Frame) → numbered (on_link earlier from r) k ≡ Some f → Leaves x y earlier r (PartComes from k f)) × Leaves x y earlier r Beat

-- every log is a prefix of replica 1's
abbrev pub LogsFollow : Rules → Setting → Type 0
LogsFollow x y = (notes : List Note) → IsRun x y notes → (r : ℕ) → StartsWith (log_of notes r) (log_of notes 1)
