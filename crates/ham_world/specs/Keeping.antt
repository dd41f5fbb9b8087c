-- What the parts of a world keep of its run, the oldest of the kept notes first.
--     notes_of                the run of the notes that are kept
--     IsAt, HasReplica        a replica whose words are those of the run
--     Keeps, IsKept           all parts agree with the run; what is so of a stopped world too
--     TurnsAt, Goes           a replica had a turn; and the parts agree with the longer run
use Rattle.std.specs.Prelude.{Bool, ◌≡◌, ℕ, ◌+◌, ◌-◌, ◌*◌, List, map, reverse, length, Option, Some, slice_get, slice_set}
use Rattle.std.specs.List.{AllByRecursion}
use Rattle.ham_syntax.specs.declared.act.Act.{Act}
use Rattle.ham_syntax.specs.declared.act.Place.{Place}
use Rattle.ham_syntax.specs.declared.limits.TheConstants.{MAX_REPLICAS}
use Rattle.ham_syntax.specs.Objects.{Schema}
use Rattle.ham_plan.specs.Plans.{Plan}
use Rattle.ham_laws.specs.Constrained.{IsPlanned}
use Rattle.ham_frame.specs.declared.frame.Frame.{Frame}
use Rattle.ham_frame.specs.Spelling.{AllFit}
use Rattle.ham_frame.specs.Decoding.{Fed}
use Rattle.ham_turns.specs.declared.turn.IssueRefusal.{IssueRefusal}
use Rattle.ham_turns.specs.declared.turn.DeliverRefusal.{DeliverRefusal}
use Rattle.ham_turns.specs.declared.turn.Out.{Out}
use Rattle.ham_turns.specs.declared.turn.What.{What}
use Rattle.ham_turns.specs.declared.turn.What.TheVariants as whats
use Rattle.ham_turns.specs.Settings.{rules_of, setting_of, IsReplica}
use Rattle.ham_turns.specs.Words.{Intake}
use Rattle.ham_turns.specs.Ready.{IsSettled}
use Rattle.ham_turns.specs.Refusals.{issue_refusal, deliver_refusal}
use Rattle.ham_replica.specs.Values.{Replica, words}
use Rattle.ham_replica.specs.Turning.{HasTurned}
use Rattle.ham_runs.specs.Runs.{Note, words_of, on_link}
use Rattle.ham_runs.specs.Next.{Input, input_of, run_of, after_input}
use Rattle.ham_runs.specs.Next.Input.{Issue, Deliver, Tear, Tick}
use Rattle.ham_world.specs.declared.note.Took.{Took}
use Rattle.ham_world.specs.declared.note.Took.TheVariants as tooks
use Rattle.ham_world.specs.declared.note.Note.{Note as Told}
use Rattle.ham_world.specs.Worlds.{all_sent, shown}
use Rattle.ham_wire.specs.Streams.{IsIdle}
use Rattle.ham_world.specs.Sending.{AreLinks}

-- ---- the run of the kept notes

abbrev pub input_by : ℕ → Took → What → Input
input_by r (tooks.Act a) what = Issue r a
input_by r (tooks.Frame from k) (whats.Issued i) = Deliver r from k
input_by r (tooks.Frame from k) (whats.Delivered d) = Deliver r from k
input_by r (tooks.Frame from k) whats.Torn = Tear r from k
input_by r (tooks.Frame from k) whats.Ticked = Deliver r from k
input_by r tooks.Tick what = Tick r

-- what was asked, read off a kept note
abbrev pub input_told : Told → Input
input_told s = input_by s.replica s.took s.what

unfoldable pub notes_of : Schema → Plan → List Told → List Note
notes_of o p kept = run_of (rules_of o) (setting_of p) (map input_told kept)

-- ---- replicas

-- a replica with the words that are read off the notes, all of whose ready calls are logged
pub record IsAt (o : Schema) (p : Plan) (notes : List Note) (r : ℕ) (v : Replica) : Type 0 where
  pub object : v.site.object ≡ o
  pub plan : v.site.plan ≡ p
  pub me : v.site.me ≡ r
  pub said : words v.lists ≡ words_of (rules_of o) (setting_of p) notes r
  pub settled : IsSettled (setting_of p) (words v.lists)

-- the r-th replica
pub record HasReplica (o : Schema) (p : Plan) (notes : List Note) (replicas : List Replica) (r : ℕ) : Type 0 where
  pub value : Replica
  pub there : slice_get replicas (r - 1) ≡ Some value
  pub is : IsAt o p notes r value

abbrev pub IsSettledAt : List Replica → ℕ → Type 0
IsSettledAt replicas r = (v : Replica) → slice_get replicas (r - 1) ≡ Some v → IsSettled (setting_of v.site.plan) (words v.lists)

abbrev pub refuses_issue : Replica → Act → Option IssueRefusal
refuses_issue v a = issue_refusal (rules_of v.site.object) (setting_of v.site.plan) (words v.lists) v.site.me a

abbrev pub refuses_delivery : Replica → ℕ → Frame → Option DeliverRefusal
refuses_delivery v from f = deliver_refusal (rules_of v.site.object) (setting_of v.site.plan) (words v.lists) v.site.me from f

-- ---- all parts

abbrev pub AreFit : (ℕ → ℕ → List Frame) → Type 0
AreFit sent = (from to : ℕ) → AllFit (sent from to)

abbrev pub AreIdle : List Fed → Type 0
AreIdle decoders = (length decoders ≡ MAX_REPLICAS * MAX_REPLICAS) × AllByRecursion IsIdle decoders

-- all parts agree with the notes
pub record Keeps (o : Schema) (p : Plan) (replicas : List Replica) (links : List (List (List ℕ))) (decoders : List Fed) (kept : List Told) (sent : ℕ) : Type 0 where
  pub each : (r : ℕ) → IsReplica (setting_of p) r → HasReplica o p (notes_of o p kept) replicas r
  pub linked : AreLinks links (on_link (notes_of o p kept))
  pub fit : AreFit (on_link (notes_of o p kept))
  pub idle : AreIdle decoders
  pub total : sent ≡ all_sent (notes_of o p kept)

-- what is so of a stopped world too
pub record IsKept (o : Schema) (p : Plan) (kept : List Told) : Type 0 where
  pub sound : IsPlanned o p
  pub shown_are : kept ≡ map shown (reverse (notes_of o p kept))

-- ---- a turn

-- the r-th of the replicas had a turn
pub record TurnsAt (old new : List Replica) (r : ℕ) (took : Intake) (answer : What) (logged : List Place) (outs : List Out) (settled : Bool) : Type 0 where
  pub before : Replica
  pub after : Replica
  pub there : slice_get old (r - 1) ≡ Some before
  pub replaced : new ≡ slice_set old (r - 1) after
  pub site : after.site ≡ before.site
  pub turn : HasTurned before after took answer logged outs settled

-- what a turn leaves
pub record Goes (o : Schema) (p : Plan) (vs : List Replica) (links : List (List (List ℕ))) (ds : List Fed) (kept kept' : List Told) (sent r : ℕ) (took : Intake) : Type 0 where
  pub keeps : Keeps o p vs links ds kept' sent
  pub kept_is : IsKept o p kept'
  pub run : notes_of o p kept' ≡ after_input (rules_of o) (setting_of p) (notes_of o p kept) (input_of r took)
  pub one : length kept' ≡ length kept + 1
