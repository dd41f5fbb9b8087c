-- What an event leaves of the parts of a world.
--     Comes, Halts     the turns of these inputs were made; or the first of them, and memory ran out
--     Refused          the event was refused, and the parts agree with the run as before
--     Leaves           one of these, by the answer
use Rattle.std.specs.Prelude.{◌≡◌, ◌≢◌, ℕ, ◌+◌, List, length, take, Some, None, Result, Ok, Err}
use Rattle.ham_syntax.specs.Objects.{Schema}
use Rattle.ham_plan.specs.Plans.{Plan}
use Rattle.ham_frame.specs.Decoding.{Fed}
use Rattle.ham_turns.specs.declared.event.Event.{Event}
use Rattle.ham_turns.specs.declared.turn.IssueRefusal.{IssueRefusal}
use Rattle.ham_turns.specs.declared.turn.IssueRefusal.TheVariants as issue
use Rattle.ham_turns.specs.Settings.{Setting, setting_of, IsReplica}
use Rattle.ham_replica.specs.Values.{Replica}
use Rattle.ham_runs.specs.Next.{Input}
use Rattle.ham_world.specs.declared.note.Note.{Note as Told}
use Rattle.ham_world.specs.declared.refusal.StepRefusal.{StepRefusal}
use Rattle.ham_world.specs.declared.refusal.StepRefusal.TheVariants as step
use Rattle.ham_world.specs.Worlds.{inputs_of, refusal_of, taken}
use Rattle.ham_world.specs.Keeping.{notes_of, Keeps, IsKept}

-- two replicas with a link
pub record IsLinked (y : Setting) (from to : ℕ) : Type 0 where
  pub from_is : IsReplica y from
  pub to_is : IsReplica y to
  pub other : from ≢ to

-- the turns of these inputs were made
pub record Comes (o : Schema) (p : Plan) (vs : List Replica) (links : List (List (List ℕ))) (ds : List Fed) (kept kept' : List Told) (sent : ℕ) (inputs : List Input) : Type 0 where
  pub keeps : Keeps o p vs links ds kept' sent
  pub kept_is : IsKept o p kept'
  pub run : notes_of o p kept' ≡ taken o (setting_of p) (notes_of o p kept) inputs
  pub count : length kept' ≡ length kept + length inputs

-- the turns of the first of these inputs were made
pub record Halts (o : Schema) (p : Plan) (kept kept' : List Told) (inputs : List Input) : Type 0 where
  pub made : ℕ
  pub kept_is : IsKept o p kept'
  pub run : notes_of o p kept' ≡ taken o (setting_of p) (notes_of o p kept) (take made inputs)

pub record Refused (o : Schema) (p : Plan) (vs : List Replica) (links : List (List (List ℕ))) (ds : List Fed) (kept kept' : List Told) (sent : ℕ) (e : Event) (why : StepRefusal) : Type 0 where
  pub refusal : refusal_of o (setting_of p) (notes_of o p kept) e ≡ Some why
  pub keeps : Keeps o p vs links ds kept' sent
  pub kept_is : kept' ≡ kept

-- the event was taken
pub record TakesIn (o : Schema) (p : Plan) (vs : List Replica) (links : List (List (List ℕ))) (ds : List Fed) (kept kept' : List Told) (sent : ℕ) (e : Event) : Type 0 where
  pub allowed : refusal_of o (setting_of p) (notes_of o p kept) e ≡ None
  pub comes : Comes o p vs links ds kept kept' sent (inputs_of e)

abbrev pub Leaves : Schema → Plan → List Replica → List (List (List ℕ)) → List Fed → List Told → List Told → ℕ → Event → Result Unit StepRefusal → Type 0
Leaves o p vs links ds kept kept' sent e (Ok done) = TakesIn o p vs links ds kept kept' sent e
Leaves o p vs links ds kept kept' sent e (Err step.NoMemory) = Halts o p kept kept' (inputs_of e)
Leaves o p vs links ds kept kept' sent e (Err step.NoSuchReplica) = Refused o p vs links ds kept kept' sent e step.NoSuchReplica
Leaves o p vs links ds kept kept' sent e (Err step.NoSuchFrame) = Refused o p vs links ds kept kept' sent e step.NoSuchFrame
Leaves o p vs links ds kept kept' sent e (Err step.BadCut) = Refused o p vs links ds kept kept' sent e step.BadCut
Leaves o p vs links ds kept kept' sent e (Err step.SentFull) = Refused o p vs links ds kept kept' sent e step.SentFull
Leaves o p vs links ds kept kept' sent e (Err (step.Issue why)) = Refused o p vs links ds kept kept' sent e (step.Issue why)

abbrev pub step_of : IssueRefusal → StepRefusal
step_of issue.NoMemory = step.NoMemory
step_of issue.UnknownMethod = step.Issue issue.UnknownMethod
step_of issue.BadArgs = step.Issue issue.BadArgs
step_of issue.LaneFull = step.Issue issue.LaneFull
step_of issue.RequestsFull = step.Issue issue.RequestsFull
