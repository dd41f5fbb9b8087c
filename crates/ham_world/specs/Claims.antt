-- What is so of every world.
--     IsReached              the runs that worlds make, one event after another
--     WorldsAreFaithful      each is faithful
use Rattle.std.specs.Prelude.{ℕ, Result}
use Rattle.ham_syntax.specs.Objects.{Schema}
use Rattle.ham_plan.specs.Plans.{Plan}
use Rattle.ham_laws.specs.Constrained.{IsPlanned}
use Rattle.ham_turns.specs.declared.event.Event.{Event}
use Rattle.ham_turns.specs.Settings.{rules_of, setting_of}
use Rattle.ham_runs.specs.Headline.{IsFaithful}
use Rattle.ham_world.specs.declared.refusal.StepRefusal.{StepRefusal}
use Rattle.ham_world.specs.Worlds.{Run, begun, Steps}

pub data IsReached (o : Schema) (p : Plan) : Run → Type 0 where
  Begun : IsReached o p (begun o p)
  Stepped : {old new : Run} (e : Event) (result : Result ℕ StepRefusal) → IsReached o p old → Steps old new e result → IsReached o p new

abbrev pub WorldsAreFaithful : Type 0
WorldsAreFaithful = (o : Schema) (p : Plan) → IsPlanned o p → (r : Run) → IsReached o p r → IsFaithful (rules_of o) (setting_of p) r.notes
