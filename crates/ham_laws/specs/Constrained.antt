-- A plan as the laws of coordination see it.
--     constraints_of     its two tests on methods
--     IsPlanned          a plan is sound for a checked object
use Rattle.std.specs.Prelude.{◌≡◌, length}
use Rattle.ham_syntax.specs.Objects.{Schema}
use Rattle.ham_syntax.specs.Checked.{IsChecked}
use Rattle.ham_meaning.specs.OfObjects.{meaning}
use Rattle.ham_laws.specs.Executions.{Constraints, IsSound}
use Rattle.ham_plan.specs.Plans.{Plan, IsPlan, conflicts, depends_on}

abbrev pub constraints_of : Plan → Constraints
constraints_of p = record { conflict = conflicts p; depends = depends_on p }

-- the object is checked, and the plan has its methods and is sound for it
pub record IsPlanned (o : Schema) (p : Plan) : Type 0 where
  pub checked : IsChecked o
  pub plan : IsPlan p
  pub methods : p.methods ≡ length o.methods
  pub sound : IsSound (meaning o) (constraints_of p)
