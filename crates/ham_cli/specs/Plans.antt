-- The plans that the rules derive from an object.
use Rattle.std.specs.Prelude.{◌≡◌, ℕ, ◌-◌, ◌≤◌, List, length, slice_get, Some}
use Rattle.ham_syntax.specs.declared.limits.TheConstants.{MAX_REPLICAS}
use Rattle.ham_syntax.specs.Objects.{Schema}
use Rattle.ham_plan.specs.Plans.{Plan}
use Rattle.ham_turns.specs.Settings.{setting_of}
use Rattle.ham_tables.specs.DerivedPlans.{IsDerivedPlan}

-- the plan for so many replicas
pub record IsPlanFor (o : Schema) (replicas : ℕ) (p : Plan) : Type 0 where
  pub derived : IsDerivedPlan o p
  pub replicas_are : p.replicas ≡ replicas

-- the plans for 1 to MAX_REPLICAS replicas
pub record AreDerived (o : Schema) (plans : List Plan) : Type 0 where
  pub all : length plans ≡ MAX_REPLICAS
  pub derived : (n : ℕ) (p : Plan) → 1 ≤ n → n ≤ MAX_REPLICAS → slice_get plans (n - 1) ≡ Some p → IsPlanFor o n p

-- the plans of an object for so many replicas have one setting
abbrev pub HaveOneSetting : Type 0
HaveOneSetting = (o : Schema) (n : ℕ) (p q : Plan) → IsPlanFor o n p → IsPlanFor o n q → setting_of p ≡ setting_of q
