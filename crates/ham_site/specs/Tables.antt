-- The tables that a site keeps of its plan.
use Rattle.std.specs.Prelude.{◌≡◌, ℕ, ◌-◌, ◌≤◌, ◌<◌, List, length, slice_get, slice_index, Some}
use Rattle.ham_plan.specs.Plans.{Plan, groups, lanes, lane_of, decider_of, slots, slot_of, needs_of}
use Rattle.ham_site.specs.declared.tables.MethodPlan.{MethodPlan}

-- the lane of a method's calls that each replica issues
abbrev pub HasLanes : Plan → ℕ → List ℕ → Type 0
HasLanes p m found = (r : ℕ) → 1 ≤ r → r ≤ p.replicas → slice_index found (r - 1) ≡ lane_of p m r

-- the slot of a method's calls that each replica decides
abbrev pub HasSlots : Plan → ℕ → List ℕ → Type 0
HasSlots p m found = (r : ℕ) → 1 ≤ r → r ≤ p.replicas → slice_index found (r - 1) ≡ slot_of p m r

pub record IsMethodPlan (p : Plan) (m : ℕ) (found : MethodPlan) : Type 0 where
  pub lanes : HasLanes p m found.lanes
  pub slots : HasSlots p m found.slots
  pub needs : found.needs ≡ needs_of p m

-- each entry is that of the method with its number
abbrev pub AreMethodPlans : Plan → List MethodPlan → Type 0
AreMethodPlans p found = (m : ℕ) (x : MethodPlan) → slice_get found m ≡ Some x → IsMethodPlan p m x

-- who decides each of the first n lanes
abbrev pub HasDeciders : Plan → ℕ → List ℕ → Type 0
HasDeciders p n found = (l : ℕ) → l < n → slice_index found l ≡ decider_of p l

pub record AreTables (p : Plan) (methods : List MethodPlan) (deciders : List ℕ) (group_count lane_count slot_count : ℕ) : Type 0 where
  pub many_methods : length methods ≡ p.methods
  pub each_method : AreMethodPlans p methods
  pub many_deciders : length deciders ≡ lanes p
  pub each_decider : HasDeciders p (lanes p) deciders
  pub groups : group_count ≡ groups p
  pub lanes : lane_count ≡ lanes p
  pub slots : slot_count ≡ slots p
