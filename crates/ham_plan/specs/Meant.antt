-- What a plan's groups, lanes, slots and dependency arrays are, said without the arithmetic by which they are numbered.
--     GroupsAreChains     groups are what chains of conflicts join
--     LanesAreDecided     a lane is a group's, or one replica's of a free method, and who decides it
--     SlotsAreOfLanes     a slot is a method's calls of one lane
--     ArraysAreNeeds      a dependency array lists the slots of the methods on which a method depends
use Rattle.std.specs.Prelude.{◌≡◌, ◌↔◌, ℕ, ◌<◌, ◌≤◌, ⊤, true, List, [], ◌∷◌, Some, None}
use Rattle.ham_plan.specs.Lists.{In}
use Rattle.ham_plan.specs.Groups.{Joined, IsFree}
use Rattle.ham_plan.specs.Plans.{Plan, conflicts, depends_on, least_of, groups, group_of, leader_of, lanes, lane_of, decider_of, slots, slot_of, needs_of}

-- replicas count from 1
abbrev pub IsReplicaOf : Plan → ℕ → Type 0
IsReplicaOf p r = (1 ≤ r) × (r ≤ p.replicas)

abbrev pub AreInOneGroup : Plan → ℕ → ℕ → Type 0
AreInOneGroup p m n = (g : ℕ) × (group_of p m ≡ Some g) × (group_of p n ≡ Some g)

pub record GroupsAreChains (p : Plan) : Type 0 where
  -- two methods are in one group exactly where a chain of conflicts joins them
  pub joined : (m n : ℕ) → AreInOneGroup p m n ↔ Joined (conflicts p) m n
  -- a method is in none exactly where it conflicts with none
  pub free : (m : ℕ) → (group_of p m ≡ None) ↔ IsFree (conflicts p) m
  -- the groups that there are are those of methods
  pub exists : (m g : ℕ) → group_of p m ≡ Some g → g < groups p
  pub some_method : (g : ℕ) → g < groups p → (m : ℕ) × (m < p.methods) × (group_of p m ≡ Some g)
  -- they are numbered by their least methods
  pub ascending : (m n l k g h : ℕ) → least_of p m ≡ Some l → least_of p n ≡ Some k → group_of p m ≡ Some g → group_of p n ≡ Some h → l < k → g < h

pub record LanesAreDecided (p : Plan) : Type 0 where
  -- the calls of a group have one lane, which the group's leader decides
  pub group_lane : (m g r : ℕ) → group_of p m ≡ Some g → lane_of p m r ≡ g
  pub group_decider : (g : ℕ) → g < groups p → decider_of p g ≡ leader_of p g
  -- a replica decides its own calls of a free method, in a lane that is no group's and nobody else's
  pub own_decider : (m r : ℕ) → IsReplicaOf p r → group_of p m ≡ None → decider_of p (lane_of p m r) ≡ r
  pub own_lane : (m r : ℕ) → group_of p m ≡ None → groups p ≤ lane_of p m r
  pub own_alone : (m n r q : ℕ) → IsReplicaOf p r → IsReplicaOf p q → group_of p m ≡ None → group_of p n ≡ None → lane_of p m r ≡ lane_of p n q → (m ≡ n) × (r ≡ q)
  -- the lanes that there are are those of methods at replicas
  pub exists : (m r : ℕ) → m < p.methods → IsReplicaOf p r → lane_of p m r < lanes p
  pub some_method : (l : ℕ) → l < lanes p → (m r : ℕ) × (m < p.methods) × IsReplicaOf p r × (l ≡ lane_of p m r)
  pub decider_exists : (l : ℕ) → IsReplicaOf p (decider_of p l)
  -- calls that conflict are in one lane
  pub shared : (m n r q : ℕ) → conflicts p m n ≡ true → lane_of p m r ≡ lane_of p n q

pub record SlotsAreOfLanes (p : Plan) : Type 0 where
  pub exists : (m r : ℕ) → m < p.methods → IsReplicaOf p r → slot_of p m r < slots p
  pub some_method : (s : ℕ) → s < slots p → (m r : ℕ) × (m < p.methods) × IsReplicaOf p r × (s ≡ slot_of p m r)
  -- two methods share none, and a method's slots are one for each of its lanes
  pub apart : (m n r q : ℕ) → IsReplicaOf p r → IsReplicaOf p q → slot_of p m r ≡ slot_of p n q → m ≡ n
  pub of_lane : (m r q : ℕ) → IsReplicaOf p r → IsReplicaOf p q → (slot_of p m r ≡ slot_of p m q) ↔ (lane_of p m r ≡ lane_of p m q)

-- each is less than those after it
abbrev pub Ascends : List ℕ → Type 0
Ascends [] = ⊤
Ascends (x ∷ xs) = ((y : ℕ) → In y xs → x < y) × Ascends xs

-- a slot of a method on which m depends
abbrev pub IsNeededSlot : Plan → ℕ → ℕ → Type 0
IsNeededSlot p m s = (n r : ℕ) × IsReplicaOf p r × (depends_on p m n ≡ true) × (s ≡ slot_of p n r)

pub record ArraysAreNeeds (p : Plan) : Type 0 where
  pub exactly : (m s : ℕ) → In s (needs_of p m) ↔ IsNeededSlot p m s
  pub ascending : (m : ℕ) → Ascends (needs_of p m)
