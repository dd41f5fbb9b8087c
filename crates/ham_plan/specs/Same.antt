-- Plans that say the same, whatever else their values hold.
--     SaysSame      the same methods, replicas, conflicts and dependencies
--     GivesSame     the same groups, lanes, slots and dependency arrays
use Rattle.std.specs.Prelude.{◌≡◌, ℕ}
use Rattle.ham_plan.specs.Plans.{Plan, conflicts, depends_on, groups, group_of, leader_of, lanes, lane_of, decider_of, slots, slot_of, needs_of}

pub record SaysSame (p q : Plan) : Type 0 where
  pub methods : p.methods ≡ q.methods
  pub replicas : p.replicas ≡ q.replicas
  pub conflict : (m n : ℕ) → conflicts p m n ≡ conflicts q m n
  pub depends : (m n : ℕ) → depends_on p m n ≡ depends_on q m n

pub record GivesSame (p q : Plan) : Type 0 where
  pub groups : groups p ≡ groups q
  pub group : (m : ℕ) → group_of p m ≡ group_of q m
  pub leader : (g : ℕ) → leader_of p g ≡ leader_of q g
  pub lanes : lanes p ≡ lanes q
  pub lane : (m r : ℕ) → lane_of p m r ≡ lane_of q m r
  pub decider : (l : ℕ) → decider_of p l ≡ decider_of q l
  pub slots : slots p ≡ slots q
  pub slot : (m r : ℕ) → slot_of p m r ≡ slot_of q m r
  pub needs : (m : ℕ) → needs_of p m ≡ needs_of q m
