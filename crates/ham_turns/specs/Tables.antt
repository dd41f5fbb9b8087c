-- What a replica's code needs of its setting and rules.
--     IsTabled     each number that a setting gives is one that exists; every plan's setting has it
--     IsRanged     what rules let pass or answer has a place in frames; every checked object's rules have it
use Rattle.std.specs.Prelude.{◌≡◌, ◌≢◌, ℕ, ◌≤◌, ◌<◌, length, IsTrue}
use Rattle.std.specs.List.{AllByRecursion}
use Rattle.ham_syntax.specs.declared.act.Act.{Act}
use Rattle.ham_syntax.specs.declared.limits.TheConstants.{MAX_REPLICAS, MAX_GROUPS, MAX_LANES, MAX_SLOTS, MAX_LANE_CALLS, MAX_PARTS, MAX_INVARIANTS}
use Rattle.ham_state.specs.Content.{State}
use Rattle.ham_meaning.specs.declared.outcome.Outcome.TheVariants as outcomes
use Rattle.ham_frame.specs.Spelling.{FitsAct, IsArgument}
use Rattle.ham_turns.specs.Settings.{Rules, Setting, IsReplica}

-- a slot of some method and replica
pub record IsSlot (y : Setting) (s : ℕ) : Type 0 where
  pub method : ℕ
  pub replica : ℕ
  pub method_exists : method < y.methods
  pub replica_exists : IsReplica y replica
  pub slot : s ≡ y.slot method replica

pub record IsTabled (y : Setting) (slots : ℕ) : Type 0 where
  pub some_replicas : 1 ≤ y.replicas
  pub few_replicas : y.replicas ≤ MAX_REPLICAS
  pub few_groups : y.groups ≤ MAX_GROUPS
  pub few_lanes : y.lanes ≤ MAX_LANES
  pub few_slots : slots ≤ MAX_SLOTS
  -- each group has a lane
  pub group_lane : y.groups ≤ y.lanes
  pub lane_exists : (m r : ℕ) → m < y.methods → IsReplica y r → y.lane m r < y.lanes
  pub decider_exists : (l : ℕ) → l < y.lanes → IsReplica y (y.decider l)
  pub slot_exists : (m r : ℕ) → m < y.methods → IsReplica y r → y.slot m r < slots
  -- a lane that is decided elsewhere is a group's
  pub group_exists : (m r : ℕ) → m < y.methods → IsReplica y r → y.decider (y.lane m r) ≢ r → y.lane m r < y.groups
  -- and then it is the method's lane at every replica
  pub group_same : (m r q : ℕ) → IsReplica y r → IsReplica y q → y.decider (y.lane m r) ≢ r → y.lane m q ≡ y.lane m r
  -- calls of one slot are of one lane
  pub slot_lane : (m n r q : ℕ) → m < y.methods → n < y.methods → IsReplica y r → IsReplica y q → y.slot m r ≡ y.slot n q → y.lane m r ≡ y.lane n q
  -- a dependency array has slots that exist, no more than there may be
  pub needs_exist : (m : ℕ) → m < y.methods → AllByRecursion (λ s. s < slots) (y.needs m)
  pub needs_are_slots : (m : ℕ) → m < y.methods → AllByRecursion (IsSlot y) (y.needs m)
  pub few_needs : (m : ℕ) → m < y.methods → length (y.needs m) ≤ MAX_SLOTS

pub record IsRanged (x : Rules) : Type 0 where
  -- rules don't bound ids: that arguments have 64 bits is said of acts by their type
  pub act : (a : Act) → IsTrue (x.fits a) → AllByRecursion IsArgument a.args → FitsAct a
  pub guard : (s : State) (a : Act) (i : ℕ) → x.outcome s a ≡ outcomes.Guard i → i < MAX_PARTS
  pub invariant : (s : State) (a : Act) (i : ℕ) → x.outcome s a ≡ outcomes.Invariant i → i < MAX_INVARIANTS
  pub limit : x.lane_limit ≤ MAX_LANE_CALLS
