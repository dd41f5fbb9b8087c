-- What the laws of runs use of an object and of its plan.
--     IsSetting           what a setting says of methods, lanes and slots, and rules of acts
--     Laws, IsGiven       the laws of coordination; all that the laws of runs rest on
use Rattle.std.specs.Prelude.{◌≡◌, ◌≢◌, ◌↔◌, ℕ, ◌<◌, true, IsTrue}
use Rattle.ham_syntax.specs.declared.act.Act.{Act}
use Rattle.ham_state.specs.Content.{State}
use Rattle.ham_meaning.specs.declared.outcome.Outcome.{Outcome}
use Rattle.ham_meaning.specs.declared.outcome.Outcome.TheVariants as outcomes
use Rattle.ham_meaning.specs.Relations.{Meaning}
use Rattle.ham_plan.specs.Lists.{In}
use Rattle.ham_laws.specs.Executions.{Constraints, IsSound}
use Rattle.ham_laws.specs.Coordinated.{StatesAgree, CallsArePermissible, InvariantHolds}
use Rattle.ham_laws.specs.Turns.{DecisionsKeep, DrainsKeep}
use Rattle.ham_laws.specs.Lanes.{DecisionsKeepLanes, DrainsKeepLanes}
use Rattle.ham_laws.specs.Drain.{DrainsReach}
use Rattle.ham_laws.specs.Counts.{ReadyExactly}
use Rattle.ham_turns.specs.Settings.{Rules, Setting, meaning_by, IsReplica}

-- a setting's two tests on methods, as the laws of coordination see them
abbrev pub constraints : Setting → Constraints
constraints y = record { conflict = y.conflict; depends = y.depends }

-- s is a slot of a method on which m depends
pub record IsNeeded (y : Setting) (m s : ℕ) : Type 0 where
  pub method : ℕ
  pub replica : ℕ
  pub exists : IsReplica y replica
  pub depends : y.depends m method ≡ true
  pub slot : s ≡ y.slot method replica

pub record IsSetting (x : Rules) (y : Setting) : Type 0 where
  pub fits_exist : (a : Act) → IsTrue (x.fits a) → a.method < y.methods
  pub permissible : (s : State) (a : Act) → x.outcome s a ≡ outcomes.Yes → x.Permissible s a
  pub outcome : (s : State) (a : Act) (u : Outcome) → (x.outcome s a ≡ u) ↔ x.IsOutcome s a u
  pub depends_exist : (m n : ℕ) → y.depends m n ≡ true → (m < y.methods) × (n < y.methods)
  -- methods that conflict share a lane
  pub share : (m n r q : ℕ) → IsReplica y r → IsReplica y q → y.conflict m n ≡ true → y.lane m r ≡ y.lane n q
  -- a lane that is decided elsewhere is a group's, and the method's at every replica
  pub group : (m r q : ℕ) → IsReplica y r → IsReplica y q → y.decider (y.lane m r) ≢ r → y.lane m q ≡ y.lane m r
  pub group_exists : (m r : ℕ) → IsReplica y r → y.decider (y.lane m r) ≢ r → y.lane m r < y.groups
  pub lane_exists : (m r : ℕ) → m < y.methods → IsReplica y r → y.lane m r < y.lanes
  -- a slot is the calls of one method in one lane
  pub slot_method : (m n r q : ℕ) → m < y.methods → n < y.methods → IsReplica y r → IsReplica y q → y.slot m r ≡ y.slot n q → m ≡ n
  pub slot_lane : (m r q : ℕ) → m < y.methods → IsReplica y r → IsReplica y q → y.slot m r ≡ y.slot m q → y.lane m r ≡ y.lane m q
  pub lane_slot : (m r q : ℕ) → m < y.methods → IsReplica y r → IsReplica y q → y.lane m r ≡ y.lane m q → y.slot m r ≡ y.slot m q
  -- a dependency array has exactly the slots of the methods on which the method depends
  pub needed : (m n r : ℕ) → IsReplica y r → y.depends m n ≡ true → In (y.slot n r) (y.needs m)
  pub needed_only : (m s : ℕ) → In s (y.needs m) → IsNeeded y m s

pub record Laws (m : Meaning) : Type 0 where
  pub states_agree : StatesAgree m
  pub calls_are_permissible : CallsArePermissible m
  pub invariant_holds : InvariantHolds m
  pub decisions_keep : DecisionsKeep m
  pub drains_keep : DrainsKeep m
  pub decisions_keep_lanes : DecisionsKeepLanes m
  pub drains_keep_lanes : DrainsKeepLanes m
  pub drains_reach : DrainsReach m
  pub ready_exactly : ReadyExactly m

-- the meaning has the laws, and the setting is as that of a sound plan
pub record IsGiven (x : Rules) (y : Setting) : Type 0 where
  pub setting : IsSetting x y
  pub sound : IsSound (meaning_by x) (constraints y)
  pub laws : Laws (meaning_by x)
