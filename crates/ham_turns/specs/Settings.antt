-- What the table of turns knows of an object and of its plan. The table speaks of any rules and any setting: so its
-- proofs stay small, and what an object means and how a plan counts its lanes is looked at where it matters.
--     Rules, rules_of           what acts mean, and those of an object
--     Setting, setting_of       who decides what in which lane, and the setting of a plan
--     meaning_by                the rules as the laws of coordination see them
use Rattle.std.specs.Prelude.{ℕ, ◌≤◌, Bool, List, IsTrue}
use Rattle.ham_syntax.specs.declared.act.Act.{Act}
use Rattle.ham_syntax.specs.declared.limits.TheConstants.{MAX_LANE_CALLS}
use Rattle.ham_syntax.specs.Objects.{Schema, args_fit, columns_of}
use Rattle.ham_state.specs.Content.{State, opening}
use Rattle.ham_meaning.specs.declared.outcome.Outcome.{Outcome}
use Rattle.ham_meaning.specs.Meaning.{update, AllHold, IsPermissible, IsOutcome, outcome_of}
use Rattle.ham_meaning.specs.OfObjects.{HasColumns}
use Rattle.ham_meaning.specs.Relations.{Meaning}
use Rattle.ham_plan.specs.Plans.{Plan, conflicts, depends_on, groups, lanes, lane_of, decider_of, slot_of, needs_of}

-- ---- rules

pub record Rules : Type 1 where
  pub opening : State
  pub update : Act → State → State
  -- whether an act is permissible, else the first condition that fails
  pub outcome : State → Act → Outcome
  -- the same, as a relation
  pub IsOutcome : State → Act → Outcome → Type 0
  pub fits : Act → Bool
  -- how many calls a lane takes
  pub lane_limit : ℕ
  pub Permissible : State → Act → Type 0
  pub Invariant : State → Type 0
  pub IsWellFormed : State → Type 0

abbrev pub rules_of : Schema → Rules
rules_of o = record {
  opening = opening;
  update = update o;
  outcome = outcome_of o;
  IsOutcome = IsOutcome o;
  fits = args_fit o;
  lane_limit = MAX_LANE_CALLS;
  Permissible = IsPermissible o;
  Invariant = AllHold o;
  IsWellFormed = HasColumns (columns_of o);
}

abbrev pub meaning_by : Rules → Meaning
meaning_by x = record {
  State = State;
  Act = Act;
  opening = x.opening;
  method = λ a. a.method;
  update = x.update;
  Permissible = x.Permissible;
  Invariant = x.Invariant;
  IsWellFormed = x.IsWellFormed;
  Fits = λ a. IsTrue (x.fits a);
}

-- ---- settings

-- methods, groups, lanes and slots count from 0, replicas from 1
pub record Setting : Type 0 where
  pub methods : ℕ
  pub replicas : ℕ
  pub groups : ℕ
  pub lanes : ℕ
  pub conflict : ℕ → ℕ → Bool
  pub depends : ℕ → ℕ → Bool
  -- of a method and a replica: the lane of the method's calls that the replica issues, which a group's leader decides
  pub lane : ℕ → ℕ → ℕ
  -- the replica that decides a lane's calls; a group has the number of its lane, and that replica leads it
  pub decider : ℕ → ℕ
  -- of a method and a deciding replica: where the method's calls that it decides are counted
  pub slot : ℕ → ℕ → ℕ
  -- the slots of a method's dependency array, in order
  pub needs : ℕ → List ℕ

-- a plan is looked into only where its setting is shown to have some property
unfoldable pub setting_of : Plan → Setting
setting_of p = record {
  methods = p.methods;
  replicas = p.replicas;
  groups = groups p;
  lanes = lanes p;
  conflict = conflicts p;
  depends = depends_on p;
  lane = lane_of p;
  decider = decider_of p;
  slot = slot_of p;
  needs = needs_of p;
}

abbrev pub IsReplica : Setting → ℕ → Type 0
IsReplica y r = (1 ≤ r) × (r ≤ y.replicas)
