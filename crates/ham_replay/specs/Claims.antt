-- Plans for 1 to MAX_REPLICAS replicas, and what is so of each replay under them.
use Rattle.std.specs.Prelude.{◌≡◌, ℕ, ◌-◌, ◌≤◌, false, List, [], length, slice_get, Option, Some, None}
use Rattle.ham_syntax.specs.declared.limits.TheConstants.{MAX_REPLICAS}
use Rattle.ham_syntax.specs.Objects.{Schema}
use Rattle.ham_plan.specs.Plans.{Plan}
use Rattle.ham_turns.specs.Settings.{Setting, setting_of, rules_of}
use Rattle.ham_laws.specs.Constrained.{IsPlanned}
use Rattle.ham_runs.specs.Headline.{IsFaithful}
use Rattle.ham_runs.specs.Runs.{IsRun}
use Rattle.ham_replay.specs.Replays.{Played}

-- the N-th plan has N replicas, the object's methods, and is sound
pub record ArePlans (o : Schema) (plans : List Plan) : Type 0 where
  pub eight : length plans ≡ MAX_REPLICAS
  pub planned : (n : ℕ) (p : Plan) → 1 ≤ n → n ≤ MAX_REPLICAS → slice_get plans (n - 1) ≡ Some p → IsPlanned o p
  pub replicas : (n : ℕ) (p : Plan) → 1 ≤ n → n ≤ MAX_REPLICAS → slice_get plans (n - 1) ≡ Some p → p.replicas ≡ n

-- of no plan: nothing is there
abbrev pub no_setting : Setting
no_setting = record { methods = 0; replicas = 0; groups = 0; lanes = 0; conflict = λ m n. false; depends = λ m n. false; lane = λ m r. 0; decider = λ l. 0; slot = λ m r. 0; needs = λ m. [] }

abbrev pub setting_by : Option Plan → Setting
setting_by None = no_setting
setting_by (Some p) = setting_of p

-- the setting of the plan for so many replicas
unfoldable pub settings_of : List Plan → ℕ → Setting
settings_of plans n = setting_by (slice_get plans (n - 1))

-- the run of a world that was made is faithful in its setting
abbrev pub IsPlayedFaithfully : Schema → (ℕ → Setting) → Played → Type 0
IsPlayedFaithfully o settings p = (n : ℕ) → p.replicas ≡ Some n → IsFaithful (rules_of o) (settings n) p.notes

-- the notes of a world that was made are a run in its setting, of 1 to MAX_REPLICAS replicas
pub record IsRunOf (o : Schema) (plans : List Plan) (p : Played) (n : ℕ) : Type 0 where
  pub some : 1 ≤ n
  pub few : n ≤ MAX_REPLICAS
  pub plan : Plan
  pub planned : IsPlanned o plan
  pub replicas : plan.replicas ≡ n
  pub setting : settings_of plans n ≡ setting_of plan
  pub run : IsRun (rules_of o) (settings_of plans n) p.notes

abbrev pub IsPlayedRun : Schema → List Plan → Played → Type 0
IsPlayedRun o plans p = (n : ℕ) → p.replicas ≡ Some n → IsRunOf o plans p n
