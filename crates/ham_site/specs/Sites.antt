-- A replica's site: the object, the plan, and which replica it is.
--     Site, IsSite                       the value, and what the type keeps
--     rules_at, setting_at, slots_at     the rules and the setting there, and how many slots are counted
--     IsBounded                          no counter is beyond a number
--     AreSteps                           what an act does, step by step
use Rattle.std.specs.Prelude.{◌≡◌, ℕ, ◌^◌, ◌≤◌, List, nat_abs}
use Rattle.std.specs.List.{AllByRecursion}
use Rattle.ham_syntax.specs.declared.act.Act.{Act}
use Rattle.ham_syntax.specs.Objects.{Schema}
use Rattle.ham_syntax.specs.Checked.{IsChecked}
use Rattle.ham_state.specs.Content.{State, value}
use Rattle.ham_state.specs.Steps.{IsWithin}
use Rattle.ham_steps.specs.declared.step.Step.{Step}
use Rattle.ham_meaning.specs.Meaning.{net_of}
use Rattle.ham_plan.specs.Plans.{Plan, slots}
use Rattle.ham_turns.specs.Settings.{Rules, Setting, rules_of, setting_of, IsReplica}
use Rattle.ham_turns.specs.Tables.{IsTabled, IsRanged}

pub record Site : Type 0 where
  pub object : Schema
  pub plan : Plan
  -- the replica's number, from 1
  pub me : ℕ

-- what acts mean; an object is looked into only where a law of meanings is used
unfoldable pub rules_at : Site → Rules
rules_at site = rules_of site.object

abbrev pub setting_at : Site → Setting
setting_at site = setting_of site.plan

unfoldable pub slots_at : Site → ℕ
slots_at site = slots site.plan

pub record IsSite (site : Site) : Type 0 where
  pub checked : IsChecked site.object
  pub ranged : IsRanged (rules_at site)
  pub tabled : IsTabled (setting_at site) (slots_at site)
  pub me_exists : IsReplica (setting_at site) site.me

-- no counter's magnitude is above n
unfoldable pub IsBounded : State → ℕ → Type 0
IsBounded s n = (c k : ℕ) → nat_abs (value s c k) ≤ n

-- what the act does, in steps that change counters by little
pub record AreSteps (site : Site) (a : Act) (steps : List Step) : Type 0 where
  pub are : steps ≡ net_of site.object a
  pub small : AllByRecursion (IsWithin (2 ^ 32)) steps
