-- A sound plan of a checked object has all that the laws of runs use.
use Rattle.std.proofs.Common.{◌≡◌, ◌<◌, sym, subst}
use Rattle.ham_syntax.specs.declared.act.Act.{Act}
use Rattle.ham_syntax.specs.Objects.{Schema}
use Rattle.ham_state.specs.Content.{State}
use Rattle.ham_meaning.specs.declared.outcome.Outcome.{Outcome}
use Rattle.ham_meaning.specs.Meaning.{IsOutcome, outcome_of}
use Rattle.ham_meaning.specs.OfObjects.{meaning}
use Rattle.ham_plan.specs.Plans.{Plan}
use Rattle.ham_laws.proofs.Missing.{act-within}
use Rattle.ham_laws.specs.Constrained.{IsPlanned}
use Rattle.ham_runs.specs.Facts.{Laws, IsGiven}
use Rattle.ham_turns.specs.Settings.{setting_of}
use Rattle.ham_turns.specs.Settings.{rules_of}
use Rattle.ham_runs.proofs.PlanSettings.{KeepsRules, plan_setting}

module _ (o : Schema) (exact : (s : State) (act : Act) → IsOutcome o s act (outcome_of o s act)) (one : (s : State) (act : Act) (u v : Outcome) → IsOutcome o s act u → IsOutcome o s act v → u ≡ v) where
  keeps_rules : (p : Plan) → IsPlanned o p → KeepsRules (rules_of o) p.methods
  keeps_rules p planned = record {
    fits_exist = λ a fits. subst (λ n. a.method < n) (sym planned.methods) (act-within o a fits);
    permissible = λ s a h. subst (λ u. IsOutcome o s a u) h (exact s a);
    outcome = λ s a u. (λ h. subst (λ v. IsOutcome o s a v) h (exact s a), λ h. one s a (outcome_of o s a) u (exact s a) h);
  }

  pub given : (p : Plan) → IsPlanned o p → Laws (meaning o) → IsGiven (rules_of o) (setting_of p)
  unfolding setting_of
  given p planned laws = record {
    setting = plan_setting (rules_of o) p planned.plan (keeps_rules p planned);
    sound = planned.sound;
    laws = laws;
  }
