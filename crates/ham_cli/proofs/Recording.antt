-- What is recorded of a schedule.
use Rattle.std.proofs.Common.{◌≡◌, ℕ, ◌-◌, ◌≤◌, List, length, Option, Some, None, inl, inr, refl, sym, ap, subst, ◌∙◌, arith}
use Rattle.std.specs.Prelude.{slice_get}
use Rattle.std.proofs.lemmas.Option.{slice_get_cases}
use Rattle.ham_syntax.specs.declared.limits.TheConstants.{MAX_REPLICAS}
use Rattle.ham_syntax.specs.Objects.{Schema}
use Rattle.ham_plan.specs.Plans.{Plan}
use Rattle.ham_turns.specs.Settings.{Setting, rules_of, setting_of}
use Rattle.ham_replay.specs.declared.end.ReplayEnd.{ReplayEnd}
use Rattle.ham_replay.specs.declared.end.ReplayEnd.TheVariants as ends
use Rattle.ham_replay.specs.Claims.{settings_of, setting_by}
use Rattle.ham_replay.specs.Replays.{Played, played}
use Rattle.ham_replay.specs.Ends.{EndsAs, Writes}
use Rattle.ham_records.specs.declared.records.Logged.{Logged}
use Rattle.ham_audit.specs.Claims.{logs_of_run}
use Rattle.ham_audit.specs.Faults.{fault_of}
use Rattle.ham_record.specs.Recorded.{IsAccepted, recorded}
use Rattle.ham_cli.specs.declared.exit.Exit.{Exit}
use Rattle.ham_cli.specs.declared.exit.Exit.TheVariants as exits
use Rattle.ham_cli.specs.Exits.{exit_of_replay}
use Rattle.ham_cli.specs.Told.{Tells}
use Rattle.ham_cli.specs.Plans.{IsPlanFor, AreDerived}
use Rattle.ham_cli.specs.AuditAnswers.{IsFaultless}
use Rattle.ham_cli.specs.RecordAnswers.{AnswersRecord, IsRecordedWell}
use Rattle.ham_cli.proofs.Telling.{told_by, ends_by}
use Rattle.ham_cli.proofs.Drawn.{was_done}

module _ (o : Schema) (plans : List Plan) (derived : AreDerived o plans) where
  plan_there : (n : ℕ) → 1 ≤ n → n ≤ MAX_REPLICAS → (p : Plan) × (slice_get plans (n - 1) ≡ Some p)
  plan_there n some few = elim ((slice_get_cases plans (n - 1)).1) [
    | inl h ↦ (h.0, h.2)
    | inr h ↦ absurd (omega (arith, h.0, derived.all))
  ]

  pub accepted_faultless : (q : Played) → IsAccepted o (settings_of plans) q → IsFaultless o (recorded o (settings_of plans) q)
  unfolding settings_of setting_of
  accepted_faultless q h =
      let logs : List (List Logged) = logs_of_run (settings_of plans h.count) q.notes in
      let p = plan_there h.count h.some h.few in
      let plan : IsPlanFor o h.count p.0 = derived.derived h.count p.0 h.some h.few p.1 in
      let same : settings_of plans h.count ≡ setting_of p.0 = ap setting_by p.1 in
      let size : length logs ≡ h.count = h.are_recorded.replicas ∙ ap (λ (y : Setting). y.replicas) same ∙ plan.replicas_are in (
        record { records = logs; text = h.text; plan = p.0; derived = subst (λ (n : ℕ). IsPlanFor o n p.0) (sym size) plan },
        subst (λ (y : Setting). fault_of (rules_of o) y logs ≡ None) same h.faultless,
      )

  -- the records of a schedule, as they are told
  pub told_record : (schedule : List ℕ) (before now : Option (List ℕ)) (end : ReplayEnd) (exit : Exit) → exit ≡ exit_of_replay end → EndsAs (played o (settings_of plans) schedule) end
      → Writes before now (recorded o (settings_of plans) (played o (settings_of plans) schedule)) end → Tells (AnswersRecord o schedule) before now exit
  told_record schedule before now end exit at is puts =
      let p : Played = played o (settings_of plans) schedule in
      told_by p.refused (recorded o (settings_of plans) p) (AnswersRecord o schedule) (λ e t told. (p, record { plans = plans; derived = derived; comes = refl }, told)) before now end exit at (ends_by p end is) puts

  pub recorded_well : (schedule : List ℕ) (end : ReplayEnd) (exit : Exit) → exit ≡ exit_of_replay end → (end ≡ ends.Done → IsAccepted o (settings_of plans) (played o (settings_of plans) schedule)) → exit ≡ exits.Done → IsRecordedWell o schedule
  recorded_well schedule end exit at good done =
      let p : Played = played o (settings_of plans) schedule in
      (p, record { plans = plans; derived = derived; comes = refl }, accepted_faultless p (good (was_done end exit at done)))
