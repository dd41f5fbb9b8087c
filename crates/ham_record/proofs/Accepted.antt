-- What is recorded of a whole run is accepted.
use Rattle.std.proofs.Common.{◌≡◌, ℕ, List, Option, Some, None, append-nil, sym, ap, subst, ◌∙◌, arith}
use Rattle.ham_syntax.specs.Objects.{Schema}
use Rattle.ham_plan.specs.Plans.{Plan}
use Rattle.ham_laws.specs.Constrained.{IsPlanned}
use Rattle.ham_turns.specs.Settings.{Setting, rules_of, setting_of}
use Rattle.ham_runs.specs.Runs.{Note, IsRun}
use Rattle.ham_world.specs.Worlds.{Run}
use Rattle.ham_replay.specs.Claims.{settings_of, IsRunOf, IsPlayedRun}
use Rattle.ham_bytes.specs.Outside.{TakesSome}
use Rattle.ham_replay.specs.declared.end.LineRefusal.{LineRefusal}
use Rattle.ham_replay.specs.declared.end.Refusal.{Refusal}
use Rattle.ham_replay.specs.declared.end.ReplayEnd.{ReplayEnd}
use Rattle.ham_replay.specs.declared.end.ReplayEnd.TheVariants as ends
use Rattle.ham_replay.specs.Ends.{EndsAs, Writes}
use Rattle.ham_replay.specs.Replays.{Played, refusal_text}
use Rattle.ham_records.specs.declared.records.Logged.{Logged}
use Rattle.ham_records.specs.Texts.{AreLogs, IsAuditText, TextsAreTexts, text_of}
use Rattle.ham_audit.specs.Claims.{IsRecorded, RunsHaveNoFault, logs_of_run}
use Rattle.ham_audit.specs.Faults.{fault_of}
use Rattle.ham_record.specs.Recorded.{IsWhole, IsWholeRecord, EndsRefused, logs_at, logs_text, text_by, recorded}

module _ (o : Schema) (plans : List Plan) (p : Played) (w : Run) (whole : IsWhole o (settings_of plans) p w) (runs : IsPlayedRun o plans p) where
  abbrev pub settings : ℕ → Setting
  settings = settings_of plans

  run_of : IsRunOf o plans p w.plan.replicas
  run_of = runs w.plan.replicas whole.replicas

  -- the world's notes are a run
  pub world_runs : IsRun (rules_of w.object) (setting_of w.plan) w.notes
  world_runs =
      subst (λ (x : Schema). IsRun (rules_of x) (setting_of w.plan) w.notes) (sym whole.object)
      (subst (λ (y : Setting). IsRun (rules_of o) y w.notes) whole.setting (subst (λ (ns : List Note). IsRun (rules_of o) (settings w.plan.replicas) ns) whole.notes run_of.run))

  logs_are : logs_of_run (settings w.plan.replicas) p.notes ≡ logs_at w
  logs_are = ap (λ (y : Setting). logs_of_run y p.notes) whole.setting ∙ ap (λ (ns : List Note). logs_of_run (setting_of w.plan) ns) whole.notes

  whole_text : recorded o settings p ≡ text_of o (logs_of_run (settings w.plan.replicas) p.notes)
  unfolding recorded
  whole_text = ap (text_by o settings p) whole.refused ∙ ap (logs_text o settings p.notes) whole.replicas

  pub whole_record : TextsAreTexts o → ((o : Schema) (p : Plan) → IsPlanned o p → RunsHaveNoFault (rules_of o) (setting_of p)) → (text : List ℕ) → text ≡ text_of w.object (logs_at w) → AreLogs w.object (logs_at w) →
      IsWholeRecord o settings p text
  whole_record reads law text is are =
      let logs : List (List Logged) = logs_of_run (settings w.plan.replicas) p.notes in
      let good = law o run_of.plan run_of.planned p.notes (subst (λ (y : Setting). IsRun (rules_of o) y p.notes) run_of.setting run_of.run) in
      let good_here : IsRecorded (rules_of o) (settings w.plan.replicas) logs × (fault_of (rules_of o) (settings w.plan.replicas) logs ≡ None) =
      subst (λ (y : Setting). IsRecorded (rules_of o) y (logs_of_run y p.notes) × (fault_of (rules_of o) y (logs_of_run y p.notes) ≡ None)) (sym run_of.setting) good in
      let spelled : AreLogs o logs = subst (λ (x : Schema). AreLogs x logs) whole.object (subst (λ (l : List (List Logged)). AreLogs w.object l) (sym logs_are) are) in
      let text_is : text ≡ recorded o settings p = is ∙ ap (λ (x : Schema). text_of x (logs_at w)) whole.object ∙ ap (text_of o) (sym logs_are) ∙ sym whole_text in
      record {
        refused = whole.refused;
        text_is = text_is;
        accepted = record {
          count = w.plan.replicas;
          some = run_of.some;
          few = run_of.few;
          replicas = whole.replicas;
          text = subst (λ (t : List ℕ). IsAuditText o logs t) (sym whole_text) (reads logs spelled);
          are_recorded = good_here.0;
          faultless = good_here.1;
        };
      }

-- ---- a refusal is written

pub refused_ends : (p : Played) (refusal : Refusal) (end : ReplayEnd) → p.refused ≡ Some refusal → EndsRefused refusal end → EndsAs p end
refused_ends p refusal ends.Done e h = absurd h
refused_ends p refusal (ends.Refused line why) e h =
    e ∙ ap (λ (n : ℕ). Some (record { line = n; why = refusal.why })) (sym h.0) ∙ ap (λ (w : LineRefusal). Some (record { line = line; why = w })) (sym h.1)
refused_ends p refusal ends.WriteFault e h = tt
refused_ends p refusal ends.NoMemory e h = tt

pub refused_text : (o : Schema) (settings : ℕ → Setting) (p : Played) (refusal : Refusal) → p.refused ≡ Some refusal → recorded o settings p ≡ refusal_text refusal
unfolding recorded
refused_text o settings p refusal e = ap (text_by o settings p) e

pub refused_writes : (o : Schema) (settings : ℕ → Setting) (p : Played) (refusal : Refusal) (before now : Option (List ℕ)) (end : ReplayEnd) → p.refused ≡ Some refusal → Writes before now (refusal_text refusal) end → Writes before now (recorded o settings p) end
refused_writes o settings p refusal before now end e h = subst (λ (t : List ℕ). Writes before now t end) (sym (refused_text o settings p refusal e)) h

pub not_done : {X : Type 0} (refusal : Refusal) (end : ReplayEnd) → EndsRefused refusal end → end ≡ ends.Done → X
not_done refusal end h q = absurd (subst (λ (x : ReplayEnd). EndsRefused refusal x) q h)

-- nothing was put
pub put_none : (before : Option (List ℕ)) (text : List ℕ) → TakesSome before before text
put_none None text = tt
put_none (Some x) text = (0, omega arith, ap Some (sym (append-nil x)))
