-- What is recorded of a schedule: the logs of the run that it makes.
--     MakesWorld          the world of the whole run, or the refusal that ends it
--     recorded            the text that is written: of the logs, or of the refusal
--     IsAccepted          the text is that of the run's logs, and they have no fault
use Rattle.std.specs.Prelude.{◌≡◌, ℕ, ◌≤◌, false, List, [], map, Option, Some, None, Result, Ok, Err}
use Rattle.ham_syntax.specs.declared.act.Place.{Place}
use Rattle.ham_syntax.specs.declared.limits.TheConstants.{MAX_REPLICAS}
use Rattle.ham_syntax.specs.Objects.{Schema}
use Rattle.ham_turns.specs.Settings.{Setting, rules_of, setting_of}
use Rattle.ham_runs.specs.Runs.{Note, execution, log_of}
use Rattle.ham_world.specs.Worlds.{Run}
use Rattle.ham_replay.specs.declared.end.Refusal.{Refusal}
use Rattle.ham_replay.specs.declared.end.ReplayEnd.{ReplayEnd}
use Rattle.ham_replay.specs.declared.end.ReplayEnd.TheVariants as ends
use Rattle.ham_replay.specs.Replays.{Played, refusal_text}
use Rattle.ham_records.specs.declared.records.Logged.{Logged}
use Rattle.ham_records.specs.Texts.{IsAuditText, text_of}
use Rattle.ham_audit.specs.Claims.{IsRecorded, logs_of_run}
use Rattle.ham_audit.specs.Faults.{fault_of}
use Rattle.ham_record.specs.declared.running.Halt.{Halt}
use Rattle.ham_record.specs.declared.running.Halt.TheVariants.{Refused, NoMemory}

-- ---- worlds

-- the world of a schedule that is played to its end
pub record IsWhole (o : Schema) (settings : ℕ → Setting) (p : Played) (w : Run) : Type 0 where
  pub object : w.object ≡ o
  pub going : w.stopped ≡ false
  pub replicas : p.replicas ≡ Some w.plan.replicas
  pub setting : settings w.plan.replicas ≡ setting_of w.plan
  pub notes : p.notes ≡ w.notes
  pub refused : p.refused ≡ None

abbrev pub MakesWorld : Schema → (ℕ → Setting) → Played → Result Run Halt → Type 0
MakesWorld o settings p (Ok w) = IsWhole o settings p w
MakesWorld o settings p (Err (Refused refusal)) = p.refused ≡ Some refusal
MakesWorld o settings p (Err NoMemory) = Unit {0}

-- the lines that were left are played to their end
pub record IsRest (old new : Run) (p : Played) : Type 0 where
  pub run : new ≡ record old { notes = p.notes }
  pub replicas : p.replicas ≡ Some old.plan.replicas
  pub refused : p.refused ≡ None

abbrev pub PlaysRest : Run → Run → Played → Result (Unit {0}) Halt → Type 0
PlaysRest old new p (Ok done) = IsRest old new p
PlaysRest old new p (Err (Refused refusal)) = p.refused ≡ Some refusal
PlaysRest old new p (Err NoMemory) = Unit {0}

-- ---- logs

-- a call, with the act with which it was decided
abbrev pub entry_of : List Note → Place → Logged
entry_of notes c = record { place = c; act = (execution notes).act c }

abbrev pub entry_at : Run → Place → Logged
entry_at w c = entry_of w.notes c

abbrev pub entries_at : Run → ℕ → List Logged
entries_at w r = map (entry_of w.notes) (log_of w.notes r)

abbrev pub logs_at : Run → List (List Logged)
logs_at w = logs_of_run (setting_of w.plan) w.notes

-- ---- texts

-- where no world was made, a line is refused
abbrev pub logs_text : Schema → (ℕ → Setting) → List Note → Option ℕ → List ℕ
logs_text o settings notes None = []
logs_text o settings notes (Some n) = text_of o (logs_of_run (settings n) notes)

abbrev pub text_by : Schema → (ℕ → Setting) → Played → Option Refusal → List ℕ
text_by o settings p (Some refusal) = refusal_text refusal
text_by o settings p None = logs_text o settings p.notes p.replicas

-- what is written of what is played: the text of the run's logs, or that of the refusal
unfoldable pub recorded : Schema → (ℕ → Setting) → Played → List ℕ
recorded o settings p = text_by o settings p p.refused

-- the text is one of the run's logs alone, and they have no fault, so that the auditor accepts it
pub record IsAccepted (o : Schema) (settings : ℕ → Setting) (p : Played) : Type 0 where
  pub count : ℕ
  pub some : 1 ≤ count
  pub few : count ≤ MAX_REPLICAS
  pub replicas : p.replicas ≡ Some count
  pub text : IsAuditText o (logs_of_run (settings count) p.notes) (recorded o settings p)
  pub are_recorded : IsRecorded (rules_of o) (settings count) (logs_of_run (settings count) p.notes)
  pub faultless : fault_of (rules_of o) (settings count) (logs_of_run (settings count) p.notes) ≡ None

-- the text of a whole run
pub record IsWholeRecord (o : Schema) (settings : ℕ → Setting) (p : Played) (text : List ℕ) : Type 0 where
  pub refused : p.refused ≡ None
  pub text_is : text ≡ recorded o settings p
  pub accepted : IsAccepted o settings p

abbrev pub IsRecord : Schema → (ℕ → Setting) → Played → Result (List ℕ) Halt → Type 0
IsRecord o settings p (Ok text) = IsWholeRecord o settings p text
IsRecord o settings p (Err (Refused refusal)) = p.refused ≡ Some refusal
IsRecord o settings p (Err NoMemory) = Unit {0}

-- ---- ends

abbrev pub EndsRefused : Refusal → ReplayEnd → Type 0
EndsRefused refusal ends.Done = ⊥
EndsRefused refusal (ends.Refused line why) = (line ≡ refusal.line) × (why ≡ refusal.why)
EndsRefused refusal ends.WriteFault = Unit {0}
EndsRefused refusal ends.NoMemory = Unit {0}
