-- What was put, as an answer that was told.
use Rattle.std.proofs.Common.{◌≡◌, ◌⊎◌, ℕ, List, Option, Some, None, Result, Ok, Err, inl, inr, refl, sym, ap, ◌∙◌, subst}
use Rattle.std.specs.Prelude.{IfOk, MatchResult}
use Rattle.ham_lists.specs.declared.list.NoMemory.{NoMemory}
use Rattle.ham_syntax.specs.Objects.{Schema}
use Rattle.ham_rules.specs.declared.claim.Claim.{Claim}
use Rattle.ham_replay.specs.declared.end.ReplayEnd.{ReplayEnd}
use Rattle.ham_replay.specs.declared.end.ReplayEnd.TheVariants as ends
use Rattle.ham_replay.specs.declared.end.Refusal.{Refusal}
use Rattle.ham_plan.specs.Plans.{Plan}
use Rattle.ham_turns.specs.Settings.{setting_of}
use Rattle.ham_replay.specs.Claims.{ArePlans, settings_of, IsPlayedFaithfully}
use Rattle.ham_replay.specs.Replays.{Played, played}
use Rattle.ham_bulk.specs.Scripted.{scripted, bulked}
use Rattle.ham_cli.specs.declared.command.Drawing.{Drawing}
use Rattle.ham_cli.specs.Plans.{AreDerived}
use Rattle.ham_replay.specs.Ends.{EndsAs, Writes}
use Rattle.ham_cli.specs.declared.exit.Exit.{Exit}
use Rattle.ham_cli.specs.declared.exit.Exit.TheVariants as exits
use Rattle.ham_cli.specs.declared.writes.Answer.{Answer}
use Rattle.ham_cli.specs.Commands.{Asked, Normalizes, Replays, Records, Audits, Checks, Derives, Exemplifies, Tabulates, Bulks, Scripts}
use Rattle.ham_cli.specs.Exits.{exit_of_replay}
use Rattle.ham_cli.specs.Told.{IsTold, IsEnd, RunsOut, Puts, PutsMade, TellsWhole, Tells}
use Rattle.ham_cli.specs.ClaimAnswers.{claim_named, AnswersDerive, AnswersExample}
use Rattle.ham_cli.specs.PlayAnswers.{exit_of_refused, AnswersPlayed, DerivesPlan, AnswersReplay, AnswersBulk, AnswersScript}
use Rattle.ham_cli.specs.Answers.{Answers, refusal_of}
use Rattle.ham_cli.specs.Sought.{IsAnswerEnd}
use Rattle.ham_cli.specs.Top.{EndsWith}

-- ---- texts that are made first

puts_tell : (Says : Exit → List ℕ → Type 0) (before now : Option (List ℕ)) (text : List ℕ) (with exit : Exit) → Says with text → IsEnd with → Puts before now text with exit → TellsWhole Says before now exit
puts_tell Says before now text with exits.Done says end h = (text, subst (λ (x : Exit). Says x text) (sym h.0) says, h.1)
puts_tell Says before now text with exits.Usage says end h = (text, subst (λ (x : Exit). Says x text) (sym h.0) says, h.1)
puts_tell Says before now text with exits.ObjectRefused says end h = (text, subst (λ (x : Exit). Says x text) (sym h.0) says, h.1)
puts_tell Says before now text with exits.ScheduleRefused says end h = (text, subst (λ (x : Exit). Says x text) (sym h.0) says, h.1)
puts_tell Says before now text with exits.ReadFault says end h = (text, subst (λ (x : Exit). Says x text) (sym h.0) says, h.1)
puts_tell Says before now text with exits.WriteFault says end h = (with, text, says, h)
puts_tell Says before now text with exits.NoMemory says end h = absurd (subst IsEnd (sym h.0) end)
puts_tell Says before now text with exits.TooLong says end h = (text, subst (λ (x : Exit). Says x text) (sym h.0) says, h.1)
puts_tell Says before now text with exits.DerivationRefused says end h = (text, subst (λ (x : Exit). Says x text) (sym h.0) says, h.1)
puts_tell Says before now text with exits.AuditRefused says end h = (text, subst (λ (x : Exit). Says x text) (sym h.0) says, h.1)

pub told_whole : (Says : Exit → List ℕ → Type 0) (before now : Option (List ℕ)) (made : Result Answer NoMemory) (exit : Exit) → IfOk made (λ a. Says a.exit a.text) → IfOk made (λ a. IsEnd a.exit) →
    MatchResult made (λ a. Puts before now a.text a.exit exit) (λ e. RunsOut before now exit) → TellsWhole Says before now exit
told_whole Says before now (Ok a) exit says end h = puts_tell Says before now a.text a.exit exit says end h
told_whole Says before now (Err e) exit says end h = subst (λ (x : Exit). TellsWhole Says before now x) (sym h.0) h.1

-- the same of a text that is known
pub made_puts : (before now : Option (List ℕ)) (made : Result Answer NoMemory) (text : List ℕ) (with exit : Exit) → IfOk made (λ a. IsTold with text a.exit a.text) → MatchResult made (λ a. Puts before now a.text a.exit exit) (λ e. RunsOut before now exit)
    → PutsMade before now text with exit
made_puts before now (Ok a) text with exit told h = inr (subst (λ (x : Exit). Puts before now text x exit) told.0 (subst (λ (x : List ℕ). Puts before now x a.exit exit) told.1 h))
made_puts before now (Err e) text with exit told h = inl h

-- ---- texts that are told as they are made

-- how what is played ends: at its end, or at its refused line
abbrev pub EndsBy : Option Refusal → ReplayEnd → Type 0
EndsBy r ends.Done = r ≡ None
EndsBy r (ends.Refused line why) = r ≡ Some (record { line = line; why = why })
EndsBy r ends.WriteFault = Unit {0}
EndsBy r ends.NoMemory = Unit {0}

pub ends_by : (p : Played) (end : ReplayEnd) → EndsAs p end → EndsBy p.refused end
ends_by p ends.Done is = is
ends_by p (ends.Refused line why) is = is
ends_by p ends.WriteFault is = tt
ends_by p ends.NoMemory is = tt

by_end : (r : Option Refusal) (text : List ℕ) (Says : Exit → List ℕ → Type 0) → ((exit : Exit) (t : List ℕ) → IsTold (exit_of_refused r) text exit t → Says exit t) → (before now : Option (List ℕ)) (end : ReplayEnd)
    → EndsBy r end → Writes before now text end → Tells Says before now (exit_of_replay end)
by_end r text Says says before now ends.Done is puts = (text, says exits.Done text (sym (ap exit_of_refused is), refl), puts)
by_end r text Says says before now (ends.Refused line why) is puts = (text, says exits.ScheduleRefused text (sym (ap exit_of_refused is), refl), puts)
by_end r text Says says before now ends.WriteFault is puts = (exit_of_refused r, text, says (exit_of_refused r) text (refl, refl), puts)
by_end r text Says says before now ends.NoMemory is puts = (exit_of_refused r, text, says (exit_of_refused r) text (refl, refl), puts)

pub told_by : (r : Option Refusal) (text : List ℕ) (Says : Exit → List ℕ → Type 0) → ((exit : Exit) (t : List ℕ) → IsTold (exit_of_refused r) text exit t → Says exit t) → (before now : Option (List ℕ)) (end : ReplayEnd) (exit : Exit)
    → exit ≡ exit_of_replay end → EndsBy r end → Writes before now text end → Tells Says before now exit
told_by r text Says says before now end exit at is puts = subst (λ (x : Exit). Tells Says before now x) (sym at) (by_end r text Says says before now end is puts)

pub told_played : (p : Played) (Says : Exit → List ℕ → Type 0) → ((exit : Exit) (text : List ℕ) → AnswersPlayed p exit text → Says exit text) → (before now : Option (List ℕ)) (end : ReplayEnd) (exit : Exit)
    → exit ≡ exit_of_replay end → EndsAs p end → Writes before now p.text end → Tells Says before now exit
told_played p Says says before now end exit at is puts = told_by p.refused p.text Says says before now end exit at (ends_by p end is) puts

-- the run that a schedule makes
pub told_replay : (o : Schema) (plans : List Plan) (schedule : List ℕ) → AreDerived o plans → ArePlans o plans → IsPlayedFaithfully o (settings_of plans) (played o (settings_of plans) schedule) → (before now : Option (List ℕ)) (end : ReplayEnd) (exit : Exit)
    → exit ≡ exit_of_replay end → EndsAs (played o (settings_of plans) schedule) end → Writes before now (played o (settings_of plans) schedule).text end → Tells (AnswersReplay o schedule) before now exit
told_replay o plans schedule derived sound faithful before now end exit at is puts =
    told_played (played o (settings_of plans) schedule) (AnswersReplay o schedule)
    (λ e t told. (played o (settings_of plans) schedule, record { is = record { plans = plans; derived = derived; comes = refl }; sound = sound; faithful = faithful }, told)) before now end exit at is puts

-- what a script comes to
pub told_bulk : (o : Schema) (d : Drawing) (p : Plan) → DerivesPlan o d p → (before now : Option (List ℕ)) (end : ReplayEnd) (exit : Exit)
    → exit ≡ exit_of_replay end → EndsAs (bulked o (setting_of p) d.seed d.rounds) end → Writes before now (bulked o (setting_of p) d.seed d.rounds).text end → Tells (AnswersBulk o d) before now exit
told_bulk o d p derives before now end exit at is puts = told_played (bulked o (setting_of p) d.seed d.rounds) (AnswersBulk o d) (λ e t told. (p, derives, told)) before now end exit at is puts

pub told_script : (o : Schema) (d : Drawing) (p : Plan) → DerivesPlan o d p → (before now : Option (List ℕ)) (end : ReplayEnd) (exit : Exit)
    → exit ≡ exit_of_replay end → EndsAs (scripted o (setting_of p) d.seed d.rounds) end → Writes before now (scripted o (setting_of p) d.seed d.rounds).text end → Tells (AnswersScript o d) before now exit
told_script o d p derives before now end exit at is puts = told_played (scripted o (setting_of p) d.seed d.rounds) (AnswersScript o d) (λ e t told. (p, derives, told)) before now end exit at is puts

-- ---- the exits of answers

-- it is done, or what was asked is refused
abbrev pub EndsWell : Asked → Exit → Type 0
EndsWell asked exit = (exit ≡ exits.Done) ⊎ (refusal_of asked ≡ Some exit)

refused_ends : (asked : Asked) (r : Option Refusal) (exit : Exit) → refusal_of asked ≡ Some exits.ScheduleRefused → exit ≡ exit_of_refused r → EndsWell asked exit
refused_ends asked None exit may e = inl e
refused_ends asked (Some why) exit may e = inr (may ∙ ap Some (sym e))

derive_ends : (o : Schema) (asked : Asked) (claim : Option Claim) (exit : Exit) (text : List ℕ) → refusal_of asked ≡ Some exits.DerivationRefused → AnswersDerive o claim exit text → EndsWell asked exit
derive_ends o asked None exit text may h = inr (may ∙ ap Some (sym h.0))
derive_ends o asked (Some claim) exit text may h = elim h [ inl d ↦ let told = d.2 in inl told.0 | inr d ↦ let told = d.2 in inl told.0 ]

example_ends : (o : Schema) (asked : Asked) (claim : Option Claim) (exit : Exit) (text : List ℕ) → refusal_of asked ≡ Some exits.DerivationRefused → AnswersExample o claim exit text → EndsWell asked exit
example_ends o asked None exit text may h = inr (may ∙ ap Some (sym h.0))
example_ends o asked (Some claim) exit text may h = elim h [
  | inl d ↦ let told = d.2 in inl told.0
  | inr k ↦ elim k [ inl d ↦ let told = d.1 in inl told.0 | inr d ↦ let told = d.1 in inl told.0 ]
]

answers_end : (o : Schema) (asked : Asked) (bytes : List ℕ) (exit : Exit) (text : List ℕ) → Answers o asked bytes exit text → EndsWell asked exit
answers_end o Normalizes bytes exit text h = inl h.0
answers_end o (Replays schedule) bytes exit text h = let told = h.2 in refused_ends (Replays schedule) h.0.refused exit refl told.0
answers_end o (Records schedule) bytes exit text h = let told = h.2 in refused_ends (Records schedule) h.0.refused exit refl told.0
answers_end o (Audits file) bytes exit text h = elim h [
  | inl d ↦ let told = d.2 in inl told.0
  | inr d ↦ let told = d.2 in inr (ap Some (sym told.0))
]
answers_end o (Checks file) bytes exit text h = elim h [
  | inl d ↦ let told = d.1 in inl told.0
  | inr d ↦ let told = d.2 in inr (ap Some (sym told.0))
]
answers_end o (Derives claim) bytes exit text h = derive_ends o (Derives claim) (claim_named o claim) exit text refl h
answers_end o (Exemplifies claim) bytes exit text h = example_ends o (Exemplifies claim) (claim_named o claim) exit text refl h
answers_end o (Tabulates replicas) bytes exit text h = let told = h.2 in inl told.0
answers_end o (Bulks drawing) bytes exit text h = let told = h.2 in refused_ends (Bulks drawing) _ exit refl told.0
answers_end o (Scripts drawing) bytes exit text h = let told = h.2 in refused_ends (Scripts drawing) _ exit refl told.0

answer_end : (asked : Asked) (exit : Exit) → EndsWell asked exit → IsAnswerEnd asked exit
answer_end asked exit h = elim h [ inl d ↦ inr (inl d) | inr r ↦ inl r ]

whole_end : (asked : Asked) (Says : Exit → List ℕ → Type 0) (before now : Option (List ℕ)) (exit : Exit) → ((e : Exit) (t : List ℕ) → Says e t → EndsWell asked e) → TellsWhole Says before now exit → IsAnswerEnd asked exit
whole_end asked Says before now exits.Done well h = answer_end asked exits.Done (well _ h.0 h.1)
whole_end asked Says before now exits.Usage well h = answer_end asked exits.Usage (well _ h.0 h.1)
whole_end asked Says before now exits.ObjectRefused well h = answer_end asked exits.ObjectRefused (well _ h.0 h.1)
whole_end asked Says before now exits.ScheduleRefused well h = answer_end asked exits.ScheduleRefused (well _ h.0 h.1)
whole_end asked Says before now exits.ReadFault well h = answer_end asked exits.ReadFault (well _ h.0 h.1)
whole_end asked Says before now exits.WriteFault well h = inr (inr (inl refl))
whole_end asked Says before now exits.NoMemory well h = inr (inr (inr refl))
whole_end asked Says before now exits.TooLong well h = answer_end asked exits.TooLong (well _ h.0 h.1)
whole_end asked Says before now exits.DerivationRefused well h = answer_end asked exits.DerivationRefused (well _ h.0 h.1)
whole_end asked Says before now exits.AuditRefused well h = answer_end asked exits.AuditRefused (well _ h.0 h.1)

pub from_tells : (Says : Exit → List ℕ → Type 0) (before now : Option (List ℕ)) (exit : Exit) → Tells Says before now exit → (exit ≡ exits.NoMemory) ⊎ TellsWhole Says before now exit
from_tells Says before now exits.Done h = inr h
from_tells Says before now exits.Usage h = inr h
from_tells Says before now exits.ObjectRefused h = inr h
from_tells Says before now exits.ScheduleRefused h = inr h
from_tells Says before now exits.ReadFault h = inr h
from_tells Says before now exits.WriteFault h = inr h
from_tells Says before now exits.NoMemory h = inl refl
from_tells Says before now exits.TooLong h = inr h
from_tells Says before now exits.DerivationRefused h = inr h
from_tells Says before now exits.AuditRefused h = inr h

tells_end : (asked : Asked) (Says : Exit → List ℕ → Type 0) (before now : Option (List ℕ)) (exit : Exit) → ((e : Exit) (t : List ℕ) → Says e t → EndsWell asked e) → Tells Says before now exit → IsAnswerEnd asked exit
tells_end asked Says before now exit well h = elim (from_tells Says before now exit h) [ inl e ↦ inr (inr (inr e)) | inr w ↦ whole_end asked Says before now exit well w ]

-- how a command ends that has all its files
pub ends_end : (o : Schema) (asked : Asked) (bytes : List ℕ) (before now : Option (List ℕ)) (exit : Exit) → EndsWith o asked bytes before now exit → IsAnswerEnd asked exit
ends_end o Normalizes bytes before now exit h = whole_end Normalizes _ before now exit (answers_end o Normalizes bytes) h
ends_end o (Replays schedule) bytes before now exit h = tells_end (Replays schedule) _ before now exit (answers_end o (Replays schedule) bytes) h
ends_end o (Records schedule) bytes before now exit h = tells_end (Records schedule) _ before now exit (answers_end o (Records schedule) bytes) h.0
ends_end o (Audits file) bytes before now exit h = whole_end (Audits file) _ before now exit (answers_end o (Audits file) bytes) h
ends_end o (Checks file) bytes before now exit h = whole_end (Checks file) _ before now exit (answers_end o (Checks file) bytes) h
ends_end o (Derives claim) bytes before now exit h = whole_end (Derives claim) _ before now exit (answers_end o (Derives claim) bytes) h
ends_end o (Exemplifies claim) bytes before now exit h = whole_end (Exemplifies claim) _ before now exit (answers_end o (Exemplifies claim) bytes) h
ends_end o (Tabulates replicas) bytes before now exit h = whole_end (Tabulates replicas) _ before now exit (answers_end o (Tabulates replicas) bytes) h
ends_end o (Bulks drawing) bytes before now exit h = tells_end (Bulks drawing) _ before now exit (answers_end o (Bulks drawing) bytes) h
ends_end o (Scripts drawing) bytes before now exit h = tells_end (Scripts drawing) _ before now exit (answers_end o (Scripts drawing) bytes) h.0
