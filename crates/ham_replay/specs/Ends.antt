-- How a line and a replay end.
use Rattle.std.specs.Prelude.{◌≡◌, ℕ, ◌≤◌, Bool, true, false, List, ◌++◌, Option, Some, None, Result, Ok, Err}
use Rattle.ham_bytes.specs.Causes.{Rose}
use Rattle.ham_bytes.specs.Outside.{TakesWhole, TakesSome}
use Rattle.ham_bytes.specs.Gathered.{Carries}
use Rattle.ham_turns.specs.Settings.{setting_of}
use Rattle.ham_grammar.specs.declared.line.Query.{Query}
use Rattle.ham_world.specs.declared.refusal.StepRefusal.{StepRefusal}
use Rattle.ham_world.specs.declared.refusal.StepRefusal.TheVariants as step
use Rattle.ham_world.specs.Worlds.{Run}
use Rattle.ham_replay.specs.declared.end.Stop.{Stop}
use Rattle.ham_replay.specs.declared.end.Stop.TheVariants.{Sink, Memory}
use Rattle.ham_replay.specs.declared.end.ReplayEnd.{ReplayEnd}
use Rattle.ham_replay.specs.declared.end.ReplayEnd.TheVariants as ends
use Rattle.ham_replay.specs.declared.end.LineRefusal.{LineRefusal}
use Rattle.ham_replay.specs.Replays.{LineOutcome, Refuses, Answers, Played, answer_lines, query_outcome, played_from}

-- what a line came to is its outcome: no reason where it was answered, and then these are the notes, and the text has the answers more; or the
-- reason why it was refused
abbrev pub IsLineOutcome : Run → Run → List ℕ → List ℕ → LineOutcome → Option LineRefusal → Type 0
IsLineOutcome old new before after (Refuses why) (Some reason) = (reason ≡ why) × (new ≡ old)
IsLineOutcome old new before after (Answers notes told) None = (new ≡ record old { notes = notes }) × (after ≡ before ++ answer_lines told)
IsLineOutcome old new before after (Refuses why) None = ⊥
IsLineOutcome old new before after (Answers notes told) (Some reason) = ⊥

-- it was memory that was wanting
abbrev pub is_memory : StepRefusal → Bool
is_memory step.NoMemory = true
is_memory step.NoSuchReplica = false
is_memory step.NoSuchFrame = false
is_memory step.BadCut = false
is_memory step.SentFull = false
is_memory (step.Issue why) = false

-- what a run answers to a query
abbrev pub asked : Run → Query → LineOutcome
asked r q = query_outcome r.object (setting_of r.plan) r.notes q

-- what is played in a world from a line on
abbrev pub left : Run → ℕ → List (List ℕ) → Played
left r number ls = played_from r.object (setting_of r.plan) r.plan.replicas number r.notes ls

-- a replay is done, or refused at a line, exactly as what is played
abbrev pub EndsAs : Played → ReplayEnd → Type 0
EndsAs p ends.Done = p.refused ≡ None
EndsAs p (ends.Refused line why) = p.refused ≡ Some (record { line = line; why = why })
EndsAs p ends.WriteFault = Unit {0}
EndsAs p ends.NoMemory = Unit {0}

-- the whole text was taken, or a front of it where the replay was cut short
abbrev pub Writes : Option (List ℕ) → Option (List ℕ) → List ℕ → ReplayEnd → Type 0
Writes before now text ends.Done = TakesWhole before now text
Writes before now text (ends.Refused line why) = TakesWhole before now text
Writes before now text ends.WriteFault = TakesSome before now text
Writes before now text ends.NoMemory = TakesSome before now text

-- the same for what may be cut short by the sink or for want of memory
abbrev pub Puts : {A : Type 0} → Option (List ℕ) → Option (List ℕ) → List ℕ → Result A Stop → Type 0
Puts before now text (Ok value) = TakesWhole before now text
Puts before now text (Err stop) = TakesSome before now text

-- the count of faults never falls, and rose where the sink cut it short
abbrev pub StopsWith : {A : Type 0} → ℕ → ℕ → Result A Stop → Type 0
StopsWith before now (Ok value) = before ≤ now
StopsWith before now (Err Sink) = (before ≤ now) × Rose before now
StopsWith before now (Err Memory) = before ≤ now

-- the same for a text that is gathered: on Ok a front of what was held and the text was put, and the rest is held
abbrev pub Gathers : {A : Type 0} → Option (List ℕ) → List ℕ → Option (List ℕ) → List ℕ → List ℕ → Result A Stop → Type 0
Gathers before held now holds text (Ok value) = Carries before (held ++ text) now holds
Gathers before held now holds text (Err stop) = TakesSome before now (held ++ text)
