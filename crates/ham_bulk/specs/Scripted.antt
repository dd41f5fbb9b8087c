-- What is so of every script: played, its lines make the run that the summary counts.
use Rattle.std.specs.Prelude.{◌≡◌, ℕ, ◌≤◌, List, [], ◌∷◌, Some, None}
use Rattle.std.specs.List.{AllByRecursion}
use Rattle.ham_syntax.specs.declared.limits.TheConstants.{MAX_REPLICAS}
use Rattle.ham_syntax.specs.Objects.{Schema}
use Rattle.ham_syntax.specs.Checked.{IsChecked}
use Rattle.ham_turns.specs.Settings.{Setting}
use Rattle.ham_runs.specs.Runs.{Note}
use Rattle.ham_turns.specs.declared.event.Event.{Event}
use Rattle.ham_grammar.specs.declared.line.Line.TheVariants as lines
use Rattle.ham_grammar.specs.Lines.{Spells, IsPrintableEvent, printed}
use Rattle.ham_world.specs.Worlds.{refusal_of, taken, inputs_of}
use Rattle.ham_replay.specs.Replays.{Played, played}
use Rattle.ham_bulk.specs.Scripts.{generated}
use Rattle.ham_bulk.specs.ScriptTexts.{script_text, refusal_in}
use Rattle.ham_bulk.specs.Summaries.{bulk_text}

-- what a script comes to: its text, the refused line with which it ends if there is one, and its run
abbrev pub scripted : Schema → Setting → (seed rounds : ℕ) → Played
scripted o y seed n = record { text = script_text o y seed n; refused = refusal_in (generated o y seed n); notes = (generated o y seed n).notes; replicas = Some y.replicas }

-- the same with the summary of that run
abbrev pub bulked : Schema → Setting → (seed rounds : ℕ) → Played
bulked o y seed n = record { text = bulk_text o y seed n; refused = refusal_in (generated o y seed n); notes = (generated o y seed n).notes; replicas = Some y.replicas }

-- each event is taken, one after another, and leaves these notes
abbrev pub AreTaken : Schema → Setting → List Note → List Event → List Note → Type 0
AreTaken o y notes [] end = end ≡ notes
AreTaken o y notes (e ∷ es) end = (refusal_of o y notes e ≡ None) × AreTaken o y (taken o y notes (inputs_of e)) es end

-- the line of each event spells it
abbrev pub AreSpelled : Schema → List Event → Type 0
AreSpelled o es = AllByRecursion (λ e. Spells o (lines.Act e) (printed o (lines.Act e))) es

-- a schedule is played to its end, and these are the notes of its run
pub record IsPlayedTo (p : Played) (replicas : ℕ) (notes : List Note) : Type 0 where
  pub whole : p.refused ≡ None
  pub run : p.notes ≡ notes
  pub of : p.replicas ≡ Some replicas

-- a script without a refused line, whose lines spell its events
abbrev pub ScriptsReplay : Type 0
ScriptsReplay = (o : Schema) (settings : ℕ → Setting) (n seed rounds : ℕ) → IsChecked o → 1 ≤ n → n ≤ MAX_REPLICAS → (settings n).replicas ≡ n →
    (generated o (settings n) seed rounds).refused ≡ None → AreSpelled o (generated o (settings n) seed rounds).events →
    IsPlayedTo (played o settings (script_text o (settings n) seed rounds)) n (generated o (settings n) seed rounds).notes

-- each line of a script can be printed
abbrev pub ScriptsPrint : Type 0
ScriptsPrint = (o : Schema) (y : Setting) (seed rounds : ℕ) → AllByRecursion (IsPrintableEvent o) (generated o y seed rounds).events
