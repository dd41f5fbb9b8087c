-- The lines of a script: those that make the replicas, those of its events, and comparisons with each other replica.
--     script_text     the lines, or those up to a refused one and its refusal
use Rattle.std.specs.Prelude.{ℕ, ◌+◌, ◌-◌, List, ◌++◌, length, Option, Some, None, option_map}
use Rattle.std.specs.List.{flat_map, range_with_len}
use Rattle.ham_text.specs.Written.{ended}
use Rattle.ham_syntax.specs.Objects.{Schema}
use Rattle.ham_turns.specs.Settings.{Setting}
use Rattle.ham_turns.specs.declared.event.Event.{Event}
use Rattle.ham_grammar.specs.declared.line.Line.{Line}
use Rattle.ham_grammar.specs.declared.line.Line.TheVariants as lines
use Rattle.ham_grammar.specs.declared.line.Query.TheVariants as queries
use Rattle.ham_grammar.specs.Lines.{printed}
use Rattle.ham_world.specs.declared.refusal.StepRefusal.{StepRefusal}
use Rattle.ham_replay.specs.declared.end.Refusal.{Refusal}
use Rattle.ham_replay.specs.Replays.{refusal_text, reason_of}
use Rattle.ham_bulk.specs.Scripts.{Script, generated}

abbrev pub line_of : Schema → Line → List ℕ
line_of o l = ended (printed o l)

abbrev pub event_line : Schema → Event → List ℕ
event_line o e = line_of o (lines.Act e)

-- the replicas from 2 on
abbrev pub others : ℕ → List ℕ
others n = range_with_len 2 (n - 1)

abbrev pub compare_line : Schema → ℕ → List ℕ
compare_line o r = line_of o (lines.Ask (queries.Compare 1 r))

abbrev pub compare_lines : Schema → ℕ → List ℕ
compare_lines o n = flat_map (compare_line o) (others n)

-- the line after those of the events that were taken
abbrev pub refused_line : List Event → StepRefusal → Refusal
refused_line es why = record { line = length es + 2; why = reason_of why }

abbrev pub refused_after : List Event → StepRefusal → List ℕ
refused_after es why = refusal_text (refused_line es why)

-- the refused line after these events, if one was refused
abbrev pub refusal_after : List Event → Option StepRefusal → Option Refusal
refusal_after es refused = option_map (refused_line es) refused

abbrev pub refusal_in : Script → Option Refusal
refusal_in s = refusal_after s.events s.refused

abbrev pub last_lines : Schema → ℕ → List Event → Option StepRefusal → List ℕ
last_lines o n es None = compare_lines o n
last_lines o n es (Some why) = refused_after es why

abbrev pub script_lines : Schema → ℕ → Script → List ℕ
script_lines o n s = line_of o (lines.Replicas n) ++ (flat_map (event_line o) s.events ++ last_lines o n s.events s.refused)

abbrev pub script_text : Schema → Setting → (seed rounds : ℕ) → List ℕ
script_text o y seed n = script_lines o y.replicas (generated o y seed n)
