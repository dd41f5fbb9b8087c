-- What bytes spell of an object, computed: a line, or the first thing that is wrong. What bytes spell is defined in Lines:
-- laws tie this to it.
use Rattle.std.specs.Prelude.{◌≡◌, ℕ, List, Option, Some, None, Result, Err}
use Rattle.ham_text.specs.Cuts.{words_of}
use Rattle.ham_syntax.specs.Objects.{Schema}
use Rattle.ham_lines.specs.declared.fault.LineFault.{LineFault}
use Rattle.ham_lines.specs.declared.fault.LineFault.TheVariants.{NotALine}
use Rattle.ham_grammar.specs.declared.line.Line.{Line}
use Rattle.ham_grammar.specs.declared.written.Written.{Written}
use Rattle.ham_grammar.specs.Lines.{UnlessNoMemory}
use Rattle.ham_grammar.specs.Meaning.{meant}
use Rattle.ham_grammar.specs.Reading.{written_of}

abbrev pub read_by : Schema → Option Written → Result Line LineFault
read_by o None = Err NotALine
read_by o (Some w) = meant o w

unfoldable pub read_of : Schema → List ℕ → Result Line LineFault
read_of o bytes = read_by o (written_of (words_of bytes))

-- an answer is what is found, unless memory ran out
abbrev pub IsReadAs : Result Line LineFault → Result Line LineFault → Type 0
IsReadAs found answer = UnlessNoMemory (λ r. found ≡ r) answer
