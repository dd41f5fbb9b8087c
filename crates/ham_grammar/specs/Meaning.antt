-- What a written line means of an object: the line, or the first thing that is wrong with it.
use Rattle.std.specs.Prelude.{ℕ, List, Option, Some, None, Result, Ok, Err}
use Rattle.ham_syntax.specs.declared.act.Act.{Act}
use Rattle.ham_syntax.specs.Objects.{Schema, relation_named}
use Rattle.ham_lines.specs.declared.fault.LineFault.{LineFault}
use Rattle.ham_lines.specs.declared.fault.LineFault.TheVariants.{UnknownName}
use Rattle.ham_lines.specs.declared.named.NamedAct.{NamedAct}
use Rattle.ham_lines.specs.declared.named.NamedCounter.{NamedCounter}
use Rattle.ham_lines.specs.Named.{act_meant, counter_meant}
use Rattle.ham_turns.specs.declared.event.Event.TheVariants as events
use Rattle.ham_grammar.specs.declared.line.Line.{Line}
use Rattle.ham_grammar.specs.declared.line.Line.TheVariants as lines
use Rattle.ham_grammar.specs.declared.line.Query.TheVariants as queries
use Rattle.ham_grammar.specs.declared.written.Written.{Written}
use Rattle.ham_grammar.specs.declared.written.Written.TheVariants.{Replicas, Issue, Deliver, Pieces, Torn, Tick, Show, Rows, Log, Verdict, Sent, Frame, Compare}

abbrev pub issue_by : ℕ → Option Act → Result Line LineFault
issue_by r None = Err UnknownName
issue_by r (Some act) = Ok (lines.Act (events.Issue r act))

abbrev pub issue_meant : Schema → ℕ → NamedAct → Result Line LineFault
issue_meant o r act = issue_by r (act_meant o act)

abbrev pub show_by : ℕ → Result (ℕ × ℕ) LineFault → Result Line LineFault
show_by r (Ok p) = Ok (lines.Ask (queries.Show r p.0 p.1))
show_by r (Err fault) = Err fault

abbrev pub show_meant : Schema → ℕ → NamedCounter → Result Line LineFault
show_meant o r counter = show_by r (counter_meant o counter)

abbrev pub rows_by : ℕ → Option ℕ → Result Line LineFault
rows_by r None = Err UnknownName
rows_by r (Some relation) = Ok (lines.Ask (queries.Rows r relation))

abbrev pub rows_meant : Schema → ℕ → List ℕ → Result Line LineFault
rows_meant o r relation = rows_by r (relation_named o relation)

unfoldable pub meant : Schema → Written → Result Line LineFault
meant o (Replicas n) = Ok (lines.Replicas n)
meant o (Issue r act) = issue_meant o r act
meant o (Deliver f t k) = Ok (lines.Act (events.Deliver f t k))
meant o (Pieces f t k l cuts) = Ok (lines.Act (events.Pieces f t k l cuts))
meant o (Torn f t k p) = Ok (lines.Act (events.Torn f t k p))
meant o (Tick r) = Ok (lines.Act (events.Tick r))
meant o (Show r counter) = show_meant o r counter
meant o (Rows r relation) = rows_meant o r relation
meant o (Log r) = Ok (lines.Ask (queries.Log r))
meant o (Verdict r g k) = Ok (lines.Ask (queries.Verdict r g k))
meant o (Sent f t) = Ok (lines.Ask (queries.Sent f t))
meant o (Frame f t k) = Ok (lines.Ask (queries.Frame f t k))
meant o (Compare r s) = Ok (lines.Ask (queries.Compare r s))
