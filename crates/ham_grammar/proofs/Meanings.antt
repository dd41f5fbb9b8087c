-- What a written line means of an object, and lines of the object that mean themselves.
use Rattle.std.proofs.Common.{◌≡◌, ℕ, List, Option, Some, None, Result, Ok, Err, refl, ap}
use Rattle.ham_syntax.specs.declared.act.Act.{Act}
use Rattle.ham_syntax.specs.Objects.{Schema, relation_named}
use Rattle.ham_syntax.specs.Checked.{IsChecked}
use Rattle.ham_lines.specs.declared.fault.LineFault.{LineFault}
use Rattle.ham_lines.specs.declared.fault.LineFault.TheVariants.{NotALine, UnknownName, BadKey, NoMemory}
use Rattle.ham_lines.specs.declared.named.NamedAct.{NamedAct}
use Rattle.ham_lines.specs.declared.named.NamedCounter.{NamedCounter}
use Rattle.ham_lines.specs.Named.{act_meant, counter_meant}
use Rattle.ham_lines.proofs.Meant.{act_is, act_unknown, act_back, counter_means, counter_unmeant, shown_back, relation_is, relation_back}
use Rattle.ham_turns.specs.declared.event.Event.{Event}
use Rattle.ham_turns.specs.declared.event.Event.TheVariants as events
use Rattle.ham_grammar.specs.declared.line.Line.{Line}
use Rattle.ham_grammar.specs.declared.line.Line.TheVariants as lines
use Rattle.ham_grammar.specs.declared.line.Query.{Query}
use Rattle.ham_grammar.specs.declared.line.Query.TheVariants as queries
use Rattle.ham_grammar.specs.declared.written.Written.{Written}
use Rattle.ham_grammar.specs.declared.written.Written.TheVariants.{Replicas, Issue, Deliver, Pieces, Torn, Tick, Show, Rows, Log, Verdict, Sent, Frame, Compare}
use Rattle.ham_grammar.specs.Lines.{IsWritten, written, IsPrintable, IsWrong}
use Rattle.ham_grammar.specs.Meaning.{issue_by, show_by, rows_by, meant}

-- a line of the object that is written so, or what is wrong
abbrev pub Means : Schema → Written → Result Line LineFault → Type 0
Means o w (Ok l) = IsPrintable o l × (w ≡ written o l)
Means o w (Err fault) = IsWrong o w fault

issue_means : (o : Schema) (r : ℕ) (a : NamedAct) (found : Option Act) → act_meant o a ≡ found → Means o (Issue r a) (issue_by r found)
issue_means o r a (Some act) e = let m = act_is o a act e in (m.exists, ap (Issue r) m.same)
issue_means o r a None e = act_unknown o a e

show_means : (o : Schema) (r : ℕ) (c : NamedCounter) (found : Result (ℕ × ℕ) LineFault) → counter_meant o c ≡ found → Means o (Show r c) (show_by r found)
show_means o r c (Ok p) e = let m = counter_means o c p e in ((m.exists, m.is_key), ap (Show r) m.same)
show_means o r c (Err UnknownName) e = counter_unmeant o c UnknownName e
show_means o r c (Err BadKey) e = counter_unmeant o c BadKey e
show_means o r c (Err NotALine) e = counter_unmeant o c NotALine e
show_means o r c (Err NoMemory) e = counter_unmeant o c NoMemory e

rows_means : (o : Schema) (r : ℕ) (relation : List ℕ) (found : Option ℕ) → relation_named o relation ≡ found → Means o (Rows r relation) (rows_by r found)
rows_means o r relation (Some n) e = let m = relation_is o relation n e in (m.exists, ap (Rows r) m.is_word)
rows_means o r relation None e = e

pub line_means : (o : Schema) (w : Written) → IsWritten w → Means o w (meant o w)
unfolding meant
line_means o (Replicas n) h = (h, refl)
line_means o (Issue r act) h = issue_means o r act (act_meant o act) refl
line_means o (Deliver f t k) h = (tt, refl)
line_means o (Pieces f t k l cuts) h = (h.2, refl)
line_means o (Torn f t k p) h = (tt, refl)
line_means o (Tick r) h = (tt, refl)
line_means o (Show r counter) h = show_means o r counter (counter_meant o counter) refl
line_means o (Rows r relation) h = rows_means o r relation (relation_named o relation) refl
line_means o (Log r) h = (tt, refl)
line_means o (Verdict r g k) h = (tt, refl)
line_means o (Sent f t) h = (tt, refl)
line_means o (Frame f t k) h = (tt, refl)
line_means o (Compare r s) h = (tt, refl)

-- a line of the object means itself
event_back : (o : Schema) → IsChecked o → (e : Event) → IsPrintable o (lines.Act e) → meant o (written o (lines.Act e)) ≡ Ok (lines.Act e)
unfolding meant
event_back o checked (events.Issue r act) h = ap (issue_by r) (act_back o checked act h)
event_back o checked (events.Deliver f t k) h = refl
event_back o checked (events.Pieces f t k l cuts) h = refl
event_back o checked (events.Torn f t k p) h = refl
event_back o checked (events.Tick r) h = refl

query_back : (o : Schema) → IsChecked o → (q : Query) → IsPrintable o (lines.Ask q) → meant o (written o (lines.Ask q)) ≡ Ok (lines.Ask q)
unfolding meant
query_back o checked (queries.Show r c key) h = ap (show_by r) (shown_back o checked c key h.0 h.1)
query_back o checked (queries.Rows r relation) h = ap (rows_by r) (relation_back o checked relation h)
query_back o checked (queries.Log r) h = refl
query_back o checked (queries.Verdict r g k) h = refl
query_back o checked (queries.Sent f t) h = refl
query_back o checked (queries.Frame f t k) h = refl
query_back o checked (queries.Compare r s) h = refl

pub line_back : (o : Schema) → IsChecked o → (l : Line) → IsPrintable o l → meant o (written o l) ≡ Ok l
unfolding meant
line_back o checked (lines.Replicas n) h = refl
line_back o checked (lines.Act e) h = event_back o checked e h
line_back o checked (lines.Ask q) h = query_back o checked q h
