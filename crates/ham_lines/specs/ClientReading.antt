-- What a reader finds in the words of a client's line, and what that means of an object. How lines are written stands in
-- Clients: laws tie what is found to it.
use Rattle.std.specs.Prelude.{ℕ, nat_eq, List, [], ◌∷◌, Option, Some, None, Result, Ok, Err, option_map, if◌then◌else◌, codes}
use Rattle.std.specs.Cmp.Lexicographic.{pointwise}
use Rattle.ham_syntax.specs.declared.act.Act.{Act}
use Rattle.ham_syntax.specs.Objects.{Schema, relation_named}
use Rattle.ham_lines.specs.declared.fault.LineFault.{LineFault}
use Rattle.ham_lines.specs.declared.fault.LineFault.TheVariants.{UnknownName}
use Rattle.ham_lines.specs.declared.named.NamedAct.{NamedAct}
use Rattle.ham_lines.specs.declared.named.NamedCounter.{NamedCounter}
use Rattle.ham_lines.specs.declared.client.ClientLine.{ClientLine}
use Rattle.ham_lines.specs.declared.client.ClientLine.TheVariants as lines
use Rattle.ham_lines.specs.declared.client.ClientWritten.{ClientWritten}
use Rattle.ham_lines.specs.declared.client.ClientWritten.TheVariants.{Issue, Show, Rows, Verdict, Log, Counts, Record, Quit, Stop}
use Rattle.ham_lines.specs.Named.{act_meant, counter_meant}
use Rattle.ham_lines.specs.Reading.{two_numbers, act_of, counter_of, relation_of}

-- ---- what is found

abbrev pub if_verb : List ℕ → List ℕ → Option ClientWritten → Option ClientWritten → Option ClientWritten
if_verb word text found others = if pointwise nat_eq word text then found else others

abbrev pub verdict_of : List (List ℕ) → Option ClientWritten
verdict_of ws = option_map (λ p. Verdict p.0 p.1) (two_numbers ws)

abbrev pub single_of : List ℕ → List (List ℕ) → Option ClientWritten
single_of verb (w ∷ ws) = None
single_of verb [] = if_verb verb (codes "log") (Some Log) (if_verb verb (codes "counts") (Some Counts)
    (if_verb verb (codes "record") (Some Record) (if_verb verb (codes "quit") (Some Quit) (if_verb verb (codes "stop") (Some Stop) None))))

unfoldable pub client_of : List (List ℕ) → Option ClientWritten
client_of [] = None
client_of (verb ∷ ws) =
    if_verb verb (codes "issue") (option_map Issue (act_of ws)) (if_verb verb (codes "show") (option_map Show (counter_of ws))
    (if_verb verb (codes "rows") (option_map Rows (relation_of ws)) (if_verb verb (codes "verdict") (verdict_of ws) (single_of verb ws))))

-- ---- what is meant

abbrev pub issue_by : Option Act → Result ClientLine LineFault
issue_by None = Err UnknownName
issue_by (Some act) = Ok (lines.Issue act)

abbrev pub issue_meant : Schema → NamedAct → Result ClientLine LineFault
issue_meant o act = issue_by (act_meant o act)

abbrev pub show_by : Result (ℕ × ℕ) LineFault → Result ClientLine LineFault
show_by (Ok p) = Ok (lines.Show p.0 p.1)
show_by (Err fault) = Err fault

abbrev pub show_meant : Schema → NamedCounter → Result ClientLine LineFault
show_meant o counter = show_by (counter_meant o counter)

abbrev pub rows_by : Option ℕ → Result ClientLine LineFault
rows_by None = Err UnknownName
rows_by (Some relation) = Ok (lines.Rows relation)

abbrev pub rows_meant : Schema → List ℕ → Result ClientLine LineFault
rows_meant o relation = rows_by (relation_named o relation)

unfoldable pub client_meant : Schema → ClientWritten → Result ClientLine LineFault
client_meant o (Issue act) = issue_meant o act
client_meant o (Show counter) = show_meant o counter
client_meant o (Rows relation) = rows_meant o relation
client_meant o (Verdict g k) = Ok (lines.Verdict g k)
client_meant o Log = Ok lines.Log
client_meant o Counts = Ok lines.Counts
client_meant o Record = Ok lines.Record
client_meant o Quit = Ok lines.Quit
client_meant o Stop = Ok lines.Stop
