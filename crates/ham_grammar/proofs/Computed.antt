-- What bytes spell, computed.
use Rattle.std.proofs.Common.{◌≡◌, ℕ, List, Option, Some, None, Result, Ok, Err, refl, sym, ap, ◌∙◌}
use Rattle.ham_text.specs.Cuts.{words_of}
use Rattle.ham_syntax.specs.Objects.{Schema}
use Rattle.ham_syntax.specs.Checked.{IsChecked}
use Rattle.ham_lines.specs.declared.fault.LineFault.{LineFault}
use Rattle.ham_lines.specs.declared.fault.LineFault.TheVariants.{NotALine, UnknownName, BadKey, NoMemory}
use Rattle.ham_grammar.specs.declared.line.Line.{Line}
use Rattle.ham_grammar.specs.declared.written.Written.{Written}
use Rattle.ham_grammar.specs.Lines.{IsReading, Spells, written}
use Rattle.ham_grammar.specs.Meaning.{meant}
use Rattle.ham_grammar.specs.Reading.{IsFoundAs, written_of}
use Rattle.ham_grammar.specs.Computed.{read_by, read_of, IsReadAs}
use Rattle.ham_grammar.proofs.Meanings.{line_back}
use Rattle.ham_grammar.proofs.Readings.{found_line, no_line, unless, spelling_read}

pub reads_written : (o : Schema) (bytes : List ℕ) (w : Written) (r : Result Line LineFault) → written_of (words_of bytes) ≡ Some w → r ≡ meant o w → IsReadAs (read_of o bytes) r
unfolding read_of
reads_written o bytes w r e m = unless (λ r. read_of o bytes ≡ r) r (ap (read_by o) e ∙ sym m)

pub reads_none : (o : Schema) (bytes : List ℕ) (fault : LineFault) → IsFoundAs (written_of (words_of bytes)) (Err fault) → IsReadAs (read_of o bytes) (Err fault)
unfolding read_of
reads_none o bytes NotALine e = ap (read_by o) e
reads_none o bytes UnknownName e = absurd e
reads_none o bytes BadKey e = absurd e
reads_none o bytes NoMemory e = tt

reading_by : (o : Schema) (bytes : List ℕ) (found : Option Written) → written_of (words_of bytes) ≡ found → IsReading o bytes (read_by o found)
reading_by o bytes None e = no_line o bytes e
reading_by o bytes (Some w) e = found_line o bytes w e

pub reading_is : (o : Schema) (bytes : List ℕ) → IsReading o bytes (read_of o bytes)
unfolding read_of
reading_is o bytes = reading_by o bytes (written_of (words_of bytes)) refl

pub spelled_read : (o : Schema) → IsChecked o → (l : Line) (bytes : List ℕ) → Spells o l bytes → read_of o bytes ≡ Ok l
unfolding read_of
spelled_read o checked l bytes h = ap (read_by o) (spelling_read (written o l) bytes h.spelling) ∙ line_back o checked l h.is_printable
