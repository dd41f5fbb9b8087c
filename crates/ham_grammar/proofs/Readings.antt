-- Readings: at most one, and exact.
use Rattle.std.proofs.Common.{◌≡◌, ◌⊎◌, ℕ, inl, inr, List, Some, None, Result, Ok, Err, refl, sym, ap, ◌∙◌, subst}
use Rattle.std.proofs.lemmas.Option.{same_Some, none-some}
use Rattle.ham_text.specs.Cuts.{words_of}
use Rattle.ham_syntax.specs.Objects.{Schema}
use Rattle.ham_syntax.specs.Checked.{IsChecked}
use Rattle.ham_lines.specs.declared.fault.LineFault.{LineFault}
use Rattle.ham_lines.specs.declared.fault.LineFault.TheVariants.{NotALine, UnknownName, BadKey, NoMemory}
use Rattle.ham_lines.proofs.Meant.{act_untold, counter_untold, key_untold}
use Rattle.ham_grammar.specs.declared.line.Line.{Line}
use Rattle.ham_grammar.specs.declared.written.Written.{Written}
use Rattle.ham_grammar.specs.declared.written.Written.TheVariants.{Replicas, Issue, Deliver, Pieces, Torn, Tick, Show, Rows, Log, Verdict, Sent, Frame, Compare}
use Rattle.ham_grammar.specs.Lines.{IsSpelling, written, Spells, IsWrong, NamesUnknown, HasWrongKey, SpellsWrong, Fails, IsReading, UnlessNoMemory}
use Rattle.ham_grammar.specs.Reading.{IsFoundAs, written_of}
use Rattle.ham_grammar.specs.Meaning.{issue_by, show_by, rows_by, meant}
use Rattle.ham_grammar.proofs.Spelling.{line_spelt, line_read}
use Rattle.ham_grammar.proofs.Meanings.{Means, line_means, line_back}

-- ---- one spelling

pub spelling_read : (w : Written) (bytes : List ℕ) → IsSpelling w bytes → written_of (words_of bytes) ≡ Some w
spelling_read w bytes h = ap written_of h.words ∙ line_read w h.is_written

pub one_spelling : (w v : Written) (bytes : List ℕ) → IsSpelling w bytes → IsSpelling v bytes → w ≡ v
one_spelling w v bytes h k = same_Some w v (sym (spelling_read w bytes h) ∙ spelling_read v bytes k)

-- ---- what is read

-- what bytes that spell a written line mean
read_as : (o : Schema) (bytes : List ℕ) (w : Written) → IsSpelling w bytes → (r : Result Line LineFault) → Means o w r → IsReading o bytes r
read_as o bytes w h (Ok l) m = record { is_printable = m.0; spelling = subst (λ v. IsSpelling v bytes) m.1 h }
read_as o bytes w h (Err NotALine) m = absurd m
read_as o bytes w h (Err UnknownName) m = record { line = w; spelling = h; wrong = m }
read_as o bytes w h (Err BadKey) m = record { line = w; spelling = h; wrong = m }
read_as o bytes w h (Err NoMemory) m = m

pub found_line : (o : Schema) (bytes : List ℕ) (w : Written) → written_of (words_of bytes) ≡ Some w → IsReading o bytes (meant o w)
found_line o bytes w e =
    let s = line_spelt (words_of bytes) w e in
    read_as o bytes w (record { is_written = s.is_written; words = s.words_are }) (meant o w) (line_means o w s.is_written)

pub no_line : (o : Schema) (bytes : List ℕ) → written_of (words_of bytes) ≡ None → Fails o bytes NotALine
no_line o bytes e w h = none-some w (sym e ∙ spelling_read w bytes h)

pub unless : (P : Result Line LineFault → Type 0) (r : Result Line LineFault) → P r → UnlessNoMemory P r
unless P (Ok l) h = h
unless P (Err NotALine) h = h
unless P (Err UnknownName) h = h
unless P (Err BadKey) h = h
unless P (Err NoMemory) h = tt

pub found_none : (o : Schema) (bytes : List ℕ) (fault : LineFault) → IsFoundAs (written_of (words_of bytes)) (Err fault) → UnlessNoMemory (IsReading o bytes) (Err fault)
found_none o bytes NotALine e = no_line o bytes e
found_none o bytes UnknownName e = absurd e
found_none o bytes BadKey e = absurd e
found_none o bytes NoMemory e = tt

-- ---- one reading

same_line : (l m : Line) (r : Result Line LineFault) → r ≡ Ok l → r ≡ Ok m → l ≡ m
same_line l m r e f = cc

pub one_line : (o : Schema) → IsChecked o → (l m : Line) (bytes : List ℕ) → Spells o l bytes → Spells o m bytes → l ≡ m
one_line o checked l m bytes h k =
    let same = one_spelling (written o l) (written o m) bytes h.spelling k.spelling in
    same_line l m (meant o (written o l)) (line_back o checked l h.is_printable) (ap (meant o) same ∙ line_back o checked m k.is_printable)

-- ---- one fault, and no other reading

-- what is wrong is what is told
unknown_told : (o : Schema) (w : Written) → NamesUnknown o w → meant o w ≡ Err UnknownName
unfolding meant
unknown_told o (Replicas n) h = absurd h
unknown_told o (Issue r act) h = ap (issue_by r) (act_untold o act h)
unknown_told o (Deliver f t k) h = absurd h
unknown_told o (Pieces f t k l cuts) h = absurd h
unknown_told o (Torn f t k p) h = absurd h
unknown_told o (Tick r) h = absurd h
unknown_told o (Show r counter) h = ap (show_by r) (counter_untold o counter h)
unknown_told o (Rows r relation) h = ap (rows_by r) h
unknown_told o (Log r) h = absurd h
unknown_told o (Verdict r g k) h = absurd h
unknown_told o (Sent f t) h = absurd h
unknown_told o (Frame f t k) h = absurd h
unknown_told o (Compare r s) h = absurd h

wrong_key_told : (o : Schema) (w : Written) → HasWrongKey o w → meant o w ≡ Err BadKey
unfolding meant
wrong_key_told o (Replicas n) h = absurd h
wrong_key_told o (Issue r act) h = absurd h
wrong_key_told o (Deliver f t k) h = absurd h
wrong_key_told o (Pieces f t k l cuts) h = absurd h
wrong_key_told o (Torn f t k p) h = absurd h
wrong_key_told o (Tick r) h = absurd h
wrong_key_told o (Show r counter) h = ap (show_by r) (key_untold o counter h.0 h.1 h.2)
wrong_key_told o (Rows r relation) h = absurd h
wrong_key_told o (Log r) h = absurd h
wrong_key_told o (Verdict r g k) h = absurd h
wrong_key_told o (Sent f t) h = absurd h
wrong_key_told o (Frame f t k) h = absurd h
wrong_key_told o (Compare r s) h = absurd h

told : (o : Schema) (w : Written) (fault : LineFault) → IsWrong o w fault → meant o w ≡ Err fault
told o w NotALine h = absurd h
told o w UnknownName h = unknown_told o w h
told o w BadKey h = wrong_key_told o w h
told o w NoMemory h = absurd h

-- nothing is written so, or something is and is wrong
abbrev Faulty : Schema → List ℕ → LineFault → Type 0
Faulty o bytes fault = ((fault ≡ NotALine) × ((w : Written) → IsSpelling w bytes → ⊥)) ⊎ SpellsWrong o bytes fault

faulty : (o : Schema) (bytes : List ℕ) (fault : LineFault) → Fails o bytes fault → Faulty o bytes fault
faulty o bytes NotALine h = inl (refl, h)
faulty o bytes UnknownName h = inr h
faulty o bytes BadKey h = inr h
faulty o bytes NoMemory h = absurd h

two_told : (r : Result Line LineFault) (f g : LineFault) → r ≡ Err f → r ≡ Err g → f ≡ g
two_told r f g d e = cc

same_wrong : (o : Schema) (bytes : List ℕ) (f g : LineFault) → SpellsWrong o bytes f → SpellsWrong o bytes g → f ≡ g
same_wrong o bytes f g h k =
    let same = one_spelling h.line k.line bytes h.spelling k.spelling in
    two_told (meant o h.line) f g (told o h.line f h.wrong) (ap (meant o) same ∙ told o k.line g k.wrong)

pub one_fault : (o : Schema) (bytes : List ℕ) (f g : LineFault) → Fails o bytes f → Fails o bytes g → f ≡ g
one_fault o bytes f g h k = elim (faulty o bytes f h) [
  | inl p ↦ elim (faulty o bytes g k) [
    | inl q ↦ p.0 ∙ sym q.0
    | inr q ↦ absurd (p.1 q.line q.spelling)
  ]
  | inr p ↦ elim (faulty o bytes g k) [
    | inl q ↦ absurd (q.1 p.line p.spelling)
    | inr q ↦ same_wrong o bytes f g p q
  ]
]

line_or_fault : (r : Result Line LineFault) (l : Line) (f : LineFault) → r ≡ Ok l → r ≡ Err f → ⊥
line_or_fault (Ok x) l f d e = absurd cc
line_or_fault (Err x) l f d e = absurd cc

pub no_fault : (o : Schema) → IsChecked o → (l : Line) (bytes : List ℕ) (f : LineFault) → Spells o l bytes → Fails o bytes f → ⊥
no_fault o checked l bytes f h k = elim (faulty o bytes f k) [
  | inl p ↦ p.1 (written o l) h.spelling
  | inr p ↦
      (let same = one_spelling (written o l) p.line bytes h.spelling p.spelling in
      line_or_fault (meant o (written o l)) l f (line_back o checked l h.is_printable) (ap (meant o) same ∙ told o p.line f p.wrong))
]
