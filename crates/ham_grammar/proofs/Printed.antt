-- Printed lines: they spell the line, and are read back.
use Rattle.std.proofs.Common.{◌≡◌, ℕ, zero, suc, ◌<◌, ◌^◌, Bool, true, false, List, [], ◌∷◌, length, Result, Ok, Err, sym, subst, arith}
use Rattle.std.specs.Prelude.{IfOk, IfSome, IsTrue, slice_get}
use Rattle.std.specs.List.{AllByRecursion}
use Rattle.ham_text.proofs.Wording.{words_joined}
use Rattle.ham_syntax.specs.declared.object.Method.{Method}
use Rattle.ham_syntax.specs.Names.{is_name}
use Rattle.ham_syntax.specs.Objects.{Schema, name_by}
use Rattle.ham_syntax.specs.Checked.{IsChecked}
use Rattle.ham_syntax.specs.Typed.{IsTypedMethod}
use Rattle.ham_lines.specs.Named.{key_written, is_keyed}
use Rattle.ham_turns.specs.declared.event.Event.{Event}
use Rattle.ham_turns.specs.declared.event.Event.TheVariants as events
use Rattle.ham_grammar.specs.declared.line.Line.{Line}
use Rattle.ham_grammar.specs.declared.line.Line.TheVariants as lines
use Rattle.ham_grammar.specs.declared.line.Query.{Query}
use Rattle.ham_grammar.specs.declared.line.Query.TheVariants as queries
use Rattle.ham_grammar.specs.Lines.{written_words, IsWritten, event_written, query_written, written, printed, IsPrintableEvent, IsPrintableQuery, IsPrintable, Spells}
use Rattle.ham_grammar.specs.Typed.{IsTypedEvent, IsTypedQuery, IsTypedLine}
use Rattle.ham_grammar.specs.Computed.{read_of}
use Rattle.ham_grammar.proofs.Spelling.{line_words}
use Rattle.ham_grammar.proofs.Computed.{spelled_read}

-- ---- a line of an object is written

method_is_named : (ms : List Method) (m : ℕ) → AllByRecursion IsTypedMethod ms → m < length ms → IsTrue (is_name (name_by (λ x. x.name) (slice_get ms m)))
method_is_named [] m all h = absurd (omega arith)
method_is_named (x ∷ ms) zero all h = all.0.named
method_is_named (x ∷ ms) (suc m) all h = method_is_named ms m all.1 (omega arith)

is_named : {A : Type 0} (name : A → List ℕ) (xs : List A) (k : ℕ) → AllByRecursion (λ x. IsTrue (is_name (name x))) xs → k < length xs → IsTrue (is_name (name_by name (slice_get xs k)))
is_named name [] k all h = absurd (omega arith)
is_named name (x ∷ xs) zero all h = all.0
is_named name (x ∷ xs) (suc k) all h = is_named name xs k all.1 (omega arith)

key_small : (keyed : Bool) (key : ℕ) → key < 2 ^ 64 → IfSome (key_written keyed key) (λ k. k < 2 ^ 64)
key_small true key h = h
key_small false key h = tt

module _ (o : Schema) (checked : IsChecked o) where
  event_is_written : (e : Event) → IsPrintableEvent o e → IsTypedEvent e → IsWritten (event_written o e)
  event_is_written (events.Issue r act) h t = (t.0, record { is_named = method_is_named o.methods act.method checked.typed.methods h; few = t.1.0; numbers = t.1.1 })
  event_is_written (events.Deliver f t k) h n = n
  event_is_written (events.Pieces f t k l cuts) h n = (n.0, n.1, h)
  event_is_written (events.Torn f t k p) h n = n
  event_is_written (events.Tick r) h n = n

  query_is_written : (q : Query) → IsPrintableQuery o q → IsTypedQuery q → IsWritten (query_written o q)
  query_is_written (queries.Show r c key) h n = (n.0, record { is_named = is_named (λ x. x.name) o.counters c checked.typed.counters h.0; key = key_small (is_keyed (slice_get o.counters c)) key n.1.0 })
  query_is_written (queries.Rows r relation) h n = (n, is_named (λ x. x.name) o.relations relation checked.typed.relations h)
  query_is_written (queries.Log r) h n = n
  query_is_written (queries.Verdict r g k) h n = n
  query_is_written (queries.Sent f t) h n = n
  query_is_written (queries.Frame f t k) h n = n
  query_is_written (queries.Compare r s) h n = n

  line_is_written : (l : Line) → IsPrintable o l → IsTypedLine l → IsWritten (written o l)
  line_is_written (lines.Replicas n) h t = h
  line_is_written (lines.Act e) h t = event_is_written e h t
  line_is_written (lines.Ask q) h t = query_is_written q h t

-- ---- it is printed

line_printed : (o : Schema) (l : Line) → IsPrintable o l → IsWritten (written o l) → Spells o l (printed o l)
unfolding printed
line_printed o l h k = record { is_printable = h; spelling = record { is_written = k; words = words_joined (written_words (written o l)) (line_words (written o l) k) } }

pub printed_spells : (o : Schema) → IsChecked o → (l : Line) → IsPrintable o l → IsTypedLine l → Spells o l (printed o l)
printed_spells o checked l h t = line_printed o l h (line_is_written o checked l h t)

pub printed_read : (o : Schema) → IsChecked o → (l : Line) → IsPrintable o l → IsTypedLine l → read_of o (printed o l) ≡ Ok l
printed_read o checked l h t = spelled_read o checked l (printed o l) (printed_spells o checked l h t)

-- ---- by a printer that may run out of memory

pub print_spells : {E : Type 0} (o : Schema) (l : Line) (r : Result (List ℕ) E) → IsPrintable o l → IfOk r (λ bytes. bytes ≡ printed o l) → IfOk r (λ _. IsWritten (written o l)) → IfOk r (λ bytes. Spells o l bytes)
print_spells o l (Ok bytes) h text k = subst (Spells o l) (sym text) (line_printed o l h k)
print_spells o l (Err e) h text k = tt

pub print_reads : {E : Type 0} (o : Schema) (l : Line) (r : Result (List ℕ) E) → IsChecked o → IfOk r (λ bytes. Spells o l bytes) → IfOk r (λ bytes. read_of o bytes ≡ Ok l)
print_reads o l (Ok bytes) checked h = spelled_read o checked l bytes h
print_reads o l (Err e) checked h = tt

pub always : {A E : Type 0} (r : Result A E) (P : Type 0) → P → IfOk r (λ _. P)
always (Ok x) P p = p
always (Err e) P p = tt

pub text_same : {E : Type 0} (r : Result (List ℕ) E) (a b : List ℕ) → a ≡ b → IfOk r (λ text. text ≡ a) → IfOk r (λ text. text ≡ b)
text_same r a b e h = subst (λ c. IfOk r (λ text. text ≡ c)) e h
