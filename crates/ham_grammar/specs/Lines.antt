-- The lines of schedules: how each is written, what bytes spell it, and why bytes spell none.
--     written_words            the words of a line, with names as they are written
--     written                  a line of an object, with its names
--     printed                  its canonical text
--     Spells                   bytes that spell it: cut at spaces, they are its words
--     Fails                    why bytes spell no line of the object
--     IsReading                the line, or why there is none
--     is_skipped               lines that are passed over
use Rattle.std.specs.Prelude.{◌≡◌, ℕ, ◌^◌, ◌<◌, ◌≤◌, Bool, true, false, ◌==◌, IsTrue, List, [], ◌∷◌, length, map, slice_get, Some, None, Result, Ok, Err, codes}
use Rattle.std.specs.Fmt.{decimal}
use Rattle.ham_text.specs.Cuts.{words_of}
use Rattle.ham_text.specs.Numbers.{AreNumbers}
use Rattle.ham_text.specs.Written.{joined}
use Rattle.ham_syntax.specs.declared.act.Act.{Act}
use Rattle.ham_syntax.specs.declared.limits.TheConstants.{MAX_REPLICAS, MAX_CUTS}
use Rattle.ham_syntax.specs.Names.{is_name}
use Rattle.ham_syntax.specs.Objects.{Schema, relation_named, counter_named, method_named}
use Rattle.ham_lines.specs.declared.fault.LineFault.{LineFault}
use Rattle.ham_lines.specs.declared.fault.LineFault.TheVariants.{NotALine, UnknownName, BadKey, NoMemory}
use Rattle.ham_lines.specs.Named.{act_words, counter_words, IsNamedAct, IsNamedCounter, relation_name, is_keyed, act_named, counter_shown, IsKeyOf, IsWrongKey}
use Rattle.ham_turns.specs.declared.event.Event.{Event}
use Rattle.ham_turns.specs.declared.event.Event.TheVariants as events
use Rattle.ham_grammar.specs.declared.line.Line.{Line}
use Rattle.ham_grammar.specs.declared.line.Line.TheVariants as lines
use Rattle.ham_grammar.specs.declared.line.Query.{Query}
use Rattle.ham_grammar.specs.declared.line.Query.TheVariants as queries
use Rattle.ham_grammar.specs.declared.written.Written.{Written}
use Rattle.ham_grammar.specs.declared.written.Written.TheVariants.{Replicas, Issue, Deliver, Pieces, Torn, Tick, Show, Rows, Log, Verdict, Sent, Frame, Compare}

-- ---- how lines are written

abbrev pub written_words : Written → List (List ℕ)
written_words (Replicas n) = codes "replicas" ∷ decimal n ∷ []
written_words (Issue r act) = codes "issue" ∷ decimal r ∷ act_words act
written_words (Deliver f t k) = codes "deliver" ∷ decimal f ∷ decimal t ∷ decimal k ∷ []
written_words (Pieces f t k l cuts) = codes "pieces" ∷ decimal f ∷ decimal t ∷ decimal k ∷ decimal l ∷ map decimal cuts
written_words (Torn f t k p) = codes "torn" ∷ decimal f ∷ decimal t ∷ decimal k ∷ decimal p ∷ []
written_words (Tick r) = codes "tick" ∷ decimal r ∷ []
written_words (Show r counter) = codes "show" ∷ decimal r ∷ counter_words counter
written_words (Rows r relation) = codes "rows" ∷ decimal r ∷ relation ∷ []
written_words (Log r) = codes "log" ∷ decimal r ∷ []
written_words (Verdict r g k) = codes "verdict" ∷ decimal r ∷ decimal g ∷ decimal k ∷ []
written_words (Sent f t) = codes "sent" ∷ decimal f ∷ decimal t ∷ []
written_words (Frame f t k) = codes "frame" ∷ decimal f ∷ decimal t ∷ decimal k ∷ []
written_words (Compare r s) = codes "compare" ∷ decimal r ∷ decimal s ∷ []

-- numbers have 64 bits, names are names, there are 1 to 8 replicas, at most six arguments and at most 64 cuts
abbrev pub IsWritten : Written → Type 0
IsWritten (Replicas n) = (0 < n) × (n ≤ MAX_REPLICAS)
IsWritten (Issue r act) = (r < 2 ^ 64) × IsNamedAct act
IsWritten (Deliver f t k) = AreNumbers (f ∷ t ∷ k ∷ [])
IsWritten (Pieces f t k l cuts) = AreNumbers (f ∷ t ∷ k ∷ l ∷ []) × AreNumbers cuts × (length cuts ≤ MAX_CUTS)
IsWritten (Torn f t k p) = AreNumbers (f ∷ t ∷ k ∷ p ∷ [])
IsWritten (Tick r) = r < 2 ^ 64
IsWritten (Show r counter) = (r < 2 ^ 64) × IsNamedCounter counter
IsWritten (Rows r relation) = (r < 2 ^ 64) × IsTrue (is_name relation)
IsWritten (Log r) = r < 2 ^ 64
IsWritten (Verdict r g k) = AreNumbers (r ∷ g ∷ k ∷ [])
IsWritten (Sent f t) = AreNumbers (f ∷ t ∷ [])
IsWritten (Frame f t k) = AreNumbers (f ∷ t ∷ k ∷ [])
IsWritten (Compare r s) = AreNumbers (r ∷ s ∷ [])

-- the bytes are written so
pub record IsSpelling (w : Written) (bytes : List ℕ) : Type 0 where
  pub is_written : IsWritten w
  pub words : words_of bytes ≡ written_words w

-- ---- lines of an object, with its names

abbrev pub issued : Schema → ℕ → Act → Written
issued o r act = Issue r (act_named o act)

abbrev pub shown : Schema → ℕ → ℕ → ℕ → Written
shown o r c key = Show r (counter_shown o c key)

abbrev pub event_written : Schema → Event → Written
event_written o (events.Issue r act) = issued o r act
event_written o (events.Deliver f t k) = Deliver f t k
event_written o (events.Pieces f t k l cuts) = Pieces f t k l cuts
event_written o (events.Torn f t k p) = Torn f t k p
event_written o (events.Tick r) = Tick r

abbrev pub query_written : Schema → Query → Written
query_written o (queries.Show r c key) = shown o r c key
query_written o (queries.Rows r relation) = Rows r (relation_name o relation)
query_written o (queries.Log r) = Log r
query_written o (queries.Verdict r g k) = Verdict r g k
query_written o (queries.Sent f t) = Sent f t
query_written o (queries.Frame f t k) = Frame f t k
query_written o (queries.Compare r s) = Compare r s

abbrev pub written : Schema → Line → Written
written o (lines.Replicas n) = Replicas n
written o (lines.Act event) = event_written o event
written o (lines.Ask query) = query_written o query

-- its canonical text: its words, a space between each two
unfoldable pub printed : Schema → Line → List ℕ
printed o l = joined (written_words (written o l))

-- ---- what can be printed

abbrev pub IsPrintableEvent : Schema → Event → Type 0
IsPrintableEvent o (events.Issue r act) = act.method < length o.methods
IsPrintableEvent o (events.Deliver f t k) = Unit {0}
IsPrintableEvent o (events.Pieces f t k l cuts) = length cuts ≤ MAX_CUTS
IsPrintableEvent o (events.Torn f t k p) = Unit {0}
IsPrintableEvent o (events.Tick r) = Unit {0}

abbrev pub IsPrintableQuery : Schema → Query → Type 0
IsPrintableQuery o (queries.Show r c key) = (c < length o.counters) × IsKeyOf (is_keyed (slice_get o.counters c)) key
IsPrintableQuery o (queries.Rows r relation) = relation < length o.relations
IsPrintableQuery o (queries.Log r) = Unit {0}
IsPrintableQuery o (queries.Verdict r g k) = Unit {0}
IsPrintableQuery o (queries.Sent f t) = Unit {0}
IsPrintableQuery o (queries.Frame f t k) = Unit {0}
IsPrintableQuery o (queries.Compare r s) = Unit {0}

-- the method, counter and relation exist, a plain counter's key is 0, there are 1 to 8 replicas and at most 64 cuts
abbrev pub IsPrintable : Schema → Line → Type 0
IsPrintable o (lines.Replicas n) = (0 < n) × (n ≤ MAX_REPLICAS)
IsPrintable o (lines.Act event) = IsPrintableEvent o event
IsPrintable o (lines.Ask query) = IsPrintableQuery o query

-- ---- what bytes spell

-- the bytes spell a line of the object
pub record Spells (o : Schema) (l : Line) (bytes : List ℕ) : Type 0 where
  pub is_printable : IsPrintable o l
  pub spelling : IsSpelling (written o l) bytes

-- ---- why bytes spell none

-- it names what the object doesn't have
abbrev pub NamesUnknown : Schema → Written → Type 0
NamesUnknown o (Issue r act) = method_named o act.method ≡ None
NamesUnknown o (Show r counter) = counter_named o counter.counter ≡ None
NamesUnknown o (Rows r relation) = relation_named o relation ≡ None
NamesUnknown o w = ⊥

-- it has a key for a plain counter of the object, or none for a keyed one
abbrev pub HasWrongKey : Schema → Written → Type 0
HasWrongKey o (Show r counter) = (c : ℕ) × (counter_named o counter.counter ≡ Some c) × IsWrongKey (is_keyed (slice_get o.counters c)) counter.key
HasWrongKey o w = ⊥

-- what is wrong with a line that is written
abbrev pub IsWrong : Schema → Written → LineFault → Type 0
IsWrong o w NotALine = ⊥
IsWrong o w UnknownName = NamesUnknown o w
IsWrong o w BadKey = HasWrongKey o w
IsWrong o w NoMemory = ⊥

pub record SpellsWrong (o : Schema) (bytes : List ℕ) (fault : LineFault) : Type 0 where
  pub line : Written
  pub spelling : IsSpelling line bytes
  pub wrong : IsWrong o line fault

-- nothing is written so, or something is, and is wrong. No line fails for want of memory
abbrev pub Fails : Schema → List ℕ → LineFault → Type 0
Fails o bytes NotALine = (w : Written) → IsSpelling w bytes → ⊥
Fails o bytes UnknownName = SpellsWrong o bytes UnknownName
Fails o bytes BadKey = SpellsWrong o bytes BadKey
Fails o bytes NoMemory = ⊥

-- a reading is the line that the bytes spell, or why they spell none
abbrev pub IsReading : Schema → List ℕ → Result Line LineFault → Type 0
IsReading o bytes (Ok l) = Spells o l bytes
IsReading o bytes (Err fault) = Fails o bytes fault

-- this is so of an answer, unless memory ran out
abbrev pub UnlessNoMemory : (Result Line LineFault → Type 0) → Result Line LineFault → Type 0
UnlessNoMemory P (Ok l) = P (Ok l)
UnlessNoMemory P (Err NotALine) = P (Err NotALine)
UnlessNoMemory P (Err UnknownName) = P (Err UnknownName)
UnlessNoMemory P (Err BadKey) = P (Err BadKey)
UnlessNoMemory P (Err NoMemory) = Unit {0}

-- ---- lines that are skipped

-- the word begins with a byte 35, which is `#`
abbrev pub is_comment : List ℕ → Bool
is_comment [] = false
is_comment (b ∷ bs) = b == 35

-- there is no word, or the first is a comment's
abbrev pub are_skipped : List (List ℕ) → Bool
are_skipped [] = true
are_skipped (word ∷ words) = is_comment word

abbrev pub is_skipped : List ℕ → Bool
is_skipped bytes = are_skipped (words_of bytes)
