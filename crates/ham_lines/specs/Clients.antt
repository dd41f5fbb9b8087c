-- The lines of clients: how each is written, what bytes spell it, and why bytes spell none.
--     client_words             the words of a line, with names as they are written
--     client_written           a line of an object, with its names
--     ClientSpells             bytes that spell it: cut at spaces, they are its words
--     ClientFails              why bytes spell no line of the object
use Rattle.std.specs.Prelude.{◌≡◌, ℕ, ◌<◌, IsTrue, List, [], ◌∷◌, length, slice_get, Some, None, Result, Ok, Err, codes}
use Rattle.std.specs.Fmt.{decimal}
use Rattle.ham_text.specs.Cuts.{words_of}
use Rattle.ham_text.specs.Numbers.{AreNumbers}
use Rattle.ham_syntax.specs.Names.{is_name}
use Rattle.ham_syntax.specs.Objects.{Schema, relation_named, counter_named, method_named}
use Rattle.ham_lines.specs.declared.fault.LineFault.{LineFault}
use Rattle.ham_lines.specs.declared.fault.LineFault.TheVariants.{NotALine, UnknownName, BadKey, NoMemory}
use Rattle.ham_lines.specs.declared.client.ClientLine.{ClientLine}
use Rattle.ham_lines.specs.declared.client.ClientLine.TheVariants as lines
use Rattle.ham_lines.specs.declared.client.ClientWritten.{ClientWritten}
use Rattle.ham_lines.specs.declared.client.ClientWritten.TheVariants.{Issue, Show, Rows, Verdict, Log, Counts, Record, Quit, Stop}
use Rattle.ham_lines.specs.Named.{act_words, counter_words, IsNamedAct, IsNamedCounter, relation_name, is_keyed, act_named, counter_shown, IsKeyOf, IsWrongKey}

-- ---- how lines are written

abbrev pub client_words : ClientWritten → List (List ℕ)
client_words (Issue act) = codes "issue" ∷ act_words act
client_words (Show counter) = codes "show" ∷ counter_words counter
client_words (Rows relation) = codes "rows" ∷ relation ∷ []
client_words (Verdict g k) = codes "verdict" ∷ decimal g ∷ decimal k ∷ []
client_words Log = codes "log" ∷ []
client_words Counts = codes "counts" ∷ []
client_words Record = codes "record" ∷ []
client_words Quit = codes "quit" ∷ []
client_words Stop = codes "stop" ∷ []

-- numbers have 64 bits, names are names, and there are at most six arguments
abbrev pub IsClientWritten : ClientWritten → Type 0
IsClientWritten (Issue act) = IsNamedAct act
IsClientWritten (Show counter) = IsNamedCounter counter
IsClientWritten (Rows relation) = IsTrue (is_name relation)
IsClientWritten (Verdict g k) = AreNumbers (g ∷ k ∷ [])
IsClientWritten Log = Unit {0}
IsClientWritten Counts = Unit {0}
IsClientWritten Record = Unit {0}
IsClientWritten Quit = Unit {0}
IsClientWritten Stop = Unit {0}

-- the bytes are written so
pub record IsClientSpelling (w : ClientWritten) (bytes : List ℕ) : Type 0 where
  pub is_written : IsClientWritten w
  pub words : words_of bytes ≡ client_words w

-- a line of an object, with its names
abbrev pub client_written : Schema → ClientLine → ClientWritten
client_written o (lines.Issue act) = Issue (act_named o act)
client_written o (lines.Show c key) = Show (counter_shown o c key)
client_written o (lines.Rows relation) = Rows (relation_name o relation)
client_written o (lines.Verdict g k) = Verdict g k
client_written o lines.Log = Log
client_written o lines.Counts = Counts
client_written o lines.Record = Record
client_written o lines.Quit = Quit
client_written o lines.Stop = Stop

-- its method, counter and relation exist, and a plain counter's key is 0
abbrev pub IsOfObject : Schema → ClientLine → Type 0
IsOfObject o (lines.Issue act) = act.method < length o.methods
IsOfObject o (lines.Show c key) = (c < length o.counters) × IsKeyOf (is_keyed (slice_get o.counters c)) key
IsOfObject o (lines.Rows relation) = relation < length o.relations
IsOfObject o l = Unit {0}

-- the bytes spell a line of the object
pub record ClientSpells (o : Schema) (l : ClientLine) (bytes : List ℕ) : Type 0 where
  pub is_of_object : IsOfObject o l
  pub spelling : IsClientSpelling (client_written o l) bytes

-- it names what the object doesn't have
abbrev pub NamesUnknown : Schema → ClientWritten → Type 0
NamesUnknown o (Issue act) = method_named o act.method ≡ None
NamesUnknown o (Show counter) = counter_named o counter.counter ≡ None
NamesUnknown o (Rows relation) = relation_named o relation ≡ None
NamesUnknown o w = ⊥

-- a key for a plain counter of the object, or none for a keyed one
abbrev pub HasWrongKey : Schema → ClientWritten → Type 0
HasWrongKey o (Show counter) = (c : ℕ) × (counter_named o counter.counter ≡ Some c) × IsWrongKey (is_keyed (slice_get o.counters c)) counter.key
HasWrongKey o w = ⊥

-- what is wrong with a line that is written
abbrev pub IsClientWrong : Schema → ClientWritten → LineFault → Type 0
IsClientWrong o w NotALine = ⊥
IsClientWrong o w UnknownName = NamesUnknown o w
IsClientWrong o w BadKey = HasWrongKey o w
IsClientWrong o w NoMemory = ⊥

pub record ClientSpellsWrong (o : Schema) (bytes : List ℕ) (fault : LineFault) : Type 0 where
  pub line : ClientWritten
  pub spelling : IsClientSpelling line bytes
  pub wrong : IsClientWrong o line fault

-- nothing is written so, or something is, and is wrong. No line fails for want of memory
abbrev pub ClientFails : Schema → List ℕ → LineFault → Type 0
ClientFails o bytes NotALine = (w : ClientWritten) → IsClientSpelling w bytes → ⊥
ClientFails o bytes UnknownName = ClientSpellsWrong o bytes UnknownName
ClientFails o bytes BadKey = ClientSpellsWrong o bytes BadKey
ClientFails o bytes NoMemory = ⊥

-- an answer is the line that the bytes spell, or why they spell none
abbrev pub IsClientReading : Schema → List ℕ → Result ClientLine LineFault → Type 0
IsClientReading o bytes (Ok l) = ClientSpells o l bytes
IsClientReading o bytes (Err fault) = ClientFails o bytes fault
