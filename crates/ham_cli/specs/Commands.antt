-- What the words of the command line ask.
--     spelled    the words of a command: its verb, its object's file, and the rest
--     Asks       the words are a command's, all of them are text, and its names and numbers are in range
use Rattle.std.specs.Prelude.{◌≡◌, ℕ, ◌<◌, ◌≤◌, ◌^◌, true, List, [], ◌∷◌, Option, Some, None, codes}
use Rattle.std.specs.List.{list_all}
use Rattle.std.specs.Str.{is_utf8}
use Rattle.std.specs.Fmt.{decimal}
use Rattle.ham_syntax.specs.declared.limits.TheConstants.{MAX_REPLICAS, MAX_OBJECT_BYTES, MAX_SCHEDULE_BYTES}
use Rattle.ham_syntax.specs.Names.{is_name}
use Rattle.ham_bulk.specs.declared.drafting.TheConstants.{MAX_ROUNDS}
use Rattle.ham_cli.specs.declared.audits.TheConstants.{MAX_RECORDS_BYTES}
use Rattle.ham_cli.specs.declared.command.Drawing.{Drawing}
use Rattle.ham_cli.specs.declared.command.Need.{Need}
use Rattle.ham_cli.specs.declared.command.Task.{Task}
use Rattle.ham_cli.specs.declared.command.Task.TheVariants as tasks
use Rattle.ham_cli.specs.declared.named.NamedClaim.{NamedClaim}
use Rattle.ham_cli.specs.declared.named.NamedClaim.TheVariants.{Sc, Pr, Pl, Is}

-- what is asked of an object
pub data Asked : Type 0 where
  Normalizes : Asked
  Replays : (schedule : List ℕ) → Asked
  Records : (schedule : List ℕ) → Asked
  Audits : (file : List ℕ) → Asked
  Checks : (file : List ℕ) → Asked
  Derives : (claim : NamedClaim) → Asked
  Exemplifies : (claim : NamedClaim) → Asked
  Tabulates : (replicas : ℕ) → Asked
  Bulks : (drawing : Drawing) → Asked
  Scripts : (drawing : Drawing) → Asked

-- ---- spelling

abbrev pub verb_of : Asked → List ℕ
verb_of Normalizes = codes "normal"
verb_of (Replays schedule) = codes "replay"
verb_of (Records schedule) = codes "record"
verb_of (Audits file) = codes "audit"
verb_of (Checks file) = codes "check"
verb_of (Derives claim) = codes "derive"
verb_of (Exemplifies claim) = codes "example"
verb_of (Tabulates replicas) = codes "tables"
verb_of (Bulks drawing) = codes "bulk"
verb_of (Scripts drawing) = codes "script"

abbrev pub claim_words : NamedClaim → List (List ℕ)
claim_words (Sc m n) = codes "sc" ∷ m ∷ n ∷ []
claim_words (Pr m n) = codes "pr" ∷ m ∷ n ∷ []
claim_words (Pl m n) = codes "pl" ∷ m ∷ n ∷ []
claim_words (Is m) = codes "is" ∷ m ∷ []

abbrev pub drawing_words : Drawing → List (List ℕ)
drawing_words d = decimal d.seed ∷ decimal d.replicas ∷ decimal d.rounds ∷ []

-- the words after the object's file
abbrev pub rest_of : Asked → List (List ℕ)
rest_of Normalizes = []
rest_of (Replays schedule) = schedule ∷ []
rest_of (Records schedule) = schedule ∷ []
rest_of (Audits file) = file ∷ []
rest_of (Checks file) = file ∷ []
rest_of (Derives claim) = claim_words claim
rest_of (Exemplifies claim) = claim_words claim
rest_of (Tabulates replicas) = decimal replicas ∷ []
rest_of (Bulks drawing) = drawing_words drawing
rest_of (Scripts drawing) = drawing_words drawing

abbrev pub spelled : List ℕ → Asked → List (List ℕ)
spelled object asked = verb_of asked ∷ object ∷ rest_of asked

-- ---- ranges

abbrev pub AreNames : NamedClaim → Type 0
AreNames (Sc m n) = (is_name m ≡ true) × (is_name n ≡ true)
AreNames (Pr m n) = (is_name m ≡ true) × (is_name n ≡ true)
AreNames (Pl m n) = (is_name m ≡ true) × (is_name n ≡ true)
AreNames (Is m) = is_name m ≡ true

pub record AreFew (replicas : ℕ) : Type 0 where
  pub some : 0 < replicas
  pub few : replicas ≤ MAX_REPLICAS

pub record IsDrawing (d : Drawing) : Type 0 where
  pub seed : d.seed < 2 ^ 64
  pub replicas : AreFew d.replicas
  pub few_rounds : d.rounds ≤ MAX_ROUNDS

abbrev pub IsInRange : Asked → Type 0
IsInRange Normalizes = Unit {0}
IsInRange (Replays schedule) = Unit {0}
IsInRange (Records schedule) = Unit {0}
IsInRange (Audits file) = Unit {0}
IsInRange (Checks file) = Unit {0}
IsInRange (Derives claim) = AreNames claim
IsInRange (Exemplifies claim) = AreNames claim
IsInRange (Tabulates replicas) = AreFew replicas
IsInRange (Bulks drawing) = IsDrawing drawing
IsInRange (Scripts drawing) = IsDrawing drawing

-- ---- commands

pub record Asks (words : List (List ℕ)) (object : List ℕ) (asked : Asked) : Type 0 where
  pub words_are : words ≡ spelled object asked
  pub text : list_all is_utf8 words ≡ true
  pub in_range : IsInRange asked

abbrev pub AsksNothing : List (List ℕ) → Type 0
AsksNothing words = (object : List ℕ) (asked : Asked) → Asks words object asked → ⊥

-- words ask one command at most
abbrev pub AsksOnce : List (List ℕ) → Type 0
AsksOnce words = (object other : List ℕ) (asked more : Asked) → Asks words object asked → Asks words other more → (object ≡ other) × (asked ≡ more)

-- a task as its words name it
abbrev pub seen : Task → Asked
seen tasks.Normal = Normalizes
seen (tasks.Replay schedule) = Replays schedule.now
seen (tasks.Record schedule) = Records schedule.now
seen (tasks.Audit file) = Audits file.now
seen (tasks.Check file) = Checks file.now
seen (tasks.Derive claim) = Derives claim
seen (tasks.Example claim) = Exemplifies claim
seen (tasks.Tables replicas) = Tabulates replicas
seen (tasks.Bulk drawing) = Bulks drawing
seen (tasks.Script drawing) = Scripts drawing

-- ---- the file that is read beside the object's, and its greatest length

pub record Beside : Type 0 where
  pub name : List ℕ
  pub limit : ℕ

abbrev pub beside : Asked → Option Beside
beside (Replays schedule) = Some (record { name = schedule; limit = MAX_SCHEDULE_BYTES })
beside (Records schedule) = Some (record { name = schedule; limit = MAX_SCHEDULE_BYTES })
beside (Audits file) = Some (record { name = file; limit = MAX_RECORDS_BYTES })
beside (Checks file) = Some (record { name = file; limit = MAX_OBJECT_BYTES })
beside Normalizes = None
beside (Derives claim) = None
beside (Exemplifies claim) = None
beside (Tabulates replicas) = None
beside (Bulks drawing) = None
beside (Scripts drawing) = None

abbrev pub seen_need : Need → Beside
seen_need need = record { name = need.name.now; limit = need.limit }
