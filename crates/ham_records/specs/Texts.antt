-- The text of records, line by line.
--     text_of              the text of some logs
--     IsAuditText          bytes whose lines, cut at each space, are those of some logs
--     IsBadLine            the first line by which bytes are no such text
use Rattle.std.specs.Prelude.{◌≡◌, ℕ, ◌+◌, ◌^◌, ◌<◌, ◌≤◌, IsTrue, List, [], ◌∷◌, ◌++◌, length, map, codes}
use Rattle.std.specs.List.{AllByRecursion}
use Rattle.std.specs.Fmt.{decimal}
use Rattle.ham_text.specs.Cuts.{pieces_of}
use Rattle.ham_text.specs.Numbers.{AreNumbers}
use Rattle.ham_text.specs.Written.{nothing, lines_text}
use Rattle.ham_text.specs.BadLines.{IsFirstBadLine}
use Rattle.ham_syntax.specs.declared.limits.TheConstants.{MAX_REPLICAS, MAX_PARAMS}
use Rattle.ham_syntax.specs.Objects.{Schema, method_name, args_fit}
use Rattle.ham_records.specs.declared.records.Logged.{Logged}

-- ---- the words of each line

abbrev pub opening_words : List (List ℕ)
opening_words = codes "hamsaz" ∷ codes "audit" ∷ codes "1" ∷ []

abbrev pub replicas_words : ℕ → List (List ℕ)
replicas_words n = codes "replicas" ∷ decimal n ∷ []

abbrev pub replica_words : ℕ → List (List ℕ)
replica_words r = codes "replica" ∷ decimal r ∷ []

abbrev pub call_words : Schema → Logged → List (List ℕ)
call_words o e = codes "call" ∷ decimal e.place.lane ∷ decimal e.place.number ∷ method_name o e.act.method ∷ map decimal e.act.args

abbrev pub end_words : List (List ℕ)
end_words = codes "end" ∷ []

-- the lines of a replica's log
abbrev pub log_lines : Schema → ℕ → List Logged → List (List (List ℕ))
log_lines o r log = replica_words r ∷ map (call_words o) log

-- the lines of the logs of the replicas from r on
abbrev pub logs_lines : Schema → ℕ → List (List Logged) → List (List (List ℕ))
logs_lines o r [] = []
logs_lines o r (log ∷ logs) = log_lines o r log ++ logs_lines o (r + 1) logs

-- the lines: the opening, how many replicas there are, their logs, and the end
abbrev pub text_lines : Schema → List (List Logged) → List (List (List ℕ))
text_lines o logs = opening_words ∷ replicas_words (length logs) ∷ (logs_lines o 1 logs ++ end_words ∷ [])

-- the text of some logs
unfoldable pub text_of : Schema → List (List Logged) → List ℕ
text_of o logs = lines_text (text_lines o logs)

-- ---- what a text can spell

-- a place has a lane of 8 bits and a number of 32, and the act fits the object
pub record IsLogged (o : Schema) (e : Logged) : Type 0 where
  pub lane : e.place.lane < 256
  pub number : e.place.number < 2 ^ 32
  pub fits : IsTrue (args_fit o e.act)
  pub args : AreNumbers e.act.args
  pub few : length e.act.args ≤ MAX_PARAMS

-- 1 to 8 logs of such calls
pub record AreLogs (o : Schema) (logs : List (List Logged)) : Type 0 where
  pub some : 1 ≤ length logs
  pub few : length logs ≤ MAX_REPLICAS
  pub each : AllByRecursion (AllByRecursion (IsLogged o)) logs

-- ---- texts

-- the bytes are the text of the logs
pub record IsAuditText (o : Schema) (logs : List (List Logged)) (bytes : List ℕ) : Type 0 where
  pub logs_are : AreLogs o logs
  pub pieces : pieces_of bytes ≡ text_lines o logs ++ nothing ∷ []

-- lines that are a text
pub record IsWhole (o : Schema) (lines : List (List (List ℕ))) : Type 0 where
  pub logs : List (List Logged)
  pub logs_are : AreLogs o logs
  pub lines_are : lines ≡ text_lines o logs

-- lines with which a text may begin
pub record IsBeginning (o : Schema) (lines : List (List (List ℕ))) : Type 0 where
  pub more : List (List (List ℕ))
  pub whole : IsWhole o (lines ++ more)

-- the first line, from 1, by which the bytes are no text of logs
abbrev pub IsBadLine : Schema → List ℕ → ℕ → Type 0
IsBadLine o bytes line = IsFirstBadLine (IsBeginning o) (IsWhole o) bytes line

-- ---- a text gives its logs back

-- the text of logs is their text
abbrev pub TextsAreTexts : Schema → Type 0
TextsAreTexts o = (logs : List (List Logged)) → AreLogs o logs → IsAuditText o logs (text_of o logs)

-- a text is one only of the logs that it is the text of, and is spelled so
abbrev pub TextsAreOfOne : Schema → Type 0
TextsAreOfOne o = (logs others : List (List Logged)) (bytes : List ℕ) → IsAuditText o logs bytes → IsAuditText o others bytes → logs ≡ others

abbrev pub TextsAreSpelled : Schema → Type 0
TextsAreSpelled o = (logs : List (List Logged)) (bytes : List ℕ) → IsAuditText o logs bytes → bytes ≡ text_of o logs
