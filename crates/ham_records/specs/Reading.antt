-- What a reader finds in the words of a line.
use Rattle.std.specs.Prelude.{ℕ, ◌^◌, nat_lt, nat_le, nat_eq, ◌&&◌, Bool, true, false, List, [], ◌∷◌, Option, Some, None, option_and_then, option_map, if◌then◌else◌, codes}
use Rattle.std.specs.Cmp.Lexicographic.{pointwise}
use Rattle.ham_text.specs.Cuts.{parts_of}
use Rattle.ham_text.specs.Numbers.{number_of, numbers_within, below, ◌>>=◌}
use Rattle.ham_syntax.specs.declared.act.Act.{Act}
use Rattle.ham_syntax.specs.declared.act.Place.{Place}
use Rattle.ham_syntax.specs.declared.limits.TheConstants.{MAX_REPLICAS, MAX_PARAMS}
use Rattle.ham_syntax.specs.Objects.{Schema, method_named, args_fit}
use Rattle.ham_records.specs.declared.records.Logged.{Logged}
use Rattle.ham_records.specs.declared.line.RecordLine.{RecordLine}
use Rattle.ham_records.specs.declared.line.RecordLine.TheVariants.{Opening, Replicas, Replica, Call, End}

-- the words of a text, where there is one
abbrev pub words_in : Option (List ℕ) → List (List ℕ)
words_in None = []
words_in (Some text) = parts_of 32 text

-- the only word
unfoldable pub single_of : List (List ℕ) → Option (List ℕ)
single_of (word ∷ []) = Some word
single_of words = None

abbrev pub small_of : List ℕ → Option ℕ
small_of word = number_of word >>= below 256

abbrev pub wide_of : List ℕ → Option ℕ
wide_of word = number_of word >>= below (2 ^ 32)

-- ---- lines

abbrev pub opening_by : List ℕ → List ℕ → Option RecordLine
opening_by audit version = if pointwise nat_eq audit (codes "audit") && pointwise nat_eq version (codes "1") then Some Opening else None

-- the words after the first of the opening
unfoldable pub opening_of : List (List ℕ) → Option RecordLine
opening_of (audit ∷ version ∷ []) = opening_by audit version
opening_of words = None

abbrev pub counted : ℕ → Option RecordLine
counted n = if nat_le 1 n && nat_le n MAX_REPLICAS then Some (Replicas n) else None

abbrev pub replicas_of : List (List ℕ) → Option RecordLine
replicas_of words = single_of words >>= λ word. small_of word >>= counted

abbrev pub replica_of : List (List ℕ) → Option RecordLine
replica_of words = single_of words >>= λ word. option_map (λ r. Replica r) (small_of word)

abbrev pub place_of : List ℕ → List ℕ → Option Place
place_of lane number = small_of lane >>= λ l. wide_of number >>= λ n. Some (record { lane = l; number = n })

-- the act, where it fits
abbrev pub fitting : Schema → Act → Option Act
fitting o act = if args_fit o act then Some act else None

-- the act of a method's name and arguments
unfoldable pub act_of : Schema → List ℕ → List (List ℕ) → Option Act
act_of o name words = method_named o name >>= λ m. numbers_within MAX_PARAMS words >>= λ args. fitting o (record { method = m; args = args })

-- a lane, a number, a method's name, and arguments
unfoldable pub call_of : Schema → List (List ℕ) → Option Logged
call_of o (lane ∷ number ∷ name ∷ words) = place_of lane number >>= λ c. act_of o name words >>= λ a. Some (record { place = c; act = a })
call_of o words = None

-- a line of one word
abbrev pub bare_line : List ℕ → Option RecordLine
bare_line word = if pointwise nat_eq word (codes "end") then Some End else None

-- a line of a word and others
abbrev pub line_after : Schema → List ℕ → List (List ℕ) → Option RecordLine
line_after o word words =
    if pointwise nat_eq word (codes "call") then option_map (λ e. Call e) (call_of o words)
    else if pointwise nat_eq word (codes "replica") then replica_of words
    else if pointwise nat_eq word (codes "replicas") then replicas_of words
    else if pointwise nat_eq word (codes "hamsaz") then opening_of words
    else None

-- the line of these words
unfoldable pub line_of : Schema → List (List ℕ) → Option RecordLine
line_of o [] = None
line_of o (word ∷ []) = bare_line word
line_of o (word ∷ next ∷ words) = line_after o word (next ∷ words)
