-- The lines of the plain form as a reader finds them, word by word: none where the words are no line.
use Rattle.std.specs.Prelude.{ℕ, ◌&&◌, Bool, false, List, [], ◌∷◌, ◌++◌, Option, Some, None, option_map, if◌then◌else◌, codes}
use Rattle.ham_text.specs.Words.{is_text, if_word}
use Rattle.ham_text.specs.Cuts.{parts_of}
use Rattle.ham_text.specs.Numbers.{number_of, ◌>>=◌}
use Rattle.ham_syntax.specs.declared.object.Counter.{Counter}
use Rattle.ham_syntax.specs.declared.object.Param.{Param}
use Rattle.ham_check.specs.declared.raw.RawRelation.{RawRelation}
use Rattle.ham_check.specs.declared.raw.RawPart.{RawPart}
use Rattle.ham_check.specs.declared.raw.RawInvariant.{RawInvariant}
use Rattle.ham_check.specs.declared.raw.RawInvariant.TheVariants.{Reference, Unique, Low, High}
use Rattle.ham_forms.specs.declared.words.InvariantKind.{InvariantKind}
use Rattle.ham_forms.specs.declared.words.InvariantKind.TheVariants as kinds
use Rattle.ham_plain.specs.declared.keyword.Keyword.{Keyword}
use Rattle.ham_plain.specs.declared.keyword.Keyword.TheVariants as keywords
use Rattle.ham_plain.specs.declared.line.PlainLine.{PlainLine}
use Rattle.ham_plain.specs.declared.line.PlainLine.TheVariants as lines
use Rattle.ham_forms.specs.Words.{keyed_of, kind_of, verb_of, invariant_kind_of, name_of, term_of, limit_of}

-- the first word of a line
unfoldable pub keyword_of : List ℕ → Option Keyword
keyword_of word =
    if_word word (codes "hamsaz") keywords.Hamsaz (if_word word (codes "relation") keywords.Relation (if_word word (codes "counter") keywords.Counter (if_word word (codes "invariant") keywords.Invariant
    (if_word word (codes "method") keywords.Method (if_word word (codes "param") keywords.Param (if_word word (codes "guard") keywords.Guard (if_word word (codes "effect") keywords.Effect
    (if_word word (codes "end") keywords.End None))))))))

-- the one word
abbrev pub single_of : List (List ℕ) → Option (List ℕ)
single_of (a ∷ []) = Some a
single_of words = None

-- the two words
abbrev pub pair_of : List (List ℕ) → Option (List ℕ × List ℕ)
pair_of (a ∷ b ∷ []) = Some (a, b)
pair_of words = None

-- the rest of the opening line
abbrev pub is_version : List (List ℕ) → Bool
is_version (a ∷ b ∷ []) = is_text a (codes "object") && is_text b (codes "1")
is_version words = false

-- the opening line
unfoldable pub opening_of : List (List ℕ) → Option PlainLine
opening_of words = if is_version words then Some lines.Opening else None

-- a name, and a number of columns
unfoldable pub relation_of : List (List ℕ) → Option RawRelation
relation_of words = do
  p ← pair_of words
  name ← name_of p.0
  columns ← number_of p.1
  Some (record { name = name; columns = columns })

-- a name, and whether it is keyed
unfoldable pub counter_of : List (List ℕ) → Option Counter
counter_of words = do
  p ← pair_of words
  name ← name_of p.0
  keyed ← keyed_of p.1
  Some (record { name = name; keyed = keyed })

-- a name, and what it is
unfoldable pub param_of : List (List ℕ) → Option Param
param_of words = do
  p ← pair_of words
  name ← name_of p.0
  kind ← kind_of p.1
  Some (record { name = name; kind = kind })

-- a name
unfoldable pub method_of : List (List ℕ) → Option (List ℕ)
method_of words = single_of words >>= name_of

-- these values, and then those of the words
abbrev pub values_from : {A : Type 0} → (List ℕ → Option A) → List A → List (List ℕ) → Option (List A)
values_from read values [] = Some values
values_from read values (word ∷ words) = read word >>= λ x. values_from read (values ++ x ∷ []) words

-- from a relation to another, by columns
unfoldable pub reference_of : List (List ℕ) → Option RawInvariant
reference_of [] = None
reference_of (from ∷ []) = None
reference_of (from ∷ to ∷ words) = do
  from ← name_of from
  to ← name_of to
  columns ← values_from number_of [] words
  Some (Reference from columns to)

-- a relation, and columns
unfoldable pub unique_of : List (List ℕ) → Option RawInvariant
unique_of [] = None
unique_of (relation ∷ words) = do
  relation ← name_of relation
  columns ← values_from number_of [] words
  Some (Unique relation columns)

-- a counter, and its least value
unfoldable pub low_of : List (List ℕ) → Option RawInvariant
low_of words = do
  p ← pair_of words
  counter ← name_of p.0
  limit ← limit_of p.1
  Some (Low counter limit)

-- a counter, and its greatest value
unfoldable pub high_of : List (List ℕ) → Option RawInvariant
high_of words = do
  p ← pair_of words
  counter ← name_of p.0
  limit ← limit_of p.1
  Some (High counter limit)

-- what the kind makes of the words after it
unfoldable pub by_kind_of : InvariantKind → List (List ℕ) → Option RawInvariant
by_kind_of kinds.Reference words = reference_of words
by_kind_of kinds.Unique words = unique_of words
by_kind_of kinds.Low words = low_of words
by_kind_of kinds.High words = high_of words

-- a kind of invariant, and what it is about
unfoldable pub invariant_of : List (List ℕ) → Option RawInvariant
invariant_of [] = None
invariant_of (kind ∷ words) = invariant_kind_of kind >>= λ kind. by_kind_of kind words

-- a verb, a name, and any number of terms
unfoldable pub part_of : List (List ℕ) → Option RawPart
part_of [] = None
part_of (verb ∷ []) = None
part_of (verb ∷ name ∷ words) = do
  verb ← verb_of verb
  name ← name_of name
  terms ← values_from term_of [] words
  Some (record { verb = verb; name = name; terms = terms })

-- the last line, which has no more words
abbrev pub end_of : List (List ℕ) → Option PlainLine
end_of [] = Some lines.End
end_of (word ∷ words) = None

-- the line of a first word and the words after it
unfoldable pub line_after : Keyword → List (List ℕ) → Option PlainLine
line_after keywords.Hamsaz words = opening_of words
line_after keywords.Relation words = option_map lines.Relation (relation_of words)
line_after keywords.Counter words = option_map lines.Counter (counter_of words)
line_after keywords.Invariant words = option_map lines.Invariant (invariant_of words)
line_after keywords.Method words = option_map lines.Method (method_of words)
line_after keywords.Param words = option_map lines.Param (param_of words)
line_after keywords.Guard words = option_map lines.Guard (part_of words)
line_after keywords.Effect words = option_map lines.Effect (part_of words)
line_after keywords.End words = end_of words

-- the line of these words
unfoldable pub line_of : List (List ℕ) → Option PlainLine
line_of [] = None
line_of (word ∷ words) = keyword_of word >>= λ keyword. line_after keyword words

-- the words of a text, where there is one
abbrev pub words_in : Option (List ℕ) → List (List ℕ)
words_in None = []
words_in (Some text) = parts_of 32 text
