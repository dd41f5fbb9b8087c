-- The words of a line: a text has one word at least, and lines with more words than they should have are none.
use Rattle.std.proofs.Common.{◌≡◌, ◌==◌, ℕ, ◌+◌, ◌<◌, List, [], ◌∷◌, length, Option, Some, None, refl, arith}
use Rattle.std.proofs.lemmas.List.Splits.{length-slice_split}
use Rattle.ham_text.specs.Cuts.{parts_of}
use Rattle.ham_syntax.specs.Objects.{Schema}
use Rattle.ham_records.specs.Reading.{single_of, opening_of, line_after, line_of}

pub some_words : (text : List ℕ) → 0 < length (parts_of 32 text)
some_words text = omega (arith, length-slice_split (λ b. b == 32) text)

many_single : (a : List ℕ) (words : List (List ℕ)) → 0 < length words → single_of (a ∷ words) ≡ None
unfolding single_of
many_single a [] h = absurd (omega arith)
many_single a (w ∷ ws) h = refl

pub no_single : (a text : List ℕ) → single_of (a ∷ parts_of 32 text) ≡ None
no_single a text = many_single a (parts_of 32 text) (some_words text)

many_pair : (a b : List ℕ) (words : List (List ℕ)) → 0 < length words → opening_of (a ∷ b ∷ words) ≡ None
unfolding opening_of
many_pair a b [] h = absurd (omega arith)
many_pair a b (w ∷ ws) h = refl

pub no_pair : (a b text : List ℕ) → opening_of (a ∷ b ∷ parts_of 32 text) ≡ None
no_pair a b text = many_pair a b (parts_of 32 text) (some_words text)

-- how much is left of a text, where there is one
abbrev pub size_in : Option (List ℕ) → ℕ
size_in None = 0
size_in (Some text) = length text + 1

more_words : (o : Schema) (word : List ℕ) (words : List (List ℕ)) → 0 < length words → line_of o (word ∷ words) ≡ line_after o word words
unfolding line_of
more_words o word [] h = absurd (omega arith)
more_words o word (w ∷ ws) h = refl

pub line_of_two : (o : Schema) (word text : List ℕ) → line_of o (word ∷ parts_of 32 text) ≡ line_after o word (parts_of 32 text)
line_of_two o word text = more_words o word (parts_of 32 text) (some_words text)
