-- Texts as words: a text has one word at least.
use Rattle.std.proofs.Common.{◌≡◌, ◌==◌, ℕ, ◌+◌, ◌<◌, List, [], ◌∷◌, length, Option, Some, None, refl, arith}
use Rattle.std.proofs.lemmas.List.Splits.{length-slice_split}
use Rattle.ham_text.specs.Cuts.{parts_of}
use Rattle.ham_forms.specs.declared.words.InvariantKind.{InvariantKind}
use Rattle.ham_forms.specs.declared.words.InvariantKind.TheVariants.{Reference, Unique, Low, High}
use Rattle.ham_plain.specs.Reading.{pair_of, single_of, end_of, by_kind_of, reference_of, unique_of, low_of, high_of}

many_pair : (a b : List ℕ) (words : List (List ℕ)) → 0 < length words → pair_of (a ∷ b ∷ words) ≡ None
many_pair a b [] h = absurd (omega arith)
many_pair a b (w ∷ ws) h = refl

many_single : (a : List ℕ) (words : List (List ℕ)) → 0 < length words → single_of (a ∷ words) ≡ None
many_single a [] h = absurd (omega arith)
many_single a (w ∷ ws) h = refl

pub some_words : (text : List ℕ) → 0 < length (parts_of 32 text)
some_words text = omega (arith, length-slice_split (λ b. b == 32) text)

pub no_pair : (a b text : List ℕ) → pair_of (a ∷ b ∷ parts_of 32 text) ≡ None
no_pair a b text = many_pair a b (parts_of 32 text) (some_words text)

pub no_single : (a text : List ℕ) → single_of (a ∷ parts_of 32 text) ≡ None
no_single a text = many_single a (parts_of 32 text) (some_words text)

many_end : (words : List (List ℕ)) → 0 < length words → end_of words ≡ None
many_end [] h = absurd (omega arith)
many_end (w ∷ ws) h = refl

pub no_end : (text : List ℕ) → end_of (parts_of 32 text) ≡ None
no_end text = many_end (parts_of 32 text) (some_words text)

pub nothing_by_kind : (kind : InvariantKind) → by_kind_of kind [] ≡ None
unfolding by_kind_of reference_of unique_of low_of high_of
nothing_by_kind Reference = refl
nothing_by_kind Unique = refl
nothing_by_kind Low = refl
nothing_by_kind High = refl

-- how much is left of a text, where there is one
abbrev pub size_in : Option (List ℕ) → ℕ
size_in None = 0
size_in (Some text) = length text + 1
