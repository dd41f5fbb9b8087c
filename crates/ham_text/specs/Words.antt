-- What a word stands for, told by comparing it with texts one after another.
use Rattle.std.specs.Prelude.{ℕ, nat_eq, Bool, List, Option, Some, if◌then◌else◌}
use Rattle.std.specs.Cmp.Lexicographic.{pointwise}

-- whether two texts are one
abbrev pub is_text : List ℕ → List ℕ → Bool
is_text text word = pointwise nat_eq text word

-- x, if the word is this one, or else what comes after
abbrev pub if_word : {A : Type 0} → List ℕ → List ℕ → A → Option A → Option A
if_word word text x others = if is_text word text then Some x else others
