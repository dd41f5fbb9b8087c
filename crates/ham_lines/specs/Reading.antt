-- What a reader finds in words, from the first on. How they are written stands in Named: laws tie what is found to it.
use Rattle.std.specs.Prelude.{ℕ, List, [], ◌∷◌, Option, Some, None, option_map, if◌then◌else◌}
use Rattle.ham_text.specs.Numbers.{number_first, numbers_within, ◌>>=◌}
use Rattle.ham_syntax.specs.declared.limits.TheConstants.{MAX_PARAMS}
use Rattle.ham_syntax.specs.Names.{is_name}
use Rattle.ham_lines.specs.declared.named.NamedAct.{NamedAct}
use Rattle.ham_lines.specs.declared.named.NamedCounter.{NamedCounter}

-- x, where no word is left
abbrev pub alone : {A : Type 0} → A → List (List ℕ) → Option A
alone x [] = Some x
alone x (w ∷ ws) = None

abbrev pub one_number : List (List ℕ) → Option ℕ
one_number ws = number_first ws >>= (λ p. alone p.0 p.1)

abbrev pub two_numbers : List (List ℕ) → Option (ℕ × ℕ)
two_numbers ws = number_first ws >>= (λ p. option_map (λ b. (p.0, b)) (one_number p.1))

abbrev pub three_numbers : List (List ℕ) → Option (ℕ × ℕ × ℕ)
three_numbers ws = number_first ws >>= (λ p. option_map (λ q. (p.0, q.0, q.1)) (two_numbers p.1))

-- the word, where it is a name
abbrev pub name_of : List ℕ → Option (List ℕ)
name_of word = if is_name word then Some word else None

abbrev pub named_act : List ℕ → List ℕ → NamedAct
named_act method args = record { method = method; args = args }

abbrev pub named_counter : List ℕ → Option ℕ → NamedCounter
named_counter counter key = record { counter = counter; key = key }

unfoldable pub act_of : List (List ℕ) → Option NamedAct
act_of [] = None
act_of (w ∷ ws) = name_of w >>= (λ name. option_map (named_act name) (numbers_within MAX_PARAMS ws))

abbrev pub key_of : List (List ℕ) → Option (Option ℕ)
key_of [] = Some None
key_of (w ∷ ws) = option_map Some (one_number (w ∷ ws))

unfoldable pub counter_of : List (List ℕ) → Option NamedCounter
counter_of [] = None
counter_of (w ∷ ws) = name_of w >>= (λ name. option_map (named_counter name) (key_of ws))

unfoldable pub relation_of : List (List ℕ) → Option (List ℕ)
relation_of [] = None
relation_of (w ∷ ws) = alone w ws >>= name_of
