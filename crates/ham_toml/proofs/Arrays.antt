-- Items that are read one after the other.
use Rattle.std.proofs.Common.{◌≡◌, ◌<◌, List, [], ◌∷◌, ◌++◌, length, Option, None, Result, Ok, refl, arith}
use Rattle.std.specs.Prelude.{option_map}
use Rattle.toml.specs.View.{items_view}
use Rattle.toml.specs.declared.value.Value.{Value}
use Rattle.ham_forms.specs.declared.fault.FileFault.{FileFault}
use Rattle.ham_forms.specs.Outcomes.{◌>>=◌}
use Rattle.ham_toml.specs.Toml.{param_of, part_of}

-- what was read, before what is still to be read
abbrev pub behind : {A : Type 0} → List A → Option (List A) → Option (List A)
behind front read = option_map (λ xs. front ++ xs) read

-- the same, where reading has faults
abbrev pub after : {A : Type 0} → List A → Result (List A) FileFault → Result (List A) FileFault
after front read = read >>= λ xs. Ok (front ++ xs)

-- ---- arrays of another length

pub not_two : (vs : List Value) → (length vs ≡ 2 → ⊥) → None ≡ param_of (items_view vs)
not_two [] h = refl
not_two (a ∷ []) h = refl
not_two (a ∷ b ∷ []) h = absurd (h refl)
not_two (a ∷ b ∷ c ∷ vs) h = refl

pub below_two : (vs : List Value) → length vs < 2 → part_of (items_view vs) ≡ None
below_two [] h = refl
below_two (a ∷ []) h = refl
below_two (a ∷ b ∷ vs) h = absurd (omega arith)
