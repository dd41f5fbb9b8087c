-- Patterns of ids.
use Rattle.std.specs.Prelude.{◌≡◌, ◌≤◌, ℕ, Bool, true, false, ◌&&◌, ◌==◌, List, [], ◌∷◌, map, length}
use Rattle.ham_syntax.specs.declared.limits.TheConstants.{MAX_COLUMNS}
use Rattle.ham_syntax.specs.declared.term.Term.{Term}
use Rattle.ham_syntax.specs.declared.term.Term.TheVariants.{Param, Const, Any}

-- a constant matches its id, and `_` matches any
abbrev pub fits : Term → ℕ → Bool
fits (Param p) x = false
fits (Const c) x = c == x
fits Any x = true

abbrev pub matches : List Term → List ℕ → Bool
matches [] [] = true
matches [] (x ∷ xs) = false
matches (t ∷ ts) [] = false
matches (t ∷ ts) (x ∷ xs) = fits t x && matches ts xs

-- is it this row
abbrev pub is_row : List ℕ → List ℕ → Bool
is_row row x = matches (map Const row) x

-- the pattern is the constants of this row
abbrev pub IsConstants : List Term → List ℕ → Type 0
IsConstants pattern row = (length row ≤ MAX_COLUMNS) × (map Const row ≡ pattern)
