-- Lines of a link.
use Rattle.std.specs.Prelude.{◌≢◌, ℕ, ◌<◌, ◌≤◌, List, [], ◌∷◌, ◌++◌, length, take}
use Rattle.std.specs.List.{AllByRecursion, flat_map}
use Rattle.ham_serve.specs.declared.line.TheConstants.{MAX_LINE}

-- no line end among these bytes
abbrev pub HasNoEnd : List ℕ → Type 0
HasNoEnd bytes = AllByRecursion (λ b. b ≢ 10) bytes

-- a line without its end, or what is held of one
pub record IsLine (line : List ℕ) : Type 0 where
  pub short : length line < MAX_LINE
  pub no_end : HasNoEnd line

-- so many bytes without a line end that no line begins so
pub record IsTooLong (bytes : List ℕ) : Type 0 where
  pub long : MAX_LINE ≤ length bytes
  pub no_end : HasNoEnd (take MAX_LINE bytes)

-- lines, each with its end
abbrev pub joined : List (List ℕ) → List ℕ
joined lines = flat_map (λ l. l ++ 10 ∷ []) lines
