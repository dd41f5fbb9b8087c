-- What steps do to one row, and to one counter at one key.
use Rattle.std.specs.Prelude.{ℕ, ℤ, pos, ◌+ℤ◌, Bool, true, false, cond, if◌then◌else◌, ◌&&◌, ◌==◌, List, [], ◌∷◌, Option, Some, None}
use Rattle.std.specs.Option.{option_or}
use Rattle.ham_steps.specs.declared.step.Step.{Step}
use Rattle.ham_steps.specs.declared.step.Step.TheVariants as steps
use Rattle.ham_steps.specs.Pattern.{matches, is_row}

-- does the step insert the row, or delete by a pattern that matches it
abbrev pub touches : Step → ℕ → List ℕ → Bool
touches (steps.Insert r row) q x = (r == q) && is_row row x
touches (steps.Delete r pattern) q x = (r == q) && matches pattern x
touches (steps.Change c k by) q x = false

abbrev pub puts : Step → Bool
puts (steps.Insert r row) = true
puts (steps.Delete r pattern) = false
puts (steps.Change c k by) = false

-- what the last step that touches the row does with it
abbrev pub last_touch : List Step → ℕ → List ℕ → Option Bool
last_touch [] q x = None
last_touch (st ∷ sts) q x = option_or (last_touch sts q x) (cond (touches st q x) (Some (puts st)) None)

-- what the step adds to the counter at the key
abbrev pub gain : Step → ℕ → ℕ → ℤ
gain (steps.Insert r row) d l = pos 0
gain (steps.Delete r pattern) d l = pos 0
gain (steps.Change c k by) d l = if (c == d) && (k == l) then by else pos 0

abbrev pub gains : List Step → ℕ → ℕ → ℤ
gains [] d l = pos 0
gains (st ∷ sts) d l = gain st d l +ℤ gains sts d l
