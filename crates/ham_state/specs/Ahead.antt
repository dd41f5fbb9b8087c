-- Spots after steps, looked at before the steps are taken: of each step the spots that it may newly break.
use Rattle.std.specs.Prelude.{ℕ, Bool, true, not, ◌&&◌, ◌||◌, ◌==◌, List, [], ◌∷◌}
use Rattle.std.specs.List.{list_all}
use Rattle.ham_syntax.specs.declared.object.Invariant.{Invariant}
use Rattle.ham_syntax.specs.declared.object.Invariant.TheVariants as invariants
use Rattle.ham_steps.specs.declared.step.Step.{Step}
use Rattle.ham_steps.specs.declared.step.Step.TheVariants as steps
use Rattle.ham_steps.specs.Content.{State, has}
use Rattle.ham_steps.specs.Steps.{after_steps}
use Rattle.ham_steps.specs.Pattern.{matches}
use Rattle.ham_content.specs.declared.tables.FactKey.{FactKey}
use Rattle.ham_content.specs.Numbers.{same}
use Rattle.ham_content.specs.Counted.{at_columns}
use Rattle.ham_watch.specs.Broken.{is_broken}

-- the spot is sound after the steps
abbrev pub is_sound_after : State → Invariant → List Step → List ℕ → Bool
is_sound_after s v net k = not (is_broken (after_steps net s) v k)

-- the key of the row that the step inserts into the relation passes
abbrev pub insert_passes : (List ℕ → Bool) → ℕ → List ℕ → Step → Bool
insert_passes test r columns (steps.Insert q row) = not (q == r) || test (at_columns columns row)
insert_passes test r columns (steps.Delete q pattern) = true
insert_passes test r columns (steps.Change c k by) = true

-- each of these rows of the relation that the step deletes passes
abbrev pub delete_passes : (List ℕ → Bool) → ℕ → List FactKey → Step → Bool
delete_passes test r facts (steps.Insert q row) = true
delete_passes test r facts (steps.Delete q pattern) = not (q == r) || list_all (λ f. not ((f.relation == r) && matches pattern f.row) || test f.row) facts
delete_passes test r facts (steps.Change c k by) = true

-- the key at which the step changes the counter passes
abbrev pub change_passes : (List ℕ → Bool) → ℕ → Step → Bool
change_passes test c (steps.Insert q row) = true
change_passes test c (steps.Delete q pattern) = true
change_passes test c (steps.Change d k by) = not (d == c) || test (k ∷ [])

-- each spot that the step may newly break passes
abbrev pub spots_pass : (List ℕ → Bool) → Invariant → List FactKey → Step → Bool
spots_pass test (invariants.Reference from columns to) facts st = insert_passes test from columns st && delete_passes test to facts st
spots_pass test (invariants.Unique r columns) facts st = insert_passes test r columns st
spots_pass test (invariants.Low c limit) facts st = change_passes test c st
spots_pass test (invariants.High c limit) facts st = change_passes test c st

-- ---- a look at all rows
-- a row that is in the relation after the steps passes
abbrev pub unless_gone : State → List Step → ℕ → (List ℕ → Bool) → List ℕ → Bool
unless_gone s net r p x = not (has (after_steps net s) r x) || p x

-- the row that the step inserts into the relation passes
abbrev pub put_passes : (List ℕ → Bool) → ℕ → Step → Bool
put_passes test r (steps.Insert q row) = not (q == r) || test row
put_passes test r (steps.Delete q pattern) = true
put_passes test r (steps.Change c k by) = true

-- the row stands at another key
abbrev pub is_elsewhere : List ℕ → List ℕ → List ℕ → Bool
is_elsewhere columns k x = not (same (at_columns columns x) k)

-- of two rows one stands at another key, or they are one
abbrev pub may_stand_with : List ℕ → List ℕ → List ℕ → List ℕ → Bool
may_stand_with columns k x y = is_elsewhere columns k y || same x y

-- the row stands at another key, or alone among these
abbrev pub is_alone : List ℕ → List ℕ → List (List ℕ) → List ℕ → Bool
is_alone columns k xs x = is_elsewhere columns k x || list_all (may_stand_with columns k x) xs
