-- How many rows of a relation have given ids at some columns.
use Rattle.std.specs.Prelude.{ℕ, ◌-◌, List, map, filter, length, slice_index}
use Rattle.ham_steps.specs.Content.{State, rows}
use Rattle.ham_content.specs.Numbers.{same}

-- the row's ids at the columns, in that order; columns count from 1
abbrev pub at_columns : List ℕ → List ℕ → List ℕ
at_columns columns row = map (λ c. slice_index row (c - 1)) columns

-- how many rows of the relation have these ids at the columns
unfoldable pub tally : State → ℕ → List ℕ → List ℕ → ℕ
tally s r columns k = length (filter (λ x. same (at_columns columns x) k) (rows s r))
