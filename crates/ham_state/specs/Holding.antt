-- When an invariant holds in a state.
use Rattle.std.specs.Prelude.{◌≡◌, ℕ, ◌≤ℤ◌, List, Option, Some, None, IsTrue}
use Rattle.ham_syntax.specs.declared.object.Invariant.{Invariant}
use Rattle.ham_syntax.specs.declared.object.Invariant.TheVariants as invariants
use Rattle.ham_steps.specs.Content.{State, has, value}
use Rattle.ham_content.specs.Counted.{at_columns}

-- the invariant holds in the state: of all rows, and of all keys
abbrev pub Holds : State → Invariant → Type 0
Holds s (invariants.Reference from columns to) = (x : List ℕ) → IsTrue (has s from x) → IsTrue (has s to (at_columns columns x))
Holds s (invariants.Unique r columns) = (x y : List ℕ) → IsTrue (has s r x) → IsTrue (has s r y) → at_columns columns x ≡ at_columns columns y → x ≡ y
Holds s (invariants.Low c limit) = (k : ℕ) → limit ≤ℤ value s c k
Holds s (invariants.High c limit) = (k : ℕ) → value s c k ≤ℤ limit

-- the same of an invariant by its number
abbrev pub HoldsBy : State → Option Invariant → Type 0
HoldsBy s None = Unit {0}
HoldsBy s (Some v) = Holds s v
