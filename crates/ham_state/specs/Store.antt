-- A state as contracts see it.
use Rattle.std.specs.Prelude.{ℕ, List}
use Rattle.ham_syntax.specs.declared.object.Invariant.{Invariant}
use Rattle.ham_steps.specs.Content.{State}

-- its content, the invariants of the object for which it was opened, and how many steps have room
pub record Store : Type 0 where
  pub content : State
  pub invariants : List Invariant
  pub spare : ℕ

abbrev pub store : State → List Invariant → ℕ → Store
store content invariants spare = record { content = content; invariants = invariants; spare = spare }
