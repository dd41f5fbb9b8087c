-- The content of a made-up state, in its own words: which rows stand, and what counters hold.
use Rattle.std.specs.Prelude.{◌≡◌, ◌↔◌, ◌⊎◌, ℕ, ◌==◌, ℤ, pos, IsTrue, List, length, slice_get, Some, if◌then◌else◌}
use Rattle.std.specs.List.{AllByRecursion, list_any}
use Rattle.ham_syntax.specs.Objects.{Schema, columns_of}
use Rattle.ham_steps.specs.Content.{State, has, value}
use Rattle.ham_witness.specs.declared.kinds.Kinds.{Kinds}
use Rattle.ham_witness.specs.declared.kinds.RowKind.{RowKind}
use Rattle.ham_witness.specs.declared.kinds.CounterKind.{CounterKind}
use Rattle.ham_witness.specs.declared.ids.Ids.{Ids}
use Rattle.ham_witness.specs.Cases.{stands, value_by, keys_by}

-- one of the two ids
abbrev pub IsEither : Ids → ℕ → Type 0
IsEither ids x = (x ≡ ids.c) ⊎ (x ≡ ids.d)

-- a row over the two ids, of the relation's width, in a relation whose rows stand
pub record IsFilled (o : Schema) (ids : Ids) (kind : RowKind) (r : ℕ) (x : List ℕ) : Type 0 where
  pub stands : IsTrue (stands o kind r)
  pub width : slice_get (columns_of o) r ≡ Some (length x)
  pub over : AllByRecursion (IsEither ids) x

-- the kind's value at the counter's keys, and 0 elsewhere
abbrev pub made_value : Schema → Ids → CounterKind → ℕ → ℕ → ℤ
made_value o ids kind c k = if list_any (λ key. key == k) (keys_by ids (slice_get o.counters c)) then value_by o kind c else pos 0

pub record IsMadeUp (o : Schema) (ids : Ids) (kinds : Kinds) (s : State) : Type 0 where
  pub rows : (r : ℕ) (x : List ℕ) → IsTrue (has s r x) ↔ IsFilled o ids kinds.rows r x
  pub values : (c k : ℕ) → value s c k ≡ made_value o ids kinds.counters c k
