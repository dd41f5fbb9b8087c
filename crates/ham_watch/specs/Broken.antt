-- How many rows an invariant counts at a key, and which keys break it.
use Rattle.std.specs.Prelude.{ℕ, int_le, Bool, false, not, nat_lt, ◌&&◌, List, [], ◌∷◌, Option, Some, None, IsTrue, pos}
use Rattle.ham_syntax.specs.declared.object.Invariant.{Invariant}
use Rattle.ham_syntax.specs.declared.object.Invariant.TheVariants as invariants
use Rattle.ham_steps.specs.Content.{State, has, value}
use Rattle.ham_content.specs.Counted.{tally}

-- how many rows the invariant counts at a key
abbrev pub tally_of : State → Invariant → List ℕ → ℕ
tally_of s (invariants.Reference from columns to) k = tally s from columns k
tally_of s (invariants.Unique r columns) k = tally s r columns k
tally_of s (invariants.Low c limit) k = 0
tally_of s (invariants.High c limit) k = 0

-- is the list of ids a broken spot; of a counter it is its key alone
abbrev pub is_broken : State → Invariant → List ℕ → Bool
is_broken s (invariants.Reference from columns to) k = nat_lt 0 (tally s from columns k) && not (has s to k)
is_broken s (invariants.Unique r columns) k = nat_lt 1 (tally s r columns k)
is_broken s (invariants.Low c limit) [] = false
is_broken s (invariants.Low c limit) (k ∷ []) = not (int_le limit (value s c k))
is_broken s (invariants.Low c limit) (k ∷ j ∷ ks) = false
is_broken s (invariants.High c limit) [] = false
is_broken s (invariants.High c limit) (k ∷ []) = not (int_le (value s c k) limit)
is_broken s (invariants.High c limit) (k ∷ j ∷ ks) = false

-- the same of an invariant by its number
abbrev pub tally_at : State → Option Invariant → List ℕ → ℕ
tally_at s None k = 0
tally_at s (Some v) k = tally_of s v k

abbrev pub is_broken_at : State → Option Invariant → List ℕ → Bool
is_broken_at s None k = false
is_broken_at s (Some v) k = is_broken s v k

-- the opening state, where each counter is 0, keeps the invariant
abbrev pub OpensWell : Invariant → Type 0
OpensWell (invariants.Reference from columns to) = Unit {0}
OpensWell (invariants.Unique r columns) = Unit {0}
OpensWell (invariants.Low c limit) = IsTrue (int_le limit (pos 0))
OpensWell (invariants.High c limit) = IsTrue (int_le (pos 0) limit)
