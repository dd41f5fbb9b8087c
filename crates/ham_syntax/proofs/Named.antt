-- Entries that are found by their names.
use Rattle.std.proofs.Common.{◌≡◌, ℕ, zero, suc, ◌+◌, ◌<◌, true, false, cond, List, [], ◌∷◌, length, map, Some, inl, inr, refl, sym, ap, subst, ◌∙◌, arith}
use Rattle.std.specs.Prelude.{nat_eq, slice_get, position}
use Rattle.std.specs.List.{AllByRecursion, IsDistinct, position_from}
use Rattle.std.specs.Cmp.Lexicographic.{pointwise, same_text, nat_list_eq_equiv}
use Rattle.std.proofs.lemmas.Iterator.Adapters.{position_from-zero}
use Rattle.std.proofs.lemmas.Option.{slice_get_cases, same_Some, none-some}
use Rattle.ham_syntax.specs.Objects.{name_by}

-- the entry at a place
pub there : {X : Type 0} (xs : List X) (i : ℕ) → i < length xs → (x : X) × (slice_get xs i ≡ Some x)
there xs i h = elim ((slice_get_cases xs i).1) [
  | inl p ↦ (p.0, p.2)
  | inr p ↦ absurd (let past = p.0 in omega arith)
]

differs_at : {X : Type 0} (name : X → List ℕ) (a : List ℕ) (xs : List X) (i : ℕ) (x : X) → AllByRecursion (λ b. pointwise nat_eq a b ≡ false) (map name xs) → slice_get xs i ≡ Some x → pointwise nat_eq a (name x) ≡ false
differs_at name a [] i x h e = absurd cc
differs_at name a (y ∷ ys) zero x h e = (let same : y ≡ x = cc in subst (λ z. pointwise nat_eq a (name z) ≡ false) same h.0)
differs_at name a (y ∷ ys) (suc i) x h e = differs_at name a ys i x h.1 e

place_from : {X : Type 0} (name : X → List ℕ) (xs : List X) (k i n : ℕ) (x : X) → IsDistinct (pointwise nat_eq) (map name xs) → slice_get xs i ≡ Some x → n ≡ k + i → position_from (λ y. pointwise nat_eq (name y) (name x)) k xs ≡ Some n
unfolding IsDistinct
place_from name [] k i n x apart e s = absurd cc
place_from name (y ∷ ys) k zero n x apart e s =
    let same : y ≡ x = cc in
    let here : pointwise nat_eq (name y) (name x) ≡ true = subst (λ z. pointwise nat_eq (name y) (name z) ≡ true) same (nat_list_eq_equiv.refl (name y)) in
    let at : k ≡ n = omega arith in
    rw here (ap Some at)
place_from name (y ∷ ys) k (suc i) n x apart e s =
    let other : pointwise nat_eq (name y) (name x) ≡ false = differs_at name (name y) ys i x apart.0 e in
    rw other (place_from name ys (k + 1) i n x apart.1 e (omega arith))

-- the place of an entry's name is the entry's, where names differ
pub place_of : {X : Type 0} (name : X → List ℕ) (xs : List X) (i : ℕ) (x : X) → IsDistinct (pointwise nat_eq) (map name xs) → slice_get xs i ≡ Some x → position (λ y. pointwise nat_eq (name y) (name x)) xs ≡ Some i
place_of name xs i x apart e = position_from-zero (λ y. pointwise nat_eq (name y) (name x)) xs ∙ place_from name xs 0 i i x apart e (omega arith)

pub named_read : {X : Type 0} (name : X → List ℕ) (xs : List X) (i : ℕ) → IsDistinct (pointwise nat_eq) (map name xs) → i < length xs → position (λ y. pointwise nat_eq (name y) (name_by name (slice_get xs i))) xs ≡ Some i
named_read name xs i apart h =
    let w = there xs i h in
    ap (λ o. position (λ y. pointwise nat_eq (name y) (name_by name o)) xs) w.1 ∙ place_of name xs i w.0 apart w.1

-- the entry that is found has the name
found_from : {X : Type 0} (name : X → List ℕ) (text : List ℕ) (i : ℕ) (xs : List X) (k : ℕ) → position_from (λ x. pointwise nat_eq (name x) text) i xs ≡ Some k → (j : ℕ) × (k ≡ i + j) × (j < length xs) × (name_by name (slice_get xs j) ≡ text)
found_from name text i [] k e = absurd (none-some k e)
found_from name text i (x ∷ xs) k e =
    elim (pointwise nat_eq (name x) text) as (λ b. pointwise nat_eq (name x) text ≡ b → cond b (Some i) (position_from (λ x. pointwise nat_eq (name x) text) (i + 1) xs) ≡ Some k → (j : ℕ) × (k ≡ i + j) × (j < suc (length xs)) × (name_by name (slice_get (x ∷ xs) j) ≡ text)) [
      | true ↦ λ t e. let same : i ≡ k = same_Some i k e in (0, omega arith, omega arith, same_text (name x) text (sym t))
      | false ↦ λ t e. let w = found_from name text (i + 1) xs k e in (suc w.0, omega (arith, w.1), omega (arith, w.2), w.3)
    ] refl e

pub named_is : {X : Type 0} (name : X → List ℕ) (xs : List X) (text : List ℕ) (k : ℕ) → position (λ x. pointwise nat_eq (name x) text) xs ≡ Some k → (k < length xs) × (name_by name (slice_get xs k) ≡ text)
named_is name xs text k e =
    let w = found_from name text 0 xs k (sym (position_from-zero (λ x. pointwise nat_eq (name x) text) xs) ∙ e) in
    let same : w.0 ≡ k = omega (arith, w.1) in
    (omega (arith, w.2), ap (λ j. name_by name (slice_get xs j)) (sym same) ∙ w.3)
