-- What may be broken after steps and wasn't before: a key of a row that came, or one whose target went.
use Rattle.std.proofs.Common.{◌≡◌, ℕ, ◌<◌, ◌≤◌, Bool, true, false, not, ◌&&◌, ◌||◌, List, [], ◌∷◌, refl, sym, ap, ◌∙◌, subst, arith, length, inl, inr, ◌⊎◌}
use Rattle.std.specs.Prelude.{nat_lt}
use Rattle.std.specs.List.{list_any}
use Rattle.std.specs.Cmp.Lexicographic.{nat_list_eq_equiv}
use Rattle.std.proofs.lemmas.Bool.{and_parts, and_from, true≢false, ltb-true, ltb-false, or_left, or_right}
use Rattle.std.proofs.lemmas.Map.Made.{length-le_from_is_member}
use Rattle.ham_content.specs.Numbers.{same, IsNumber}
use Rattle.ham_content.specs.Tallies.{has_at}
use Rattle.ham_content.proofs.Numbers.{alike}

-- a list's first item is in it
some_item : (xs : List (List ℕ)) → 0 < length xs → (x : List ℕ) × (list_any (same x) xs ≡ true)
some_item [] l = absurd (omega arith)
some_item (x ∷ xs) l = (x, or_left (same x x) (list_any (same x) xs) (nat_list_eq_equiv.refl x))

-- one of the list fails the test, or all pass it
outside : (h : List ℕ → Bool) (xs : List (List ℕ)) → ((x : List ℕ) × (list_any (same x) xs ≡ true) × (h x ≡ false)) ⊎ ((x : List ℕ) → list_any (same x) xs ≡ true → h x ≡ true)
outside h [] = inr (λ x e. absurd (true≢false (sym e)))
outside h (y ∷ ys) = by (h y) refl (outside h ys)
  where
    pass : h y ≡ true → ((x : List ℕ) → list_any (same x) ys ≡ true → h x ≡ true) → (x : List ℕ) → (b : Bool) → same x y ≡ b → (b || list_any (same x) ys) ≡ true → h x ≡ true
    pass e all x true a o = subst (λ z. h z ≡ true) (sym (alike x y a)) e
    pass e all x false a o = all x o

    by : (b : Bool) → h y ≡ b → ((x : List ℕ) × (list_any (same x) ys ≡ true) × (h x ≡ false)) ⊎ ((x : List ℕ) → list_any (same x) ys ≡ true → h x ≡ true) → ((x : List ℕ) × (list_any (same x) (y ∷ ys) ≡ true) × (h x ≡ false)) ⊎ ((x : List ℕ) → list_any (same x) (y ∷ ys) ≡ true → h x ≡ true)
    by false e rest = inl (y, or_left (same y y) (list_any (same y) ys) (nat_list_eq_equiv.refl y), e)
    by true e (inl found) = inl (found.0, or_right (same found.0 y) (list_any (same found.0) ys) found.1, found.2)
    by true e (inr all) = inr (λ x o. pass e all x (same x y) refl o)

-- a row came at the key
abbrev pub Came : (List ℕ → List ℕ) → (List ℕ → Bool) → (List ℕ → Bool) → List ℕ → Type 0
Came f h g k = (x : List ℕ) × (f x ≡ k) × (g x ≡ true) × (h x ≡ false)

pub newly_above : (f : List ℕ → List ℕ) (h g : List ℕ → Bool) (limit : ℕ) (k : List ℕ) (c d : ℕ) → IsNumber (has_at f h k) c → IsNumber (has_at f g k) d → nat_lt limit c ≡ false → nat_lt limit d ≡ true → Came f h g k
newly_above f h g limit k c d before after was is = by (outside h after.those)
  where
    parts : (x : List ℕ) → list_any (same x) after.those ≡ true → (same (f x) k ≡ true) × (g x ≡ true)
    parts x e = and_parts (same (f x) k) (g x) (sym (after.all x) ∙ e)

    by : ((x : List ℕ) × (list_any (same x) after.those ≡ true) × (h x ≡ false)) ⊎ ((x : List ℕ) → list_any (same x) after.those ≡ true → h x ≡ true) → Came f h g k
    by (inl found) = let p = parts found.0 found.1 in (found.0, alike (f found.0) k p.0, p.1, found.2)
    by (inr all) = absurd (
        let below : length after.those ≤ length before.those = length-le_from_is_member nat_list_eq_equiv after.those before.those after.apart (λ q e. before.all q ∙ and_from (same (f q) k) (h q) (parts q e).0 (all q e)) in
        let low = ltb-false limit c was in
        let high = ltb-true limit d is in
        let many = before.many in
        let more = after.many in
        omega arith)

pub newly_referred : (f : List ℕ → List ℕ) (h g t u : List ℕ → Bool) (k : List ℕ) (c d : ℕ) → IsNumber (has_at f h k) c → IsNumber (has_at f g k) d → (nat_lt 0 c && not (t k)) ≡ false → (nat_lt 0 d && not (u k)) ≡ true → Came f h g k ⊎ ((t k ≡ true) × (u k ≡ false))
newly_referred f h g t u k c d before after was is = by (t k) refl
  where
    some : (nat_lt 0 d ≡ true) × (not (u k) ≡ true)
    some = and_parts (nat_lt 0 d) (not (u k)) is

    gone : (b : Bool) → not b ≡ true → b ≡ false
    gone true e = absurd (true≢false (sym e))
    gone false e = refl

    zero_by : t k ≡ false → (b : Bool) → nat_lt 0 c ≡ b → (b && not (t k)) ≡ false → nat_lt 0 c ≡ false
    zero_by e true a o = absurd (true≢false (sym (ap not e) ∙ o))
    zero_by e false a o = a

    by : (b : Bool) → t k ≡ b → Came f h g k ⊎ ((t k ≡ true) × (u k ≡ false))
    by true e = inr (e, gone (u k) some.1)
    by false e = inl (newly_above f h g 0 k c d before after (zero_by e (nat_lt 0 c) refl was) some.0)
