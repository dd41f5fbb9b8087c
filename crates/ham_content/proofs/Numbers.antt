-- A number goes up by one where one more passes, and down by one where one less does.
use Rattle.std.proofs.Common.{◌≡◌, ℕ, zero, suc, ◌+◌, ◌<◌, Bool, true, false, cond, not, ◌&&◌, ◌||◌, List, [], ◌∷◌, refl, sym, ap, ◌∙◌, subst, arith, length}
use Rattle.std.specs.List.{list_any, IsDistinct, AllByRecursion}
use Rattle.std.specs.Set.{remove_key}
use Rattle.std.specs.Cmp.Lexicographic.{nat_list_eq_equiv, same_text}
use Rattle.std.proofs.lemmas.Bool.{or_parts, or_from, true≢false}
use Rattle.std.proofs.lemmas.Map.Keys.{IsDistinct-cons, IsDistinct-head, IsDistinct-tail}
use Rattle.std.proofs.lemmas.Map.Made.{length-remove_key, length-from_same_keys}
use Rattle.ham_content.specs.Numbers.{same, IsNumber}

-- what is alike is one
pub alike : (x y : List ℕ) → same x y ≡ true → x ≡ y
alike x y e = same_text x y (sym e)

pub none_pass : (t : List ℕ → Bool) (xs : List (List ℕ)) → list_any t xs ≡ false → AllByRecursion (λ y. t y ≡ false) xs
none_pass t [] e = tt
none_pass t (x ∷ xs) e = let h = or_parts (t x) (list_any t xs) e in (h.0, none_pass t xs h.1)

any_none : (t : List ℕ → Bool) (xs : List (List ℕ)) → AllByRecursion (λ y. t y ≡ false) xs → list_any t xs ≡ false
any_none t [] h = refl
any_none t (x ∷ xs) h = or_from (t x) (list_any t xs) h.0 (any_none t xs h.1)

all_without : (P : List ℕ → Type 0) (t : List ℕ → Bool) (ys : List (List ℕ)) → AllByRecursion P ys → AllByRecursion P (remove_key t ys)
all_without P t [] h = tt
all_without P t (y ∷ ys) h =
    elim (t y) as (λ b. AllByRecursion P (cond b ys (y ∷ remove_key t ys))) [ true ↦ h.1 | false ↦ (h.0, all_without P t ys h.1) ]

distinct_without : (t : List ℕ → Bool) (ys : List (List ℕ)) → IsDistinct same ys → IsDistinct same (remove_key t ys)
distinct_without t [] h = h
distinct_without t (y ∷ ys) h =
    let head = IsDistinct-head same y ys h in
    let tail = IsDistinct-tail same y ys h in
    elim (t y) as (λ b. IsDistinct same (cond b ys (y ∷ remove_key t ys))) [ true ↦ tail | false ↦ IsDistinct-cons same y (remove_key t ys) (all_without (λ z. same y z ≡ false) t ys head) (distinct_without t ys tail) ]

any_without : (k x : List ℕ) (ys : List (List ℕ)) → IsDistinct same ys → list_any (same x) (remove_key (same k) ys) ≡ (not (same k x) && list_any (same x) ys)
any_without k x [] h = elim (same k x) as (λ b. false ≡ (not b && false)) [ true ↦ refl | false ↦ refl ]
any_without k x (y ∷ ys) h = by (any_without k x ys (IsDistinct-tail same y ys h)) (same k y) refl (same k x) refl
  where
    head : AllByRecursion (λ z. same y z ≡ false) ys
    head = IsDistinct-head same y ys h

    by : list_any (same x) (remove_key (same k) ys) ≡ (not (same k x) && list_any (same x) ys) → (b : Bool) → same k y ≡ b → (c : Bool) → same k x ≡ c → list_any (same x) (cond b ys (y ∷ remove_key (same k) ys)) ≡ (not c && (same x y || list_any (same x) ys))
    by rest true here true there =
        subst (λ z. list_any (same z) ys ≡ false) (sym (alike k y here) ∙ alike k x there) (any_none (same y) ys head)
    by rest true here false there =
        let other : same x y ≡ false = subst (λ z. same x z ≡ false) (alike k y here) (nat_list_eq_equiv.symm x k ∙ there) in
        sym (ap (λ b. b || list_any (same x) ys) other)
    by rest false here true there =
        let other : same x y ≡ false = subst (λ z. same z y ≡ false) (alike k x there) here in
        or_from (same x y) (list_any (same x) (remove_key (same k) ys)) other (rest ∙ ap (λ b. not b && list_any (same x) ys) there)
    by rest false here false there = ap (λ b. same x y || b) (rest ∙ ap (λ b. not b && list_any (same x) ys) there)

-- ---- the same lists pass
pub number_same : (p q : List ℕ → Bool) (n : ℕ) → ((x : List ℕ) → q x ≡ p x) → IsNumber p n → IsNumber q n
number_same p q n e h = record { those = h.those; apart = h.apart; all = λ x. h.all x ∙ sym (e x); many = h.many }

-- ---- one more passes
pub number_gain : (p q : List ℕ → Bool) (k : List ℕ) (n : ℕ) → p k ≡ false → ((x : List ℕ) → q x ≡ (same k x || p x)) → IsNumber p n → IsNumber q (n + 1)
number_gain p q k n absent step h =
    record {
      those = k ∷ h.those;
      apart = IsDistinct-cons same k h.those (none_pass (same k) h.those (h.all k ∙ absent)) h.apart;
      all = λ x. (λ i. nat_list_eq_equiv.symm x k i || h.all x i) ∙ sym (step x);
      many = let e = h.many in omega arith;
    }

-- ---- one less passes
pub number_loss : (p q : List ℕ → Bool) (k : List ℕ) (n m : ℕ) → p k ≡ true → ((x : List ℕ) → q x ≡ (not (same k x) && p x)) → m + 1 ≡ n → IsNumber p n → IsNumber q m
number_loss p q k n m there step fewer h =
    record {
      those = remove_key (same k) h.those;
      apart = distinct_without (same k) h.those h.apart;
      all = λ x. any_without k x h.those h.apart ∙ ap (λ b. not (same k x) && b) (h.all x) ∙ sym (step x);
      many = let e = h.many in let l = length-remove_key (same k) h.those (h.all k ∙ there) in omega arith;
    }

-- ---- a number is one number, and 0 exactly where none passes
pub one_number : (p : List ℕ → Bool) (n m : ℕ) → IsNumber p n → IsNumber p m → n ≡ m
one_number p n m h g = sym h.many ∙ length-from_same_keys nat_list_eq_equiv h.those g.those h.apart g.apart (λ x. h.all x ∙ sym (g.all x)) ∙ g.many

no_members : (xs : List (List ℕ)) → length xs ≡ 0 → (x : List ℕ) → list_any (same x) xs ≡ false
no_members [] e x = refl
no_members (y ∷ xs) e x = absurd (omega arith)

pub none_at_zero : (p : List ℕ → Bool) → IsNumber p 0 → (x : List ℕ) → p x ≡ false
none_at_zero p h x = sym (h.all x) ∙ no_members h.those h.many x

pub zero_from_none : (p : List ℕ → Bool) → ((x : List ℕ) → p x ≡ false) → IsNumber p 0
unfolding IsDistinct
zero_from_none p e = record { those = []; apart = tt; all = λ x. sym (e x); many = refl }

pub some_from_member : (p : List ℕ → Bool) (n : ℕ) (x : List ℕ) → p x ≡ true → IsNumber p n → 0 < n
some_from_member p zero x e h = absurd (true≢false (sym e ∙ none_at_zero p h x))
some_from_member p (suc n) x e h = omega arith
