-- Two pairs of tables have one content exactly where what is compared of them is the same.
use Rattle.std.proofs.Common.{◌≡◌, ℕ, zero, suc, Bool, true, ◌&&◌, List, [], ◌∷◌, Option, Some, None, refl, sym, ap, ◌∙◌, inl, inr}
use Rattle.std.specs.Prelude.{ℤ, pos, ◌==◌, ◌↔◌, unwrap_or, slice_get}
use Rattle.std.specs.List.{list_all, list_any}
use Rattle.std.specs.Ordering.{int_eq}
use Rattle.std.specs.Map.{lookup}
use Rattle.std.specs.HashMap as hash
use Rattle.std.specs.HashMap.{HashMap}
use Rattle.std.specs.HashSet as bag
use Rattle.std.specs.HashSet.{HashSet}
use Rattle.std.specs.Cmp.{IsEquivalence, nat_eq_equiv}
use Rattle.std.proofs.lemmas.Bool.{and_parts, and_from, or_cases, or_left, or_right, eqb-true, eq-eqb, true≢false}
use Rattle.std.specs.Cmp.{signed_Decides}
use Rattle.std.proofs.lemmas.Map.Entries.{place_from_lookup, lookup_from_place}
use Rattle.std.proofs.lemmas.Option.{none-some, same_Some}
use Rattle.ham_content.specs.declared.tables.FactKey.{FactKey}
use Rattle.ham_content.specs.declared.tables.Spot.{Spot}
use Rattle.ham_content.specs.Kept.{fact, spot, same_fact, same_spot, content}
use Rattle.ham_state.specs.Equal.{are_among, agree, same_facts, same_amounts}
use Rattle.ham_content.proofs.Contents.{has-content, value-content}
use Rattle.ham_content.proofs.Tallies.{exact}
use Rattle.ham_content.proofs.Matched.{fact_itself}
use Rattle.ham_steps.specs.Content.{has, value}
use Rattle.ham_steps.proofs.ContentLaws.{same_state, same_tests}

all_at : {A : Type 0} (p : A → Bool) (xs : List A) (i : ℕ) (x : A) → list_all p xs ≡ true → slice_get xs i ≡ Some x → p x ≡ true
all_at p [] i x all is = absurd (none-some x is)
all_at p (y ∷ xs) zero x all is = ap p (sym (same_Some y x is)) ∙ (and_parts (p y) (list_all p xs) all).0
all_at p (y ∷ xs) (suc i) x all is = all_at p xs i x (and_parts (p y) (list_all p xs) all).1 is

all_from : {A : Type 0} (p : A → Bool) (xs : List A) → ((i : ℕ) (x : A) → slice_get xs i ≡ Some x → p x ≡ true) → list_all p xs ≡ true
all_from p [] each = refl
all_from p (x ∷ xs) each = and_from _ _ (each 0 x refl) (all_from p xs (λ i y is. each (suc i) y is))

-- ---- facts
among : (p : FactKey → Bool) (xs : List FactKey) (q : FactKey) → list_all p xs ≡ true → list_any (same_fact q) xs ≡ true → p q ≡ true
among p [] q all e = absurd (true≢false (sym e))
among p (x ∷ xs) q all e =
    let w = and_parts (p x) (list_all p xs) all in
    elim (or_cases (same_fact q x) (list_any (same_fact q) xs) e) [
      | inl here ↦ ap p (exact q x here) ∙ w.0
      | inr later ↦ among p xs q w.1 later
    ]

member : (xs : List FactKey) (i : ℕ) (x : FactKey) → slice_get xs i ≡ Some x → list_any (same_fact x) xs ≡ true
member [] i x is = absurd (none-some x is)
member (y ∷ xs) zero x is = or_left (same_fact x y) _ (ap (same_fact x) (same_Some y x is) ∙ fact_itself x)
member (y ∷ xs) (suc i) x is = or_right (same_fact x y) _ (member xs i x is)

-- ---- amounts
exact_spot : (a b : Spot) → same_spot a b ≡ true → a ≡ b
exact_spot a b e = let p = and_parts (a.counter == b.counter) (a.key == b.key) e in
    let x = eqb-true a.counter b.counter p.0 in
    let y = eqb-true a.key b.key p.1 in
    λ i. record { counter = x i; key = y i }

spot_laws : IsEquivalence same_spot
spot_laws = record {
  refl = λ s. and_from (s.counter == s.counter) (s.key == s.key) (eq-eqb s.counter s.counter refl) (eq-eqb s.key s.key refl);
  symm = λ s t. (λ i. nat_eq_equiv.symm s.counter t.counter i && nat_eq_equiv.symm s.key t.key i);
  congr = λ s t u e. ap (λ z. same_spot z u) (exact_spot s t e);
}

-- where one table has an amount, the other is at it
where_some : {S T : Type 0} (amounts : HashMap Spot ℤ S) (others : HashMap Spot ℤ T) → agree amounts others ≡ true → (s : Spot) (n : ℤ) → lookup (same_spot s) amounts.entries ≡ Some n → unwrap_or (hash.get same_spot others s) (pos 0) ≡ n
where_some amounts others all s n e =
    let w = place_from_lookup (same_spot s) amounts.entries n e in
    let is = all_at (λ (e : Spot × ℤ). int_eq (unwrap_or (hash.get same_spot others e.0) (pos 0)) e.1) amounts.entries w.0 (w.1, n) all w.2 in
    ap (λ z. unwrap_or (hash.get same_spot others z) (pos 0)) (exact_spot s w.1 w.3) ∙ (signed_Decides _ n).0 is

-- so the two are at the same number everywhere
both : {S T : Type 0} (amounts : HashMap Spot ℤ S) (others : HashMap Spot ℤ T) → agree amounts others ≡ true → agree others amounts ≡ true → (s : Spot) (o p : Option ℤ) → lookup (same_spot s) amounts.entries ≡ o → lookup (same_spot s) others.entries ≡ p → unwrap_or o (pos 0) ≡ unwrap_or p (pos 0)
both amounts others one two s (Some n) p e f = sym (where_some amounts others one s n e) ∙ ap (λ u. unwrap_or u (pos 0)) f
both amounts others one two s None (Some n) e f = sym (ap (λ u. unwrap_or u (pos 0)) e) ∙ where_some others amounts two s n f
both amounts others one two s None None e f = refl

-- and where they are, they agree
agree_if : {S T : Type 0} (amounts : HashMap Spot ℤ S) (others : HashMap Spot ℤ T) → hash.IsUnique same_spot amounts → ((s : Spot) → unwrap_or (hash.get same_spot others s) (pos 0) ≡ unwrap_or (hash.get same_spot amounts s) (pos 0)) → agree amounts others ≡ true
agree_if amounts others unique e =
    all_from (λ (e : Spot × ℤ). int_eq (unwrap_or (hash.get same_spot others e.0) (pos 0)) e.1) amounts.entries (λ i x is.
    (signed_Decides _ x.1).1 (e x.0 ∙ ap (λ u. unwrap_or u (pos 0)) (lookup_from_place spot_laws amounts.entries i x.0 x.1 unique is)))

among_if : {S T : Type 0} (facts : HashSet FactKey S) (others : HashSet FactKey T) → ((f : FactKey) → bag.contains same_fact facts f ≡ bag.contains same_fact others f) → are_among facts others ≡ true
among_if facts others e = all_from (bag.contains same_fact others) facts.keys (λ i x is. sym (e x) ∙ member facts.keys i x is)

module _ {S T U V : Type 0} (facts : HashSet FactKey S) (amounts : HashMap Spot ℤ T) (others : HashSet FactKey U) (numbers : HashMap Spot ℤ V) where
  one_content : (same_facts facts others && same_amounts amounts numbers) ≡ true → content facts amounts ≡ content others numbers
  one_content e =
      let w = and_parts (same_facts facts others) (same_amounts amounts numbers) e in
      let f = and_parts (are_among facts others) (are_among others facts) w.0 in
      let a = and_parts (agree amounts numbers) (agree numbers amounts) w.1 in
      same_state _ _
      (λ q x. has-content facts amounts q x
      ∙ same_tests _ _ (λ h. among (bag.contains same_fact others) facts.keys (fact q x) f.0 h) (λ h. among (bag.contains same_fact facts) others.keys (fact q x) f.1 h)
      ∙ sym (has-content others numbers q x))
      (λ c k. value-content facts amounts c k
      ∙ both amounts numbers a.0 a.1 (spot c k) (lookup (same_spot (spot c k)) amounts.entries) (lookup (same_spot (spot c k)) numbers.entries) refl refl
      ∙ sym (value-content others numbers c k))

  pub content_is : hash.IsUnique same_spot amounts → hash.IsUnique same_spot numbers → (b : Bool) → b ≡ (same_facts facts others && same_amounts amounts numbers) → b ≡ true ↔ (content facts amounts ≡ content others numbers)
  content_is unique apart b is = (
    λ e. one_content (sym is ∙ e),
    λ e.
        let there : (f : FactKey) → bag.contains same_fact facts f ≡ bag.contains same_fact others f = λ f. sym (has-content facts amounts f.relation f.row) ∙ ap (λ s. has s f.relation f.row) e ∙ has-content others numbers f.relation f.row in
        let number : (s : Spot) → unwrap_or (hash.get same_spot amounts s) (pos 0) ≡ unwrap_or (hash.get same_spot numbers s) (pos 0) = λ s. sym (value-content facts amounts s.counter s.key) ∙ ap (λ z. value z s.counter s.key) e ∙ value-content others numbers s.counter s.key in
        is ∙ and_from (same_facts facts others) (same_amounts amounts numbers)
        (and_from (are_among facts others) (are_among others facts) (among_if facts others there) (among_if others facts (λ f. sym (there f))))
        (and_from (agree amounts numbers) (agree numbers amounts) (agree_if amounts numbers unique (λ s. sym (number s))) (agree_if numbers amounts apart number)),
  )
