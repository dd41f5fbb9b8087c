-- The tally of a key is the number of rows there, and what one row more and one row less make of it.
use Rattle.std.proofs.Common.{inl, inr, ◌≡◌, ℕ, ◌+◌, ◌-◌, ◌<◌, ◌≤◌, Bool, true, false, cond, not, ◌&&◌, ◌||◌, List, [], ◌∷◌, refl, sym, ap, ◌∙◌, subst, arith, length, map}
use Rattle.std.specs.Prelude.{if◌then◌else◌, filter, ◌==◌, ℤ}
use Rattle.std.specs.List.{list_any, IsDistinct, AllByRecursion}
use Rattle.std.specs.FinMap as finmap
use Rattle.std.specs.HashMap.{HashMap}
use Rattle.std.specs.HashSet as bag
use Rattle.std.specs.HashSet.{HashSet}
use Rattle.std.specs.Ordering.{eq_by_cmp}
use Rattle.std.specs.Cmp.{IsEquivalence, nat_eq_equiv}
use Rattle.std.specs.Cmp.Lexicographic.{nat_list_eq_equiv}
use Rattle.std.proofs.lemmas.Bool.{and_parts, and_from, eqb-true, eq-eqb, true≢false, or_cases, false_from_ne_true}
use Rattle.std.proofs.lemmas.Map.Keys.{IsDistinct-cons, IsDistinct-head, IsDistinct-tail}
use Rattle.std.proofs.lemmas.Map.Made.{length-le_from_is_member}
use Rattle.std.proofs.lemmas.List.{length-map}
use Rattle.std.specs.Prelude.{T}
use Rattle.std.specs.FinMap.Entries.{is_sorted, below_all}
use Rattle.std.specs.declared.cmp.Ordering.{Ordering}
use Rattle.std.specs.declared.cmp.Ordering.TheVariants.{Less, Equal, Greater}
use Rattle.std.specs.Ordering.{is_lt, is_eq}
use Rattle.std.proofs.lemmas.Map.Views.{any-filter_same}
use Rattle.ham_content.specs.Numbers.{same, IsNumber}
use Rattle.ham_content.specs.Tallies.{has_at}
use Rattle.ham_content.proofs.Numbers.{alike, number_same, one_number, some_from_member}
use Rattle.ham_content.proofs.Tallied.{tallied_more, tallied_less}
use Rattle.ham_content.specs.declared.tables.FactKey.{FactKey}
use Rattle.ham_content.specs.declared.tables.Spot.{Spot}
use Rattle.ham_content.specs.Kept.{fact, same_fact, content}
use Rattle.ham_content.specs.Counted.{at_columns, tally}
use Rattle.ham_content.proofs.Contents.{has-content}
use Rattle.ham_steps.specs.Content as content_words
use Rattle.ham_steps.specs.Content.{fact_cmp, State, has, rows}
use Rattle.ham_steps.proofs.ContentLaws.{same_tests, any_row, row_any, fact_total, same-tied}

-- ---- the rows of a relation are apart
pub itself : (x : List ℕ) → same x x ≡ true
itself = nat_list_eq_equiv.refl

filter_keeps : {X : Type 0} (P : X → Type 0) (p : X → Bool) (xs : List X) → AllByRecursion P xs → AllByRecursion P (filter p xs)
filter_keeps P p [] h = tt
filter_keeps P p (x ∷ xs) h =
    elim (p x) as (λ b. AllByRecursion P (cond b (x ∷ filter p xs) (filter p xs))) [ true ↦ (h.0, filter_keeps P p xs h.1) | false ↦ filter_keeps P p xs h.1 ]

pub apart-filter : {X : Type 0} (eq : X → X → Bool) (p : X → Bool) (xs : List X) → IsDistinct eq xs → IsDistinct eq (filter p xs)
apart-filter eq p [] h = h
apart-filter eq p (x ∷ xs) h =
    let rest = apart-filter eq p xs (IsDistinct-tail eq x xs h) in
    elim (p x) as (λ b. IsDistinct eq (cond b (x ∷ filter p xs) (filter p xs))) [ true ↦ IsDistinct-cons eq x (filter p xs) (filter_keeps (λ y. eq x y ≡ false) p xs (IsDistinct-head eq x xs h)) rest | false ↦ rest ]

-- the facts of one relation that differ differ in their rows
second_apart : (r : ℕ) (f : content_words.Fact) (fs : List content_words.Fact) → (r == f.0) ≡ true → AllByRecursion (λ g. eq_by_cmp fact_cmp f g ≡ false) fs → AllByRecursion (λ y. same f.1 y ≡ false) (map (λ g. g.1) (filter (λ g. r == g.0) fs))
second_apart r f [] e h = tt
second_apart r f (g ∷ fs) e h =
    let rest = second_apart r f fs e h.1 in
    elim (r == g.0) as (λ b. (r == g.0) ≡ b → AllByRecursion (λ y. same f.1 y ≡ false) (map (λ z. z.1) (cond b (g ∷ filter (λ z. r == z.0) fs) (filter (λ z. r == z.0) fs)))) [
      | true ↦ λ a. (
        false_from_ne_true (same f.1 g.1) (λ s.
            let first : f.0 ≡ g.0 = sym (eqb-true r f.0 e) ∙ eqb-true r g.0 a in
            let second : f.1 ≡ g.1 = alike f.1 g.1 s in
            true≢false (sym (same-tied fact_total f g (λ i. (first i, second i))) ∙ h.0)),
        rest,
      )
      | false ↦ λ a. rest
    ] refl

rows_apart : (r : ℕ) (fs : List content_words.Fact) → IsDistinct (eq_by_cmp fact_cmp) fs → IsDistinct same (map (λ g. g.1) (filter (λ g. r == g.0) fs))
unfolding IsDistinct
rows_apart r [] h = tt
rows_apart r (f ∷ fs) h =
    elim (r == f.0) as (λ b. (r == f.0) ≡ b → IsDistinct same (map (λ z. z.1) (cond b (f ∷ filter (λ z. r == z.0) fs) (filter (λ z. r == z.0) fs)))) [
      | true ↦ λ a. (second_apart r f fs a h.0, rows_apart r fs h.1)
      | false ↦ λ a. rows_apart r fs h.1
    ] refl

first_T : (a b : Bool) → T (a && b) → T a
first_T true b h = tt
first_T false b h = h

second_T : (a b : Bool) → T (a && b) → T b
second_T true b h = h
second_T false b h = absurd h

not_tied : (o : Ordering) → T (is_lt o) → is_eq o ≡ false
not_tied Less h = refl
not_tied Equal h = absurd h
not_tied Greater h = refl

below_apart : (f : content_words.Fact) (es : List (content_words.Fact × Unit {0})) → T (below_all fact_cmp f es) → AllByRecursion (λ g. eq_by_cmp fact_cmp f g ≡ false) (map (λ e. e.0) es)
below_apart f [] h = tt
below_apart f (e ∷ es) h = (not_tied (fact_cmp f e.0) (first_T (is_lt (fact_cmp f e.0)) (below_all fact_cmp f es) h), below_apart f es (second_T (is_lt (fact_cmp f e.0)) (below_all fact_cmp f es) h))

keys_apart : (es : List (content_words.Fact × Unit {0})) → T (is_sorted fact_cmp es) → IsDistinct (eq_by_cmp fact_cmp) (map (λ e. e.0) es)
unfolding IsDistinct
keys_apart [] h = tt
keys_apart (e ∷ es) h = (below_apart e.0 es (first_T (below_all fact_cmp e.0 es) (is_sorted fact_cmp es) h), keys_apart es (second_T (below_all fact_cmp e.0 es) (is_sorted fact_cmp es) h))

pub apart-rows : (s : State) (r : ℕ) → IsDistinct same (rows s r)
unfolding rows
apart-rows s r = rows_apart r (finmap.keys s.facts) (keys_apart (finmap.entries s.facts) (finmap.entries_sorted s.facts))

-- a row is among the rows where the relation has it
pub among-rows : (s : State) (r : ℕ) (x : List ℕ) → list_any (same x) (rows s r) ≡ has s r x
among-rows s r x =
    same_tests _ _
    (λ e. let w = any_row s r (same x) e in subst (λ z. has s r z ≡ true) (sym (alike x w.0 w.2)) w.1)
    (λ e. row_any s r (same x) x e (itself x))

-- ---- the tally is a number
pub number-tally : (s : State) (r : ℕ) (columns k : List ℕ) → IsNumber (has_at (at_columns columns) (has s r) k) (tally s r columns k)
unfolding tally
number-tally s r columns k = record {
  those = filter (λ x. same (at_columns columns x) k) (rows s r);
  apart = apart-filter same (λ x. same (at_columns columns x) k) (rows s r) (apart-rows s r);
  all = λ x.
      any-filter_same (same x) (λ y. same (at_columns columns y) k) (same (at_columns columns x) k) (λ y e. ap (λ z. same (at_columns columns z) k) (sym (alike x y e))) (rows s r)
      ∙ ap (λ b. same (at_columns columns x) k && b) (among-rows s r x);
  many = refl;
}

-- ---- the same rows, one more, and one less
pub tally-same : (s t : State) (r : ℕ) (columns k : List ℕ) → ((x : List ℕ) → has t r x ≡ has s r x) → tally t r columns k ≡ tally s r columns k
tally-same s t r columns k e =
    let f = at_columns columns in
    one_number (has_at f (has t r) k) (tally t r columns k) (tally s r columns k) (number-tally t r columns k)
    (number_same (has_at f (has s r) k) (has_at f (has t r) k) (tally s r columns k) (λ x. ap (λ b. same (f x) k && b) (e x)) (number-tally s r columns k))

pub tally-more : (s t : State) (r : ℕ) (row columns k : List ℕ) → has s r row ≡ false → ((x : List ℕ) → has t r x ≡ (same row x || has s r x)) → tally t r columns k ≡ tally s r columns k + (if same (at_columns columns row) k then 1 else 0)
tally-more s t r row columns k absent more =
    one_number (has_at f (has t r) k) (tally t r columns k) (d k) (number-tally t r columns k) (tallied_more f (has s r) (has t r) (tally s r columns) d row absent more (λ q. refl) (number-tally s r columns) k) ∙ shape (same (f row) k) refl
  where
    f : List ℕ → List ℕ
    f = at_columns columns

    d : List ℕ → ℕ
    d q = if same (f row) q then tally s r columns (f row) + 1 else tally s r columns q

    shape : (b : Bool) → same (f row) k ≡ b → d k ≡ tally s r columns k + (if same (f row) k then 1 else 0)
    shape true e = ap (λ b. if b then tally s r columns (f row) + 1 else tally s r columns k) e ∙ ap (λ z. tally s r columns z + 1) (alike (f row) k e) ∙ sym (ap (λ b. tally s r columns k + (if b then 1 else 0)) e)
    shape false e = ap (λ b. if b then tally s r columns (f row) + 1 else tally s r columns k) e ∙ sym (ap (λ b. tally s r columns k + (if b then 1 else 0)) e ∙ omega arith)

pub tally-some : (s : State) (r : ℕ) (row columns : List ℕ) → has s r row ≡ true → 0 < tally s r columns (at_columns columns row)
tally-some s r row columns there =
    let f = at_columns columns in
    some_from_member (has_at f (has s r) (f row)) (tally s r columns (f row)) row (and_from (same (f row) (f row)) (has s r row) (itself (f row)) there) (number-tally s r columns (f row))

pub tally-less : (s t : State) (r : ℕ) (row columns k : List ℕ) → has s r row ≡ true → ((x : List ℕ) → has t r x ≡ (not (same row x) && has s r x)) → tally t r columns k + (if same (at_columns columns row) k then 1 else 0) ≡ tally s r columns k
tally-less s t r row columns k there less =
    ap (λ n. n + (if same (f row) k then 1 else 0)) (one_number (has_at f (has t r) k) (tally t r columns k) (d k) (number-tally t r columns k) (tallied_less f (has s r) (has t r) (tally s r columns) d row there less (λ q. shape q (same (f row) q) refl) (number-tally s r columns) k))
    ∙ shape k (same (f row) k) refl
  where
    f : List ℕ → List ℕ
    f = at_columns columns

    d : List ℕ → ℕ
    d q = tally s r columns q - (if same (f row) q then 1 else 0)

    shape : (q : List ℕ) (b : Bool) → same (f row) q ≡ b → d q + (if same (f row) q then 1 else 0) ≡ tally s r columns q
    shape q true e =
        let some : 0 < tally s r columns q = subst (λ z. 0 < tally s r columns z) (alike (f row) q e) (tally-some s r row columns there) in
        ap (λ b. (tally s r columns q - (if b then 1 else 0)) + (if b then 1 else 0)) e ∙ omega arith
    shape q false e = ap (λ b. (tally s r columns q - (if b then 1 else 0)) + (if b then 1 else 0)) e ∙ omega arith

-- ---- a tally is at most the number of facts
pub exact : (f g : FactKey) → same_fact f g ≡ true → f ≡ g
exact f g e = let p = and_parts (f.relation == g.relation) (same f.row g.row) e in
    let a = eqb-true f.relation g.relation p.0 in
    let b = alike f.row g.row p.1 in
    λ i. record { relation = a i; row = b i }

fact_laws : IsEquivalence same_fact
fact_laws = record {
  refl = λ f. and_from (f.relation == f.relation) (same f.row f.row) (eq-eqb f.relation f.relation refl) (itself f.row);
  symm = λ f g. (λ i. nat_eq_equiv.symm f.relation g.relation i && nat_list_eq_equiv.symm f.row g.row i);
  congr = λ f g h e. ap (λ z. same_fact z h) (exact f g e);
}

facts_apart : (r : ℕ) (xs : List (List ℕ)) → IsDistinct same xs → IsDistinct same_fact (map (fact r) xs)
unfolding IsDistinct
facts_apart r [] h = tt
facts_apart r (x ∷ xs) h = IsDistinct-cons same_fact (fact r x) (map (fact r) xs) (others xs (IsDistinct-head same x xs h)) (facts_apart r xs (IsDistinct-tail same x xs h))
  where
    others : (ys : List (List ℕ)) → AllByRecursion (λ y. same x y ≡ false) ys → AllByRecursion (λ g. same_fact (fact r x) g ≡ false) (map (fact r) ys)
    others [] a = tt
    others (y ∷ ys) a = ((λ i. eq-eqb r r refl i && a.0 i), others ys a.1)

among_facts : (r : ℕ) (q : FactKey) (xs : List (List ℕ)) → list_any (same_fact q) (map (fact r) xs) ≡ true → (q.relation ≡ r) × (list_any (same q.row) xs ≡ true)
among_facts r q [] e = absurd (true≢false (sym e))
among_facts r q (x ∷ xs) e =
    elim (or_cases (same_fact q (fact r x)) (list_any (same_fact q) (map (fact r) xs)) e) [
      | inl here ↦ let p = and_parts (q.relation == r) (same q.row x) here in (eqb-true q.relation r p.0, ap (λ b. b || list_any (same q.row) xs) p.1)
      | inr later ↦ let p = among_facts r q xs later in (p.0, or_later (same q.row x) (list_any (same q.row) xs) p.1)
    ]
  where
    or_later : (a b : Bool) → b ≡ true → (a || b) ≡ true
    or_later true b h = refl
    or_later false b h = h

pub tally-few : {S T : Type 0} (facts : HashSet FactKey S) (amounts : HashMap Spot ℤ T) (r : ℕ) (columns k : List ℕ) → tally (content facts amounts) r columns k ≤ bag.hash_set_len facts
tally-few facts amounts r columns k =
    let number = number-tally (content facts amounts) r columns k in
    let below : length (map (fact r) number.those) ≤ length facts.keys = length-le_from_is_member fact_laws (map (fact r) number.those) facts.keys (facts_apart r number.those number.apart) (λ q e.
    let w = among_facts r q number.those e in
    let there : has (content facts amounts) r q.row ≡ true = (and_parts (same (at_columns columns q.row) k) (has (content facts amounts) r q.row) (sym (number.all q.row) ∙ w.1)).1 in
    let named : fact r q.row ≡ q = (λ i. record { relation = sym w.0 i; row = q.row }) in
    ap (bag.contains same_fact facts) (sym named) ∙ sym (has-content facts amounts r q.row) ∙ there) in
    let many = number.many in
    omega (arith, length-map number.those (fact r))
