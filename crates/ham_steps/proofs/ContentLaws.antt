-- What is seen of a state after each change, and that two states that look alike are one.
use Rattle.std.proofs.Common.{◌≡◌, ℕ, zero, suc, Bool, true, false, cond, not, ◌&&◌, ◌||◌, eqb, List, [], ◌∷◌, Option, Some, None, is_some, map, refl, sym, ap, ◌∙◌, subst, inl, inr, arith}
use Rattle.std.specs.Prelude.{ℤ, pos, negsuc, ◌+ℤ◌, if◌then◌else◌, ◌==◌, filter}
use Rattle.std.specs.List.{list_any, list_all}
use Rattle.std.specs.declared.cmp.Ordering.{Ordering}
use Rattle.std.specs.declared.cmp.Ordering.TheVariants.{Equal}
use Rattle.std.specs.Ordering.{nat_cmp, eq_by_cmp, is_eq}
use Rattle.std.specs.Cmp.{IsTotalOrder, Equal-is, tied_itself, nat_cmp_total}
use Rattle.std.specs.Cmp.Lexicographic.{slice_cmp, nat_list_cmp_total}
use Rattle.std.specs.FinSet as set
use Rattle.std.specs.FinMap as finmap
use Rattle.std.proofs.lemmas.Cmp.{then_total, on_total}
use Rattle.std.proofs.lemmas.Map.Lookups.{exact_pairs, exact_unsigned, exact_bytes}
use Rattle.std.proofs.lemmas.Int.{ints}
use Rattle.std.proofs.lemmas.Bool.{and_parts, and_from, eqb-true, eq-eqb, true≢false, or_cases, or_left, or_right, true_from_ne_false, false_from_ne_true, both_ways, not-true, not_from_false}
use Rattle.ham_syntax.specs.declared.term.Term.TheVariants.{Const}
use Rattle.ham_steps.specs.Pattern.{matches, is_row}
use Rattle.ham_steps.specs.Content.{Fact, fact_cmp, Spot, spot_cmp, amount, entry, State, has, value, rows, opening, with_row, without_rows, put_amount, with_change}

-- ---- tests
pub same_tests : (a b : Bool) → (a ≡ true → b ≡ true) → (b ≡ true → a ≡ true) → a ≡ b
same_tests true b f g = sym (f refl)
same_tests false true f g = absurd (true≢false (sym (g refl)))
same_tests false false f g = refl

-- ---- the two orders tell all keys apart
pub fact_total : IsTotalOrder fact_cmp
fact_total = then_total (on_total (λ (f : Fact). f.0) nat_cmp_total) (on_total (λ (f : Fact). f.1) nat_list_cmp_total)

pub fact_exact : (x y : Fact) → fact_cmp x y ≡ Equal → x ≡ y
fact_exact = exact_pairs nat_cmp (slice_cmp nat_cmp) exact_unsigned exact_bytes

pub spot_total : IsTotalOrder spot_cmp
spot_total = then_total (on_total (λ (f : Spot). f.0) nat_cmp_total) (on_total (λ (f : Spot). f.1) nat_cmp_total)

pub spot_exact : (x y : Spot) → spot_cmp x y ≡ Equal → x ≡ y
spot_exact = exact_pairs nat_cmp nat_cmp exact_unsigned exact_unsigned

-- an order's test, where it tells keys apart
pub tied-same : {K : Type 0} {R : K → K → Ordering} → ((x y : K) → R x y ≡ Equal → x ≡ y) → (x y : K) → eq_by_cmp R x y ≡ true → x ≡ y
tied-same {R = R} exact x y e = exact x y ((Equal-is (R x y)).0 e)

pub same-tied : {K : Type 0} {R : K → K → Ordering} → IsTotalOrder R → (x y : K) → x ≡ y → eq_by_cmp R x y ≡ true
same-tied {R = R} o x y e = subst (λ z. eq_by_cmp R x z ≡ true) e (ap is_eq (tied_itself o x))

-- ---- a row is itself alone
pub is_row-same : (row x : List ℕ) → is_row row x ≡ true → row ≡ x
is_row-same [] [] e = refl
is_row-same [] (x ∷ xs) e = absurd (true≢false (sym e))
is_row-same (r ∷ rs) [] e = absurd (true≢false (sym e))
is_row-same (r ∷ rs) (x ∷ xs) e =
    let p = and_parts (eqb r x) (matches (map Const rs) xs) e in
    let a = eqb-true r x p.0 in
    let b = is_row-same rs xs p.1 in
    cc

pub is_row-itself : (row : List ℕ) → is_row row row ≡ true
is_row-itself [] = refl
is_row-itself (r ∷ rs) = and_from _ _ (eq-eqb r r refl) (is_row-itself rs)

-- the set's test is that of the relation and the row
pub tied_fact : (r q : ℕ) (row x : List ℕ) → eq_by_cmp fact_cmp (q, x) (r, row) ≡ ((r == q) && is_row row x)
tied_fact r q row x =
    same_tests _ _
    (λ e. let same = tied-same fact_exact (q, x) (r, row) e in
    and_from _ _ (eq-eqb r q (sym (ap (λ (f : Fact). f.0) same))) (subst (λ z. is_row row z ≡ true) (sym (ap (λ (f : Fact). f.1) same)) (is_row-itself row)))
    (λ e. let p = and_parts (r == q) (is_row row x) e in
    let a = eqb-true r q p.0 in
    let b = is_row-same row x p.1 in
    let both : ◌≡◌ {A = Fact} (q, x) (r, row) = cc in
    same-tied fact_total (q, x) (r, row) both)

pub tied_spot : (c d k l : ℕ) → eq_by_cmp spot_cmp (d, l) (c, k) ≡ ((c == d) && (k == l))
tied_spot c d k l =
    same_tests _ _
    (λ e. let same = tied-same spot_exact (d, l) (c, k) e in
    and_from _ _ (eq-eqb c d (sym (ap (λ (f : Spot). f.0) same))) (eq-eqb k l (sym (ap (λ (f : Spot). f.1) same))))
    (λ e. let p = and_parts (c == d) (k == l) e in
    let a = eqb-true c d p.0 in
    let b = eqb-true k l p.1 in
    let both : ◌≡◌ {A = Spot} (d, l) (c, k) = cc in
    same-tied spot_total (d, l) (c, k) both)

-- ---- rows
is_some_or : (b : Bool) (x : Option (Unit {0})) → is_some (cond b (Some tt) x) ≡ (b || is_some x)
is_some_or true x = refl
is_some_or false x = refl

is_some_and : (b : Bool) (x : Option (Unit {0})) → is_some (cond b x None) ≡ (is_some x && b)
is_some_and true None = refl
is_some_and true (Some u) = refl
is_some_and false None = refl
is_some_and false (Some u) = refl

pub there-insert : (m : set.FinSet fact_cmp) (k q : Fact) → finmap.contains_key (finmap.insert m k tt) q ≡ (eq_by_cmp fact_cmp q k || finmap.contains_key m q)
there-insert m k q = ap is_some (finmap.get-insert fact_total m k tt q) ∙ is_some_or (eq_by_cmp fact_cmp q k) (finmap.get m q)

pub has-opening : (r : ℕ) (x : List ℕ) → has opening r x ≡ false
unfolding has opening
has-opening r x = ap is_some (finmap.get-empty {X = Unit {0}} fact_cmp (r, x))

pub has-with_row : (s : State) (r : ℕ) (row : List ℕ) (q : ℕ) (x : List ℕ) → has (with_row s r row) q x ≡ (((r == q) && is_row row x) || has s q x)
unfolding has with_row
has-with_row s r row q x = there-insert s.facts (r, row) (q, x) ∙ ap (λ b. b || finmap.contains_key s.facts (q, x)) (tied_fact r q row x)

pub has-without_rows : (s : State) (r : ℕ) (p : List ℕ → Bool) (q : ℕ) (x : List ℕ) → has (without_rows s r p) q x ≡ (has s q x && not ((r == q) && p x))
unfolding has without_rows
has-without_rows s r p q x =
    ap is_some (finmap.get-retain_keys s.facts (λ f. not ((r == f.0) && p f.1)) (q, x) (λ y e. ap (λ (f : Fact). not ((r == f.0) && p f.1)) (sym (fact_exact (q, x) y e))))
    ∙ is_some_and (not ((r == q) && p x)) (finmap.get s.facts (q, x))

pub has-with_change : (s : State) (c k : ℕ) (by : ℤ) (q : ℕ) (x : List ℕ) → has (with_change s c k by) q x ≡ has s q x
unfolding has with_change
has-with_change s c k by q x = refl

-- ---- amounts
pub amount-entry : (z : ℤ) → amount (entry z) ≡ z
amount-entry (pos zero) = refl
amount-entry (pos (suc n)) = refl
amount-entry (negsuc n) = refl

entry-amount : (e : Option ℤ) → entry (amount e) ≡ e
entry-amount None = refl
entry-amount (Some (pos n)) = refl
entry-amount (Some (negsuc n)) = refl

pub amount-alone : (e f : Option ℤ) → amount e ≡ amount f → e ≡ f
amount-alone e f h = sym (entry-amount e) ∙ ap entry h ∙ entry-amount f

pub add_none : (z : ℤ) → z ≡ z +ℤ pos 0
add_none z = omega (arith, ints)

pub value-opening : (c k : ℕ) → value opening c k ≡ pos 0
unfolding value opening
value-opening c k = ap amount (finmap.get-empty {X = ℤ} spot_cmp (c, k))

pub value-with_row : (s : State) (r : ℕ) (row : List ℕ) (c k : ℕ) → value (with_row s r row) c k ≡ value s c k
unfolding value with_row
value-with_row s r row c k = refl

pub value-without_rows : (s : State) (r : ℕ) (p : List ℕ → Bool) (c k : ℕ) → value (without_rows s r p) c k ≡ value s c k
unfolding value without_rows
value-without_rows s r p c k = refl

pub get-put_amount : (m : finmap.FinMap spot_cmp ℤ) (k : Spot) (e : Option ℤ) (q : Spot) → finmap.get (put_amount m k e) q ≡ cond (eq_by_cmp spot_cmp q k) e (finmap.get m q)
get-put_amount m k None q = finmap.get-remove spot_total m k q
get-put_amount m k (Some e) q = finmap.get-insert spot_total m k e q

chosen_amount : (s : State) (c k : ℕ) (by : ℤ) (d l : ℕ) (b : Bool) → ((c == d) && (k == l)) ≡ b → amount (cond b (entry (value s c k +ℤ by)) (finmap.get s.amounts (d, l))) ≡ (value s d l +ℤ cond b by (pos 0))
unfolding value
chosen_amount s c k by d l true e =
    let p = and_parts (c == d) (k == l) e in
    amount-entry _ ∙ ap (λ (q : Spot). amount (finmap.get s.amounts q) +ℤ by) (λ i. (eqb-true c d p.0 i, eqb-true k l p.1 i))
chosen_amount s c k by d l false e = add_none _

pub value-with_change : (s : State) (c k : ℕ) (by : ℤ) (d l : ℕ) → value (with_change s c k by) d l ≡ (value s d l +ℤ (if (c == d) && (k == l) then by else pos 0))
unfolding value with_change
value-with_change s c k by d l =
    ap amount (get-put_amount s.amounts (c, k) (entry (value s c k +ℤ by)) (d, l))
    ∙ ap (λ b. amount (cond b (entry (value s c k +ℤ by)) (finmap.get s.amounts (d, l)))) (tied_spot c d k l)
    ∙ chosen_amount s c k by d l ((c == d) && (k == l)) refl

-- ---- what is seen is all there is
pub same_mark : (x y : Option (Unit {0})) → is_some x ≡ is_some y → x ≡ y
same_mark None None e = refl
same_mark None (Some u) e = absurd (true≢false (sym e))
same_mark (Some u) None e = absurd (true≢false e)
same_mark (Some u) (Some v) e = refl

pub same_facts : (s t : set.FinSet fact_cmp) → ((q : Fact) → finmap.contains_key s q ≡ finmap.contains_key t q) → s ≡ t
same_facts s t is = finmap.same_map fact_total fact_exact s t (λ q. same_mark _ _ (is q))

pub same_state : (s t : State) → ((r : ℕ) (x : List ℕ) → has s r x ≡ has t r x) → ((c k : ℕ) → value s c k ≡ value t c k) → s ≡ t
unfolding has value
same_state s t rows_same values_same =
    let f : s.facts ≡ t.facts = same_facts s.facts t.facts (λ q. rows_same q.0 q.1) in
    let a : s.amounts ≡ t.amounts = finmap.same_map spot_total spot_exact s.amounts t.amounts (λ q. amount-alone _ _ (values_same q.0 q.1)) in
    λ i. record { facts = f i; amounts = a i }

-- ---- the rows of a relation are those that it has
any_of : (r : ℕ) (p : List ℕ → Bool) (fs : List Fact) → list_any p (map (λ f. f.1) (filter (λ f. r == f.0) fs)) ≡ true → (x : List ℕ) × (list_any (eq_by_cmp fact_cmp (r, x)) fs ≡ true) × (p x ≡ true)
any_of r p [] e = absurd (true≢false (sym e))
any_of r p (f ∷ fs) e =
    elim (r == f.0) as (λ b. (r == f.0) ≡ b → list_any p (map (λ g. g.1) (cond b (f ∷ filter (λ g. r == g.0) fs) (filter (λ g. r == g.0) fs))) ≡ true → (x : List ℕ) × (list_any (eq_by_cmp fact_cmp (r, x)) (f ∷ fs) ≡ true) × (p x ≡ true)) [
      | true ↦ λ here e. elim (or_cases (p f.1) _ e) [
        | inl q ↦ (f.1, or_left _ _ (same-tied fact_total (r, f.1) f (λ i. (eqb-true r f.0 here i, f.1))), q)
        | inr q ↦ let w = any_of r p fs q in (w.0, or_right _ _ w.1, w.2)
      ]
      | false ↦ λ here e. let w = any_of r p fs e in (w.0, or_right _ _ w.1, w.2)
    ] refl e

of_any : (r : ℕ) (p : List ℕ → Bool) (fs : List Fact) (x : List ℕ) → list_any (eq_by_cmp fact_cmp (r, x)) fs ≡ true → p x ≡ true → list_any p (map (λ f. f.1) (filter (λ f. r == f.0) fs)) ≡ true
of_any r p [] x e q = absurd (true≢false (sym e))
of_any r p (f ∷ fs) x e q =
    elim (or_cases (eq_by_cmp fact_cmp (r, x) f) _ e) [
      | inl here ↦
          let same = tied-same fact_exact (r, x) f here in
          let in_relation : (r == f.0) ≡ true = eq-eqb r f.0 (ap (λ (g : Fact). g.0) same) in
          rw in_relation (or_left _ _ (subst (λ (g : Fact). p g.1 ≡ true) same q))
      | inr later ↦
          elim (r == f.0) as (λ b. list_any p (map (λ g. g.1) (cond b (f ∷ filter (λ g. r == g.0) fs) (filter (λ g. r == g.0) fs))) ≡ true) [
            | true ↦ or_right _ _ (of_any r p fs x later q)
            | false ↦ of_any r p fs x later q
          ]
    ]

pub any_row : (s : State) (r : ℕ) (p : List ℕ → Bool) → list_any p (rows s r) ≡ true → (x : List ℕ) × (has s r x ≡ true) × (p x ≡ true)
unfolding has rows
any_row s r p e = let w = any_of r p (finmap.keys s.facts) e in (w.0, finmap.contains_key-keys s.facts (r, w.0) ∙ w.1, w.2)

pub row_any : (s : State) (r : ℕ) (p : List ℕ → Bool) (x : List ℕ) → has s r x ≡ true → p x ≡ true → list_any p (rows s r) ≡ true
unfolding has rows
row_any s r p x h q = of_any r p (finmap.keys s.facts) x (sym (finmap.contains_key-keys s.facts (r, x)) ∙ h) q

-- a test of all is one that none fails
pub none_fails : {X : Type 0} (p : X → Bool) (xs : List X) → list_all p xs ≡ not (list_any (λ x. not (p x)) xs)
none_fails p [] = refl
none_fails p (x ∷ xs) = elim (p x) as (λ b. (b && list_all p xs) ≡ not (not b || list_any (λ y. not (p y)) xs)) [ true ↦ none_fails p xs | false ↦ refl ]

pub all_rows : (s : State) (r : ℕ) (p : List ℕ → Bool) → list_all p (rows s r) ≡ true → (x : List ℕ) → has s r x ≡ true → p x ≡ true
all_rows s r p e x h =
    true_from_ne_false (p x) (λ bad. both_ways _ (not-true _ (sym (none_fails p (rows s r)) ∙ e)) (row_any s r (λ y. not (p y)) x h (not_from_false (p x) bad)))

pub rows_all : (s : State) (r : ℕ) (p : List ℕ → Bool) → ((x : List ℕ) → has s r x ≡ true → p x ≡ true) → list_all p (rows s r) ≡ true
rows_all s r p each =
    none_fails p (rows s r) ∙ not_from_false _ (false_from_ne_true _ (λ one. let w = any_row s r (λ y. not (p y)) one in both_ways _ (not-true (p w.0) w.2) (each w.0 w.1)))
