-- A relation's rows in order: two ascending lists of the same rows are one.
use Rattle.std.proofs.Common.{◌≡◌, ℕ, ◌+◌, Bool, true, false, cond, ◌&&◌, ◌||◌, List, [], ◌∷◌, is_some, refl, sym, ap, ◌∙◌, subst, arith, get_or, map}
use Rattle.std.specs.Prelude.{filter, ◌==◌, ℤ, T}
use Rattle.std.specs.List.{list_any, IsDistinct, AllByRecursion}
use Rattle.std.specs.List.Sorted.{IsSorted, IsPermutation, IsStrictlySortedBy}
use Rattle.std.specs.FinMap as finmap
use Rattle.std.specs.FinMap.Entries.{is_sorted, below_all, find, is_some-find, same_entries}
use Rattle.std.specs.HashMap.{HashMap}
use Rattle.std.specs.HashSet.{HashSet}
use Rattle.std.specs.declared.cmp.Ordering.{Ordering}
use Rattle.std.specs.declared.cmp.Ordering.TheVariants.{Less, Equal, Greater}
use Rattle.std.specs.Ordering.{nat_cmp, eq_by_cmp, ordering_then, ordering_reverse, is_lt, is_eq}
use Rattle.std.specs.Cmp.{tied_itself, nat_cmp_total}
use Rattle.std.specs.Cmp.Lexicographic.{slice_cmp, nat_list_cmp_total, nat_list_eq_equiv}
use Rattle.std.proofs.lemmas.Bool.{and_from, eqb-true, eq-eqb, true≢false, false_from_ne_true}
use Rattle.std.proofs.lemmas.List.Sorted.{list_any-IsPermutation}
use Rattle.std.proofs.lemmas.Map.Keys.{IsDistinct-IsPermutation, apart_from_distinct, sorted_from_all_adjacent}
use Rattle.std.proofs.lemmas.Map.Lookups.{exact_bytes}
use Rattle.ham_content.specs.Numbers.{same}
use Rattle.ham_content.proofs.Numbers.{alike}
use Rattle.ham_content.specs.declared.tables.FactKey.{FactKey}
use Rattle.ham_content.specs.declared.tables.Spot.{Spot}
use Rattle.ham_content.specs.Kept.{fact, same_fact, content}
use Rattle.ham_content.proofs.Contents.{has-content}
use Rattle.ham_content.proofs.Tallies.{among-rows, itself}
use Rattle.ham_steps.specs.Content as words
use Rattle.ham_steps.specs.Content.{fact_cmp, State, has, rows}
use Rattle.ham_steps.proofs.ContentLaws.{same_tests, same_mark, tied-same, same-tied}
use Rattle.ham_steps.proofs.Ascending.{rows_ascend}

-- the order of rows
abbrev row_cmp : List ℕ → List ℕ → Ordering
row_cmp = slice_cmp nat_cmp

row_tied : (x y : List ℕ) → eq_by_cmp row_cmp x y ≡ same x y
row_tied x y = same_tests _ _
    (λ e. let one : x ≡ y = tied-same exact_bytes x y e in subst (λ z. same x z ≡ true) one (itself x))
    (λ e. same-tied nat_list_cmp_total x y (alike x y e))

-- ---- the facts of a relation, as rows
apart_from : (r : ℕ) (f : FactKey) (fs : List FactKey) → (r == f.relation) ≡ true → AllByRecursion (λ g. same_fact f g ≡ false) fs → AllByRecursion (λ y. same f.row y ≡ false) (map (λ g. g.row) (filter (λ g. r == g.relation) fs))
apart_from r f [] e h = tt
apart_from r f (g ∷ fs) e h =
    let rest = apart_from r f fs e h.1 in
    elim (r == g.relation) as (λ b. (r == g.relation) ≡ b → AllByRecursion (λ y. same f.row y ≡ false) (map (λ z. z.row) (cond b (g ∷ filter (λ z. r == z.relation) fs) (filter (λ z. r == z.relation) fs)))) [
      | true ↦ λ a.
          let one : f.relation ≡ g.relation = sym (eqb-true r f.relation e) ∙ eqb-true r g.relation a in
          (false_from_ne_true (same f.row g.row) (λ s. true≢false (sym (and_from (f.relation == g.relation) (same f.row g.row) (eq-eqb f.relation g.relation one) s) ∙ h.0)), rest)
      | false ↦ λ a. rest
    ] refl

gathered_apart : (r : ℕ) (fs : List FactKey) → IsDistinct same_fact fs → IsDistinct same (map (λ g. g.row) (filter (λ g. r == g.relation) fs))
unfolding IsDistinct
gathered_apart r [] h = tt
gathered_apart r (f ∷ fs) h =
    elim (r == f.relation) as (λ b. (r == f.relation) ≡ b → IsDistinct same (map (λ z. z.row) (cond b (f ∷ filter (λ z. r == z.relation) fs) (filter (λ z. r == z.relation) fs)))) [
      | true ↦ λ a. (apart_from r f fs a h.0, gathered_apart r fs h.1)
      | false ↦ λ a. gathered_apart r fs h.1
    ] refl

gathered_same : (r : ℕ) (x : List ℕ) (fs : List FactKey) → list_any (same x) (map (λ g. g.row) (filter (λ g. r == g.relation) fs)) ≡ list_any (same_fact (fact r x)) fs
gathered_same r x [] = refl
gathered_same r x (f ∷ fs) =
    elim (r == f.relation) as (λ b. list_any (same x) (map (λ z. z.row) (cond b (f ∷ filter (λ z. r == z.relation) fs) (filter (λ z. r == z.relation) fs))) ≡ ((b && same x f.row) || list_any (same_fact (fact r x)) fs)) [
      | true ↦ ap (λ b. same x f.row || b) (gathered_same r x fs)
      | false ↦ gathered_same r x fs
    ]

-- ---- sorted and apart is ascending
less_of : (o p : Ordering) → o ≡ ordering_reverse p → is_eq o ≡ false → is_lt p ≡ false → o ≡ Less
less_of Less p e apart up = refl
less_of Equal p e apart up = absurd (true≢false apart)
less_of Greater Less e apart up = absurd (true≢false up)
less_of Greater Equal e apart up = cc
less_of Greater Greater e apart up = cc

ascending : (ys : List (List ℕ)) → IsSorted row_cmp ys → IsDistinct same ys → IsStrictlySortedBy row_cmp ys
ascending ys up apart =
    sorted_from_all_adjacent nat_list_cmp_total ys [] (λ k h.
    less_of (row_cmp (get_or ys k []) (get_or ys (k + 1) [])) (row_cmp (get_or ys (k + 1) []) (get_or ys k []))
    (nat_list_cmp_total.antisymm (get_or ys k []) (get_or ys (k + 1) []))
    (row_tied (get_or ys k []) (get_or ys (k + 1) []) ∙ apart_from_distinct same ys k (k + 1) [] apart (omega arith) h)
    (up k [] (omega arith) h))

-- ---- two ascending lists with the same rows are one
marked : List (List ℕ) → List (List ℕ × Unit {0})
marked xs = map (λ x. (x, tt)) xs

unmarked : (xs : List (List ℕ)) → map (λ (e : List ℕ × Unit {0}). e.0) (marked xs) ≡ xs
unfolding marked
unmarked [] = refl
unmarked (x ∷ xs) = ap (λ ys. x ∷ ys) (unmarked xs)

and_T : (a b : Bool) → T a → T b → T (a && b)
and_T true b p q = q
and_T false b p q = p

marked_below : (k : List ℕ) (xs : List (List ℕ)) → AllByRecursion (λ y. row_cmp k y ≡ Less) xs → T (below_all row_cmp k (marked xs))
unfolding marked
marked_below k [] all = tt
marked_below k (x ∷ xs) all = and_T (is_lt (row_cmp k x)) (below_all row_cmp k (marked xs)) (subst T (sym (ap is_lt all.0)) tt) (marked_below k xs all.1)

marked_sorted : (xs : List (List ℕ)) → IsStrictlySortedBy row_cmp xs → T (is_sorted row_cmp (marked xs))
unfolding IsStrictlySortedBy marked
marked_sorted [] up = tt
marked_sorted (x ∷ xs) up = and_T (below_all row_cmp x (marked xs)) (is_sorted row_cmp (marked xs)) (marked_below x xs up.0) (marked_sorted xs up.1)

any_tied : (q : List ℕ) (xs : List (List ℕ)) → list_any (eq_by_cmp row_cmp q) xs ≡ list_any (same q) xs
any_tied q [] = refl
any_tied q (x ∷ xs) = λ i. row_tied q x i || any_tied q xs i

one_list : (xs ys : List (List ℕ)) → IsStrictlySortedBy row_cmp xs → IsStrictlySortedBy row_cmp ys → ((q : List ℕ) → list_any (same q) xs ≡ list_any (same q) ys) → xs ≡ ys
one_list xs ys up vp is =
    sym (unmarked xs)
    ∙ ap (map (λ (e : List ℕ × Unit {0}). e.0)) (same_entries row_cmp nat_list_cmp_total exact_bytes (marked xs) (marked ys) (marked_sorted xs up) (marked_sorted ys vp) (λ q. same_mark _ _ (found q xs ∙ is q ∙ sym (found q ys))))
    ∙ unmarked ys
  where
    found : (q : List ℕ) (zs : List (List ℕ)) → is_some (find row_cmp q (marked zs)) ≡ list_any (same q) zs
    found q zs = is_some-find row_cmp q (marked zs) ∙ ap (list_any (eq_by_cmp row_cmp q)) (unmarked zs) ∙ any_tied q zs

pub sorted-rows : {S U : Type 0} (facts : HashSet FactKey S) (amounts : HashMap Spot ℤ U) (r : ℕ) (ys : List (List ℕ)) → IsDistinct same_fact facts.keys → IsPermutation (map (λ f. f.row) (filter (λ f. r == f.relation) facts.keys)) ys → IsSorted row_cmp ys → ys ≡ rows (content facts amounts) r
sorted-rows facts amounts r ys apart moved up =
    let xs = map (λ (f : FactKey). f.row) (filter (λ f. r == f.relation) facts.keys) in
    one_list ys (rows (content facts amounts) r)
    (ascending ys up (IsDistinct-IsPermutation same nat_list_eq_equiv.symm xs ys moved (gathered_apart r facts.keys apart)))
    (rows_ascend (content facts amounts) r)
    (λ q. sym (list_any-IsPermutation (same q) xs ys moved) ∙ gathered_same r q facts.keys ∙ sym (has-content facts amounts r q) ∙ sym (among-rows (content facts amounts) r q))
