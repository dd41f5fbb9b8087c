-- The rows of a relation ascend, each once, since the facts of a state do; and they are those that it has.
use Rattle.std.proofs.Common.{◌≡◌, ℕ, Bool, true, false, cond, ◌&&◌, List, [], ◌∷◌, refl, sym, ap, ◌∙◌, subst, map}
use Rattle.std.specs.Prelude.{filter, ◌==◌, T}
use Rattle.std.specs.List.{list_any, AllByRecursion}
use Rattle.std.specs.List.Sorted.{IsStrictlySortedBy}
use Rattle.std.specs.FinMap as finmap
use Rattle.std.specs.FinMap.Entries.{is_sorted, below_all}
use Rattle.std.specs.declared.cmp.Ordering.{Ordering}
use Rattle.std.specs.declared.cmp.Ordering.TheVariants.{Less, Equal, Greater}
use Rattle.std.specs.Ordering.{nat_cmp, ordering_then, is_lt}
use Rattle.std.specs.Cmp.{tied_itself, nat_cmp_total}
use Rattle.std.specs.Cmp.Lexicographic.{slice_cmp}
use Rattle.std.proofs.lemmas.Bool.{eqb-true}
use Rattle.ham_steps.specs.Pattern.{is_row}
use Rattle.ham_steps.specs.Content.{Fact, fact_cmp, State, has, rows}
use Rattle.ham_steps.proofs.ContentLaws.{same_tests, is_row-same, is_row-itself, any_row, row_any}

-- the order of rows
abbrev row_cmp : List ℕ → List ℕ → Ordering
row_cmp = slice_cmp nat_cmp

and_first : (a b : Bool) → T (a && b) → T a
and_first true b h = tt
and_first false b h = h

and_second : (a b : Bool) → T (a && b) → T b
and_second true b h = h
and_second false b h = absurd h

is_less : (o : Ordering) → T (is_lt o) → o ≡ Less
is_less Less h = refl
is_less Equal h = absurd h
is_less Greater h = absurd h

below : (f : Fact) (es : List (Fact × Unit {0})) → T (below_all fact_cmp f es) → AllByRecursion (λ g. fact_cmp f g ≡ Less) (map (λ e. e.0) es)
below f [] h = tt
below f (e ∷ es) h = (is_less (fact_cmp f e.0) (and_first (is_lt (fact_cmp f e.0)) (below_all fact_cmp f es) h), below f es (and_second (is_lt (fact_cmp f e.0)) (below_all fact_cmp f es) h))

facts_ascend : (es : List (Fact × Unit {0})) → T (is_sorted fact_cmp es) → IsStrictlySortedBy fact_cmp (map (λ e. e.0) es)
unfolding IsStrictlySortedBy
facts_ascend [] h = tt
facts_ascend (e ∷ es) h = (below e.0 es (and_first (below_all fact_cmp e.0 es) (is_sorted fact_cmp es) h), facts_ascend es (and_second (below_all fact_cmp e.0 es) (is_sorted fact_cmp es) h))

row_below : (r : ℕ) (f : Fact) (fs : List Fact) → (r == f.0) ≡ true → AllByRecursion (λ g. fact_cmp f g ≡ Less) fs → AllByRecursion (λ y. row_cmp f.1 y ≡ Less) (map (λ g. g.1) (filter (λ g. r == g.0) fs))
row_below r f [] e h = tt
row_below r f (g ∷ fs) e h =
    let rest = row_below r f fs e h.1 in
    elim (r == g.0) as (λ b. (r == g.0) ≡ b → AllByRecursion (λ y. row_cmp f.1 y ≡ Less) (map (λ z. z.1) (cond b (g ∷ filter (λ z. r == z.0) fs) (filter (λ z. r == z.0) fs)))) [
      | true ↦ λ a.
          let one : f.0 ≡ g.0 = sym (eqb-true r f.0 e) ∙ eqb-true r g.0 a in
          let tie : nat_cmp f.0 g.0 ≡ Equal = subst (λ n. nat_cmp f.0 n ≡ Equal) one (tied_itself nat_cmp_total f.0) in
          (ap (λ o. ordering_then o (row_cmp f.1 g.1)) (sym tie) ∙ h.0, rest)
      | false ↦ λ a. rest
    ] refl

rows_ascend_of : (r : ℕ) (fs : List Fact) → IsStrictlySortedBy fact_cmp fs → IsStrictlySortedBy row_cmp (map (λ g. g.1) (filter (λ g. r == g.0) fs))
unfolding IsStrictlySortedBy
rows_ascend_of r [] h = tt
rows_ascend_of r (f ∷ fs) h =
    elim (r == f.0) as (λ b. (r == f.0) ≡ b → IsStrictlySortedBy row_cmp (map (λ z. z.1) (cond b (f ∷ filter (λ z. r == z.0) fs) (filter (λ z. r == z.0) fs)))) [
      | true ↦ λ a. (row_below r f fs a h.0, rows_ascend_of r fs h.1)
      | false ↦ λ a. rows_ascend_of r fs h.1
    ] refl

pub rows_ascend : (s : State) (r : ℕ) → IsStrictlySortedBy row_cmp (rows s r)
unfolding rows
rows_ascend s r = rows_ascend_of r (finmap.keys s.facts) (facts_ascend (finmap.entries s.facts) (finmap.entries_sorted s.facts))

-- a row is listed exactly where it is there
pub listed : (s : State) (r : ℕ) (x : List ℕ) → list_any (is_row x) (rows s r) ≡ has s r x
listed s r x = same_tests _ _
    (λ e. let w = any_row s r (is_row x) e in subst (λ y. has s r y ≡ true) (sym (is_row-same x w.0 w.2)) w.1)
    (λ h. row_any s r (is_row x) x h (is_row-itself x))
