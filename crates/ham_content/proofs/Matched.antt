-- Rows that match a pattern, among the facts.
use Rattle.std.proofs.Common.{◌≡◌, ℕ, Bool, true, false, ◌&&◌, ◌||◌, List, [], ◌∷◌, Option, Some, None, cond, map, refl, sym, ap, ◌∙◌, subst, inl, inr}
use Rattle.std.specs.Prelude.{ℤ, ◌==◌}
use Rattle.std.specs.List.{list_any, find}
use Rattle.std.specs.HashMap.{HashMap}
use Rattle.std.specs.HashSet.{HashSet}
use Rattle.std.specs.Cmp.Lexicographic.{nat_list_eq_equiv}
use Rattle.std.proofs.lemmas.Bool.{and_parts, and_from, or_cases, or_left, or_right, eqb-true, eq-eqb, true≢false}
use Rattle.ham_content.specs.Numbers.{same}
use Rattle.ham_content.proofs.Numbers.{alike}
use Rattle.ham_content.specs.declared.tables.FactKey.{FactKey}
use Rattle.ham_content.specs.declared.tables.Spot.{Spot}
use Rattle.ham_content.specs.Kept.{fact, same_fact, content}
use Rattle.ham_content.proofs.Contents.{has-content}
use Rattle.ham_syntax.specs.declared.term.Term.{Term}
use Rattle.ham_syntax.specs.declared.term.Term.TheVariants.{Const}
use Rattle.ham_steps.specs.Pattern.{matches}
use Rattle.ham_steps.specs.Content.{State, has, rows}
use Rattle.ham_steps.proofs.ContentLaws.{same_tests, any_row, row_any, is_row-same, is_row-itself}

pub fact_itself : (f : FactKey) → same_fact f f ≡ true
fact_itself f = and_from (f.relation == f.relation) (same f.row f.row) (eq-eqb f.relation f.relation refl) (nat_list_eq_equiv.refl f.row)

pub found_too : (fs : List FactKey) (r q : ℕ) (x : List ℕ) (p : List ℕ → Bool) → list_any (same_fact (fact q x)) fs ≡ true → (r == q) ≡ true → p x ≡ true → list_any (λ f. (f.relation == r) && p f.row) fs ≡ true
found_too [] r q x p e a h = absurd (true≢false (sym e))
found_too (f ∷ fs) r q x p e a h =
    elim (or_cases (same_fact (fact q x) f) (list_any (same_fact (fact q x)) fs) e) [
      | inl here ↦ let w = and_parts (q == f.relation) (same x f.row) here in or_left _ _ (and_from (f.relation == r) (p f.row) (eq-eqb f.relation r (sym (eqb-true r q a ∙ eqb-true q f.relation w.0))) (ap p (sym (alike x f.row w.1)) ∙ h))
      | inr later ↦ or_right _ _ (found_too fs r q x p later a h)
    ]

-- what a search finds
pub found_none : {X : Type 0} (t : X → Bool) (xs : List X) → find t xs ≡ None → list_any t xs ≡ false
found_none t [] e = refl
found_none {X} t (x ∷ xs) e =
    elim (t x) as (λ b. (find t xs ≡ None → list_any t xs ≡ false) → ◌≡◌ {A = Option X} (cond b (Some x) (find t xs)) None → (b || list_any t xs) ≡ false) [
      | true ↦ λ rest h. cc
      | false ↦ λ rest h. rest h
    ] (found_none t xs) e

pub found_some : (t : FactKey → Bool) (xs : List FactKey) (f : FactKey) → find t xs ≡ Some f → (list_any (same_fact f) xs ≡ true) × (t f ≡ true)
found_some t [] f e = cc
found_some t (x ∷ xs) f e =
    elim (t x) as (λ b. t x ≡ b → (find t xs ≡ Some f → (list_any (same_fact f) xs ≡ true) × (t f ≡ true)) → ◌≡◌ {A = Option FactKey} (cond b (Some x) (find t xs)) (Some f) → ((same_fact f x || list_any (same_fact f) xs) ≡ true) × (t f ≡ true)) [
      | true ↦ λ is rest h.
          let same_item : x ≡ f = cc in
          (or_left (same_fact f x) (list_any (same_fact f) xs) (subst (λ z. same_fact f z ≡ true) (sym same_item) (fact_itself f)), subst (λ z. t z ≡ true) same_item is)
      | false ↦ λ is rest h. let w = rest h in (or_right (same_fact f x) (list_any (same_fact f) xs) w.0, w.1)
    ] refl (found_some t xs f) e

-- a fact of the relation, by its row
pub found_row : (r : ℕ) (p : List ℕ → Bool) (xs : List FactKey) (f : FactKey) → find (λ g. (g.relation == r) && p g.row) xs ≡ Some f → (list_any (same_fact (fact r f.row)) xs ≡ true) × (p f.row ≡ true)
found_row r p xs f e =
    let w = found_some (λ g. (g.relation == r) && p g.row) xs f e in
    let q = and_parts (f.relation == r) (p f.row) w.1 in
    let named : f ≡ fact r f.row = (λ i. record { relation = eqb-true f.relation r q.0 i; row = f.row }) in
    (subst (λ z. list_any (same_fact z) xs ≡ true) named w.0, q.1)

-- a fact that passes, by its row
pub row_in : (fs : List FactKey) (r : ℕ) (p : List ℕ → Bool) → list_any (λ f. (f.relation == r) && p f.row) fs ≡ true → (x : List ℕ) × (list_any (same_fact (fact r x)) fs ≡ true) × (p x ≡ true)
row_in [] r p e = absurd (true≢false (sym e))
row_in (f ∷ fs) r p e =
    elim (or_cases ((f.relation == r) && p f.row) (list_any (λ g. (g.relation == r) && p g.row) fs) e) [
      | inl here ↦
          let w = and_parts (f.relation == r) (p f.row) here in
          let this : same_fact (fact r f.row) f ≡ true = and_from (r == f.relation) (same f.row f.row) (eq-eqb r f.relation (sym (eqb-true f.relation r w.0))) (nat_list_eq_equiv.refl f.row) in
          (f.row, or_left (same_fact (fact r f.row) f) (list_any (same_fact (fact r f.row)) fs) this, w.1)
      | inr later ↦ let w = row_in fs r p later in (w.0, or_right (same_fact (fact r w.0) f) (list_any (same_fact (fact r w.0)) fs) w.1, w.2)
    ]

-- ---- whether there is a row that matches
-- a fact that passes is a row that passes
pub some_row : {S T : Type 0} (facts : HashSet FactKey S) (amounts : HashMap Spot ℤ T) (r : ℕ) (p : List ℕ → Bool) → list_any (λ f. (f.relation == r) && p f.row) facts.keys ≡ list_any p (rows (content facts amounts) r)
some_row facts amounts r p =
    same_tests _ _
    (λ e. let w = row_in facts.keys r p e in row_any (content facts amounts) r p w.0 (has-content facts amounts r w.0 ∙ w.1) w.2)
    (λ e. let w = any_row (content facts amounts) r p e in found_too facts.keys r r w.0 p (sym (has-content facts amounts r w.0) ∙ w.1) (eq-eqb r r refl) w.2)

-- a pattern of constants matches the one row that it spells out
pub constants_match : (s : State) (r : ℕ) (row : List ℕ) (pattern : List Term) → map Const row ≡ pattern → has s r row ≡ list_any (matches pattern) (rows s r)
constants_match s r row pattern e =
    same_tests _ _
    (λ h. row_any s r (matches pattern) row h (subst (λ p. matches p row ≡ true) e (is_row-itself row)))
    (λ h. let w = any_row s r (matches pattern) h in ap (has s r) (is_row-same row w.0 (subst (λ p. matches p w.0 ≡ true) (sym e) w.2)) ∙ w.1)
