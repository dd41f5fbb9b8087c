-- What the tables show of the content that they keep, and the content after one change of them.
use Rattle.std.proofs.Common.{◌≡◌, ℕ, Bool, true, false, cond, not, ◌&&◌, ◌||◌, List, [], ◌∷◌, Option, Some, is_some, refl, sym, ap, ◌∙◌}
use Rattle.std.specs.Prelude.{ℤ, pos, ◌+ℤ◌, if◌then◌else◌, ◌==◌, unwrap_or}
use Rattle.std.specs.List.{list_any}
use Rattle.std.specs.Map.{lookup}
use Rattle.std.specs.FinMap as finmap
use Rattle.std.specs.HashMap as hash
use Rattle.std.specs.HashMap.{HashMap}
use Rattle.std.specs.HashSet as bag
use Rattle.std.specs.HashSet.{HashSet}
use Rattle.std.specs.Ordering.{eq_by_cmp}
use Rattle.std.specs.Cmp.{nat_eq_equiv}
use Rattle.std.specs.Cmp.Lexicographic.{nat_list_eq_equiv}
use Rattle.std.proofs.lemmas.Bool.{and_parts, eqb-true}
use Rattle.ham_content.specs.Numbers.{same}
use Rattle.ham_content.specs.declared.tables.FactKey.{FactKey}
use Rattle.ham_content.specs.declared.tables.Spot.{Spot}
use Rattle.ham_content.specs.Kept.{fact, spot, same_fact, same_spot, facts_of, amounts_of, content}
use Rattle.ham_steps.specs.Pattern.{is_row}
use Rattle.ham_steps.specs.Content.{fact_cmp, spot_cmp, amount, entry, has, value, with_row, without_rows, with_change}
use Rattle.ham_steps.proofs.ContentLaws.{there-insert, tied_fact, tied_spot, get-put_amount, amount-entry, same_state, has-with_row, has-without_rows, has-with_change, value-with_row, value-without_rows, value-with_change, add_none}

-- ---- the tests of the tables are those of the content
pub pointwise-row : (row x : List ℕ) → same row x ≡ is_row row x
pointwise-row [] [] = refl
pointwise-row [] (x ∷ xs) = refl
pointwise-row (r ∷ rs) [] = refl
pointwise-row (r ∷ rs) (x ∷ xs) = ap (λ b. (r == x) && b) (pointwise-row rs xs)

pub same-row : (x y : List ℕ) → same x y ≡ is_row y x
same-row x y = nat_list_eq_equiv.symm x y ∙ pointwise-row y x

fact_test : (q r : ℕ) (x row : List ℕ) → eq_by_cmp fact_cmp (q, x) (r, row) ≡ same_fact (fact q x) (fact r row)
fact_test q r x row = tied_fact r q row x ∙ (λ i. nat_eq_equiv.symm r q i && sym (same-row x row) i)

spot_test : (d c l k : ℕ) → eq_by_cmp spot_cmp (d, l) (c, k) ≡ same_spot (spot d l) (spot c k)
spot_test d c l k = tied_spot c d k l ∙ (λ i. nat_eq_equiv.symm c d i && nat_eq_equiv.symm k l i)

in_facts : (fs : List FactKey) (q : ℕ) (x : List ℕ) → finmap.contains_key (facts_of fs) (q, x) ≡ list_any (same_fact (fact q x)) fs
unfolding facts_of
in_facts [] q x = ap is_some (finmap.get-empty {X = Unit {0}} fact_cmp (q, x))
in_facts (f ∷ fs) q x = there-insert (facts_of fs) (f.relation, f.row) (q, x) ∙ (λ i. fact_test q f.relation x f.row i || in_facts fs q x i)

pub has-content : {S T : Type 0} (facts : HashSet FactKey S) (amounts : HashMap Spot ℤ T) (q : ℕ) (x : List ℕ) → has (content facts amounts) q x ≡ bag.contains same_fact facts (fact q x)
unfolding has content
has-content facts amounts q x = in_facts facts.keys q x

shown : (b : Bool) (z : ℤ) (o e : Option ℤ) → amount e ≡ unwrap_or o (pos 0) → amount (cond b (entry z) e) ≡ unwrap_or (cond b (Some z) o) (pos 0)
shown true z o e h = amount-entry z
shown false z o e h = h

in_amounts : (es : List (Spot × ℤ)) (d l : ℕ) → amount (finmap.get (amounts_of es) (d, l)) ≡ unwrap_or (lookup (same_spot (spot d l)) es) (pos 0)
unfolding amounts_of
in_amounts [] d l = ap amount (finmap.get-empty {X = ℤ} spot_cmp (d, l))
in_amounts (a ∷ es) d l =
    ap amount (get-put_amount (amounts_of es) (a.0.counter, a.0.key) (entry a.1) (d, l))
    ∙ ap (λ b. amount (cond b (entry a.1) (finmap.get (amounts_of es) (d, l)))) (spot_test d a.0.counter l a.0.key)
    ∙ shown (same_spot (spot d l) a.0) a.1 (lookup (same_spot (spot d l)) es) (finmap.get (amounts_of es) (d, l)) (in_amounts es d l)

pub value-content : {S T : Type 0} (facts : HashSet FactKey S) (amounts : HashMap Spot ℤ T) (d l : ℕ) → value (content facts amounts) d l ≡ unwrap_or (hash.get same_spot amounts (spot d l)) (pos 0)
unfolding value content
value-content facts amounts d l = in_amounts amounts.entries d l

-- ---- one change
pub put_content : {S T : Type 0} (facts new : HashSet FactKey S) (amounts : HashMap Spot ℤ T) (r : ℕ) (row : List ℕ) → ((f : FactKey) → bag.contains same_fact new f ≡ (same_fact (fact r row) f || bag.contains same_fact facts f)) → content new amounts ≡ with_row (content facts amounts) r row
put_content facts new amounts r row e =
    same_state _ _
    (λ q x. has-content new amounts q x ∙ e (fact q x) ∙ (λ i. ((r == q) && pointwise-row row x i) || sym (has-content facts amounts q x) i) ∙ sym (has-with_row (content facts amounts) r row q x))
    (λ c k. value-content new amounts c k ∙ sym (value-content facts amounts c k) ∙ sym (value-with_row (content facts amounts) r row c k))

swap : (a b : Bool) → (not a && b) ≡ (b && not a)
swap true true = refl
swap true false = refl
swap false true = refl
swap false false = refl

pub take_content : {S T : Type 0} (facts new : HashSet FactKey S) (amounts : HashMap Spot ℤ T) (r : ℕ) (row : List ℕ) → ((f : FactKey) → bag.contains same_fact new f ≡ (not (same_fact (fact r row) f) && bag.contains same_fact facts f)) → content new amounts ≡ without_rows (content facts amounts) r (is_row row)
take_content facts new amounts r row e =
    same_state _ _
    (λ q x. has-content new amounts q x ∙ e (fact q x) ∙ (λ i. not ((r == q) && pointwise-row row x i) && sym (has-content facts amounts q x) i) ∙ swap _ _ ∙ sym (has-without_rows (content facts amounts) r (is_row row) q x))
    (λ c k. value-content new amounts c k ∙ sym (value-content facts amounts c k) ∙ sym (value-without_rows (content facts amounts) r (is_row row) c k))

changed : (b : Bool) (n p v w by : ℤ) → (b ≡ true → v ≡ w) → n ≡ (v +ℤ by) → p ≡ w → cond b n p ≡ (w +ℤ (if b then by else pos 0))
changed true n p v w by at e h = e ∙ ap (λ z. z +ℤ by) (at refl)
changed false n p v w by at e h = h ∙ add_none w

pub change_content : {S T : Type 0} (facts : HashSet FactKey S) (amounts new : HashMap Spot ℤ T) (c k : ℕ) (by n : ℤ) → ((s : Spot) → unwrap_or (hash.get same_spot new s) (pos 0) ≡ cond (same_spot (spot c k) s) n (unwrap_or (hash.get same_spot amounts s) (pos 0))) → n ≡ (value (content facts amounts) c k +ℤ by) → content facts new ≡ with_change (content facts amounts) c k by
change_content facts amounts new c k by n e is =
    same_state _ _
    (λ q x. has-content facts new q x ∙ sym (has-content facts amounts q x) ∙ sym (has-with_change (content facts amounts) c k by q x))
    (λ d l. value-content facts new d l ∙ e (spot d l)
    ∙ changed (same_spot (spot c k) (spot d l)) n (unwrap_or (hash.get same_spot amounts (spot d l)) (pos 0)) (value (content facts amounts) c k) (value (content facts amounts) d l) by (at d l) is (sym (value-content facts amounts d l))
    ∙ sym (value-with_change (content facts amounts) c k by d l))
  where
    at : (d l : ℕ) → same_spot (spot c k) (spot d l) ≡ true → value (content facts amounts) c k ≡ value (content facts amounts) d l
    at d l h = let p = and_parts (c == d) (k == l) h in λ i. value (content facts amounts) (eqb-true c d p.0 i) (eqb-true k l p.1 i)
