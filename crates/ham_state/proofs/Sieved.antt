-- A test of all facts, made of those at a key of a sieve alone.
use Rattle.std.proofs.Common.{◌≡◌, ℕ, Bool, true, false, not, ◌&&◌, ◌||◌, List, [], ◌∷◌, Option, Some, None, refl, sym, ap, ◌∙◌, subst, inl, inr, ◌⊎◌}
use Rattle.std.specs.Prelude.{◌==◌, ℤ, MatchOption, is_none, is_some}
use Rattle.std.specs.List.{list_all, list_any}
use Rattle.std.specs.HashMap.{HashMap}
use Rattle.std.specs.HashSet.{HashSet}
use Rattle.std.proofs.lemmas.Bool.{and_parts, and_from, or_cases, or_left, or_right, eqb-true, eq-eqb, true≢false, false_from_ne_true, cases_Bool}
use Rattle.ham_steps.specs.Content.{has}
use Rattle.ham_content.specs.Numbers.{same}
use Rattle.ham_content.specs.Counted.{at_columns}
use Rattle.ham_content.specs.Kept.{fact, same_fact, content}
use Rattle.ham_content.specs.declared.sieve.Sieve.{Sieve}
use Rattle.ham_content.specs.declared.tables.FactKey.{FactKey}
use Rattle.ham_content.specs.declared.tables.Spot.{Spot}
use Rattle.ham_content.proofs.Numbers.{alike}
use Rattle.ham_content.proofs.Contents.{has-content}
use Rattle.ham_content.proofs.Tallies.{exact, itself}
use Rattle.ham_content.proofs.Matched.{fact_itself}
use Rattle.ham_state.specs.Ahead.{is_elsewhere}

-- ---- tests of all facts
each_member : (t : FactKey → Bool) (fs : List FactKey) → ((f : FactKey) → list_any (same_fact f) fs ≡ true → t f ≡ true) → list_all t fs ≡ true
each_member t [] each = refl
each_member t (f ∷ fs) each =
    and_from (t f) (list_all t fs)
    (each f (or_left (same_fact f f) (list_any (same_fact f) fs) (fact_itself f)))
    (each_member t fs (λ g h. each g (or_right (same_fact g f) (list_any (same_fact g) fs) h)))

of_member : (t : FactKey → Bool) (fs : List FactKey) (g : FactKey) → list_all t fs ≡ true → list_any (same_fact g) fs ≡ true → t g ≡ true
of_member t [] g all e = absurd (true≢false (sym e))
of_member t (f ∷ fs) g all e =
    let w = and_parts (t f) (list_all t fs) all in
    elim (or_cases (same_fact g f) (list_any (same_fact g) fs) e) [
      | inl here ↦ ap t (exact g f here) ∙ w.0
      | inr later ↦ of_member t fs g w.1 later
    ]

pub none_by : {A : Type 0} (o : Option A) (b : Bool) → is_some o ≡ not b → b ≡ is_none o
none_by None true e = refl
none_by None false e = absurd (true≢false (sym e))
none_by (Some x) true e = absurd (true≢false e)
none_by (Some x) false e = refl

-- what a search in a sieve for a row that fails the test answers
abbrev pub FailingAt : {S T : Type 0} → HashSet FactKey S → HashMap Spot ℤ T → Sieve → List ℕ → (List ℕ → Bool) → Option (List ℕ) → Type 0
FailingAt facts amounts v key q o =
    MatchOption o ((x : List ℕ) → has (content facts amounts) v.relation x ≡ true → at_columns v.columns x ≡ key → q x ≡ true)
    (λ row. (has (content facts amounts) v.relation row ≡ true) × (at_columns v.columns row ≡ key) × (q row ≡ false))

module _ {S T : Type 0} (facts : HashSet FactKey S) (amounts : HashMap Spot ℤ T) (v : Sieve) (r : ℕ) (key : List ℕ) (relation : v.relation ≡ r) where
  -- a test of facts that is q at the key, and that all others pass
  by_sieve : (t : FactKey → Bool) (q : List ℕ → Bool) (o : Option (List ℕ)) → ((x : List ℕ) → t (fact r x) ≡ q x) → ((f : FactKey) → (f.relation ≡ r → at_columns v.columns f.row ≡ key → ⊥) → t f ≡ true)
      → FailingAt facts amounts v key q o → is_none o ≡ list_all t facts.keys
  by_sieve t q None here other none = sym (each_member t facts.keys (λ f member. at f member (cases_Bool ((f.relation == r) && same (at_columns v.columns f.row) key))))
    where
      at : (f : FactKey) → list_any (same_fact f) facts.keys ≡ true → (((f.relation == r) && same (at_columns v.columns f.row) key) ≡ true) ⊎ (((f.relation == r) && same (at_columns v.columns f.row) key) ≡ false) → t f ≡ true
      at f member (inl e) =
          let w = and_parts (f.relation == r) (same (at_columns v.columns f.row) key) e in
          let is : f.relation ≡ r = eqb-true f.relation r w.0 in
          let named : fact r f.row ≡ f = (λ i. record { relation = sym is i; row = f.row }) in
          let there : has (content facts amounts) v.relation f.row ≡ true = ap (λ z. has (content facts amounts) z f.row) relation ∙ has-content facts amounts r f.row ∙ ap (λ g. list_any (same_fact g) facts.keys) named ∙ member in
          ap t (sym named) ∙ here f.row ∙ none f.row there (alike (at_columns v.columns f.row) key w.1)
      at f member (inr e) = other f (λ is same_key. true≢false (sym (and_from (f.relation == r) (same (at_columns v.columns f.row) key) (eq-eqb f.relation r is) (subst (λ k. same (at_columns v.columns f.row) k ≡ true) same_key (itself (at_columns v.columns f.row)))) ∙ e))
  by_sieve t q (Some row) here other found =
      sym (false_from_ne_true (list_all t facts.keys) (λ all.
      let member : list_any (same_fact (fact r row)) facts.keys ≡ true = sym (has-content facts amounts r row) ∙ ap (λ z. has (content facts amounts) z row) (sym relation) ∙ found.0 in
      true≢false (sym (sym (here row) ∙ of_member t facts.keys (fact r row) all member) ∙ found.2)))

  -- rows that stand at the key, or elsewhere
  pub kept_by_sieve : (columns : List ℕ) (p : List ℕ → Bool) (o : Option (List ℕ)) → v.columns ≡ columns → ((x : List ℕ) → is_elsewhere columns key x ≡ true → p x ≡ true)
      → FailingAt facts amounts v key p o → is_none o ≡ list_all (λ f. not (f.relation == r) || p f.row) facts.keys
  kept_by_sieve columns p o same_columns elsewhere found =
      by_sieve (λ f. not (f.relation == r) || p f.row) p o (λ x. ap (λ b. not b || p x) (eq-eqb r r refl)) (λ f away. beside f away (cases_Bool (f.relation == r)) (cases_Bool (same (at_columns columns f.row) key))) found
    where
      beside : (f : FactKey) → (f.relation ≡ r → at_columns v.columns f.row ≡ key → ⊥) → ((f.relation == r) ≡ true) ⊎ ((f.relation == r) ≡ false) → (same (at_columns columns f.row) key ≡ true) ⊎ (same (at_columns columns f.row) key ≡ false) → (not (f.relation == r) || p f.row) ≡ true
      beside f away (inr e) at = ap (λ b. not b || p f.row) e
      beside f away (inl e) (inl at) = absurd (away (eqb-true f.relation r e) (ap (λ cs. at_columns cs f.row) same_columns ∙ alike (at_columns columns f.row) key at))
      beside f away (inl e) (inr at) = or_right (not (f.relation == r)) (p f.row) (elsewhere f.row (ap not at))

  -- rows that a pattern matches, all of which stand at the key
  pub matched_by_sieve : (m p : List ℕ → Bool) (o : Option (List ℕ)) → ((x : List ℕ) → m x ≡ true → at_columns v.columns x ≡ key)
      → FailingAt facts amounts v key (λ x. not (m x) || p x) o → is_none o ≡ list_all (λ f. not ((f.relation == r) && m f.row) || p f.row) facts.keys
  matched_by_sieve m p o said found =
      by_sieve (λ f. not ((f.relation == r) && m f.row) || p f.row) (λ x. not (m x) || p x) o (λ x. ap (λ b. not (b && m x) || p x) (eq-eqb r r refl)) (λ f away. beside f away (cases_Bool ((f.relation == r) && m f.row))) found
    where
      beside : (f : FactKey) → (f.relation ≡ r → at_columns v.columns f.row ≡ key → ⊥) → (((f.relation == r) && m f.row) ≡ true) ⊎ (((f.relation == r) && m f.row) ≡ false) → (not ((f.relation == r) && m f.row) || p f.row) ≡ true
      beside f away (inl e) = let w = and_parts (f.relation == r) (m f.row) e in absurd (away (eqb-true f.relation r w.0) (said f.row w.1))
      beside f away (inr e) = ap (λ b. not b || p f.row) e
