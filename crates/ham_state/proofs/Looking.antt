-- Looking ahead: the spots of the steps are all that may newly break, and one that breaks is asked for.
use Rattle.std.proofs.Common.{◌≡◌, ◌≢◌, ℕ, Bool, true, false, cond, not, ◌&&◌, ◌||◌, List, [], ◌∷◌, Some, None, refl, sym, ap, ◌∙◌, inl, inr, ◌⊎◌, arith, map}
use Rattle.std.specs.Prelude.{ℤ, pos, ◌+ℤ◌, ◌==◌, ◌↔◌, int_le}
use Rattle.std.specs.Option.{option_or}
use Rattle.std.specs.List.{list_all, list_any}
use Rattle.std.proofs.lemmas.Int.{ints}
use Rattle.std.proofs.lemmas.Bool.{and_parts, and_from, or_cases, or_right, or_left, both_ways, eqb-true, eq-eqb, true≢false, cases_Bool, cond-false}
use Rattle.std.proofs.lemmas.Option.{none-some, cond_some}
use Rattle.ham_content.specs.Numbers.{same}
use Rattle.ham_content.proofs.Numbers.{alike}
use Rattle.ham_state.proofs.Newly.{newly_above, newly_referred}
use Rattle.ham_syntax.specs.declared.object.Invariant.{Invariant}
use Rattle.ham_syntax.specs.declared.object.Invariant.TheVariants as invariants
use Rattle.ham_steps.specs.declared.step.Step.{Step}
use Rattle.ham_steps.specs.declared.step.Step.TheVariants as steps
use Rattle.ham_steps.specs.Pattern.{matches, is_row}
use Rattle.ham_steps.specs.Content.{State, has}
use Rattle.ham_steps.specs.Steps.{after_steps}
use Rattle.ham_steps.specs.Touch.{touches, puts, last_touch, gain, gains}
use Rattle.ham_steps.proofs.ContentLaws.{is_row-same, is_row-itself, same_tests}
use Rattle.ham_content.specs.declared.tables.FactKey.{FactKey}
use Rattle.ham_content.specs.Kept.{fact, same_fact}
use Rattle.ham_content.specs.Counted.{at_columns, tally}
use Rattle.ham_watch.specs.Broken.{is_broken}
use Rattle.ham_state.specs.Ahead.{is_sound_after, insert_passes, delete_passes, change_passes, spots_pass}
use Rattle.ham_syntax.specs.declared.term.Term.{Term}
use Rattle.ham_syntax.specs.declared.term.Term.TheVariants.{Const}
use Rattle.ham_content.proofs.Contents.{pointwise-row}
use Rattle.ham_content.proofs.Tallies.{number-tally}
use Rattle.ham_state.proofs.Breaks.{touched, at_key}

-- ---- a test that is made only where it concerns the relation
pub where_true : (b p : Bool) → (not b || p) ≡ true → b ≡ true → p ≡ true
where_true true p e h = e
where_true false p e h = absurd (both_ways false refl h)

pub not_to_true : (b : Bool) → not b ≡ true → b ≡ false
not_to_true true e = absurd (true≢false (sym e))
not_to_true false e = refl

pub false_to_not : (b : Bool) → b ≡ false → not b ≡ true
false_to_not b e = ap not e

pub all_in : (test : List ℕ → Bool) (xs : List (List ℕ)) (k : List ℕ) → list_all test xs ≡ true → list_any (same k) xs ≡ true → test k ≡ true
all_in test [] k all e = absurd (true≢false (sym e))
all_in test (x ∷ xs) k all e =
    let w = and_parts (test x) (list_all test xs) all in
    elim (or_cases (same k x) (list_any (same k) xs) e) [
      | inl here ↦ ap test (alike k x here) ∙ w.0
      | inr later ↦ all_in test xs k w.1 later
    ]

pub all_of : {A : Type 0} (test : A → Bool) (xs : List A) → ((x : A) → test x ≡ true) → list_all test xs ≡ true
all_of test [] each = refl
all_of test (x ∷ xs) each = and_from (test x) (list_all test xs) (each x) (all_of test xs each)

pub all_left : {A : Type 0} (p q : A → Bool) (xs : List A) → list_all (λ x. p x && q x) xs ≡ true → (list_all p xs ≡ true) × (list_all q xs ≡ true)
all_left p q [] all = (refl, refl)
all_left p q (x ∷ xs) all =
    let w = and_parts (p x && q x) (list_all (λ y. p y && q y) xs) all in
    let v = and_parts (p x) (q x) w.0 in
    let rest = all_left p q xs w.1 in
    (and_from (p x) (list_all p xs) v.0 rest.0, and_from (q x) (list_all q xs) v.1 rest.1)

-- ---- the row that a step puts is asked for
one_insert : (test : List ℕ → Bool) (r : ℕ) (columns x : List ℕ) (st : Step) → insert_passes test r columns st ≡ true → touches st r x ≡ true → puts st ≡ true → test (at_columns columns x) ≡ true
one_insert test r columns x (steps.Insert q row) all t up =
    let w = and_parts (q == r) (is_row row x) t in
    ap (λ z. test (at_columns columns z)) (sym (is_row-same row x w.1)) ∙ where_true (q == r) (test (at_columns columns row)) all w.0
one_insert test r columns x (steps.Delete q pattern) all t up = absurd (both_ways false refl up)
one_insert test r columns x (steps.Change c k by) all t up = absurd (both_ways false refl up)

pub last_insert : (test : List ℕ → Bool) (r : ℕ) (columns x : List ℕ) (net : List Step) → list_all (insert_passes test r columns) net ≡ true → last_touch net r x ≡ Some true → test (at_columns columns x) ≡ true
last_insert test r columns x [] all e = absurd (none-some true e)
last_insert test r columns x (st ∷ net) all e =
    let w = and_parts (insert_passes test r columns st) (list_all (insert_passes test r columns) net) all in
    elim (last_touch net r x) as (λ o. last_touch net r x ≡ o → option_or o (cond (touches st r x) (Some (puts st)) None) ≡ Some true → test (at_columns columns x) ≡ true) [
      | Some c ↦ λ later e. last_insert test r columns x net w.1 (later ∙ e)
      | None ↦ λ _ e. let v = cond_some (touches st r x) (puts st) true e in one_insert test r columns x st w.0 v.0 v.1
    ] refl e

-- ---- a row that is there and that a step deletes is asked for
all_facts : (test : List ℕ → Bool) (r : ℕ) (p : List ℕ → Bool) (k : List ℕ) (facts : List FactKey) → list_all (λ f. not ((f.relation == r) && p f.row) || test f.row) facts ≡ true → list_any (same_fact (fact r k)) facts ≡ true → p k ≡ true → test k ≡ true
all_facts test r p k [] all e h = absurd (true≢false (sym e))
all_facts test r p k (f ∷ fs) all e h =
    let w = and_parts (not ((f.relation == r) && p f.row) || test f.row) (list_all (λ g. not ((g.relation == r) && p g.row) || test g.row) fs) all in
    elim (or_cases (same_fact (fact r k) f) (list_any (same_fact (fact r k)) fs) e) [
      | inl here ↦
          let v = and_parts (r == f.relation) (same k f.row) here in
          let row : k ≡ f.row = alike k f.row v.1 in
          ap test row ∙ where_true ((f.relation == r) && p f.row) (test f.row) w.0 (and_from (f.relation == r) (p f.row) (eq-eqb f.relation r (sym (eqb-true r f.relation v.0))) (ap p (sym row) ∙ h))
      | inr later ↦ all_facts test r p k fs w.1 later h
    ]

one_delete : (test : List ℕ → Bool) (r : ℕ) (facts : List FactKey) (k : List ℕ) (st : Step) → delete_passes test r facts st ≡ true → list_any (same_fact (fact r k)) facts ≡ true → touches st r k ≡ true → puts st ≡ false → test k ≡ true
one_delete test r facts k (steps.Insert q row) all here t up = absurd (true≢false up)
one_delete test r facts k (steps.Delete q pattern) all here t up =
    let w = and_parts (q == r) (matches pattern k) t in
    all_facts test r (matches pattern) k facts (where_true (q == r) (list_all (λ f. not ((f.relation == r) && matches pattern f.row) || test f.row) facts) all w.0) here w.1
one_delete test r facts k (steps.Change c j by) all here t up = absurd (both_ways false refl t)

pub last_delete : (test : List ℕ → Bool) (r : ℕ) (facts : List FactKey) (k : List ℕ) (net : List Step) → list_all (delete_passes test r facts) net ≡ true → list_any (same_fact (fact r k)) facts ≡ true → last_touch net r k ≡ Some false → test k ≡ true
last_delete test r facts k [] all here e = absurd (none-some false e)
last_delete test r facts k (st ∷ net) all here e =
    let w = and_parts (delete_passes test r facts st) (list_all (delete_passes test r facts) net) all in
    elim (last_touch net r k) as (λ o. last_touch net r k ≡ o → option_or o (cond (touches st r k) (Some (puts st)) None) ≡ Some false → test k ≡ true) [
      | Some c ↦ λ later e. last_delete test r facts k net w.1 here (later ∙ e)
      | None ↦ λ _ e. let v = cond_some (touches st r k) (puts st) false e in one_delete test r facts k st w.0 here v.0 v.1
    ] refl e

-- a pattern of constants matches one fact at most
one_if : (test : List ℕ → Bool) (r : ℕ) (row : List ℕ) (facts : List FactKey) → (list_any (same_fact (fact r row)) facts ≡ true → test row ≡ true) → list_all (λ f. not ((f.relation == r) && is_row row f.row) || test f.row) facts ≡ true
one_if test r row [] h = refl
one_if test r row (f ∷ fs) h =
    and_from (not ((f.relation == r) && is_row row f.row) || test f.row) (list_all (λ g. not ((g.relation == r) && is_row row g.row) || test g.row) fs)
    (head (cases_Bool ((f.relation == r) && is_row row f.row)))
    (one_if test r row fs (λ e. h (or_right (same_fact (fact r row) f) (list_any (same_fact (fact r row)) fs) e)))
  where
    head : (((f.relation == r) && is_row row f.row) ≡ true) ⊎ (((f.relation == r) && is_row row f.row) ≡ false) → (not ((f.relation == r) && is_row row f.row) || test f.row) ≡ true
    head (inl here) =
        let w = and_parts (f.relation == r) (is_row row f.row) here in
        let it : same_fact (fact r row) f ≡ true = and_from (r == f.relation) (same row f.row) (eq-eqb r f.relation (sym (eqb-true f.relation r w.0))) (pointwise-row row f.row ∙ w.1) in
        or_right (not ((f.relation == r) && is_row row f.row)) (test f.row) (ap test (sym (is_row-same row f.row w.1)) ∙ h (or_left (same_fact (fact r row) f) (list_any (same_fact (fact r row)) fs) it))
    head (inr other) = or_left (not ((f.relation == r) && is_row row f.row)) (test f.row) (ap not other)

pub one_match : (test : List ℕ → Bool) (r : ℕ) (row : List ℕ) (pattern : List Term) (facts : List FactKey) → map Const row ≡ pattern → (not (list_any (same_fact (fact r row)) facts) || test row) ≡ list_all (λ f. not ((f.relation == r) && matches pattern f.row) || test f.row) facts
one_match test r row pattern facts is =
    same_tests _ _
    (λ e. one_if test r row facts (λ h. where_true (list_any (same_fact (fact r row)) facts) (test row) e h))
    (λ all. by (list_any (same_fact (fact r row)) facts) refl (λ h. all_facts test r (is_row row) row facts all h (is_row-itself row)))
    ∙ ap (λ p. list_all (λ f. not ((f.relation == r) && matches p f.row) || test f.row) facts) is
  where
    by : (b : Bool) → list_any (same_fact (fact r row)) facts ≡ b → (list_any (same_fact (fact r row)) facts ≡ true → test row ≡ true) → (not (list_any (same_fact (fact r row)) facts) || test row) ≡ true
    by true e f = or_right (not (list_any (same_fact (fact r row)) facts)) (test row) (f e)
    by false e f = or_left (not (list_any (same_fact (fact r row)) facts)) (test row) (ap not e)

-- ---- a key at which a counter changes is asked for
no_gain : (z w : ℤ) → z ≡ pos 0 → w ≡ pos 0 → z +ℤ w ≡ pos 0
no_gain z w e f = omega (arith, ints)

one_change : (test : List ℕ → Bool) (c k : ℕ) (st : Step) → change_passes test c st ≡ true → (test (k ∷ []) ≡ true) ⊎ (gain st c k ≡ pos 0)
one_change test c k (steps.Insert q row) all = inr refl
one_change test c k (steps.Delete q pattern) all = inr refl
one_change test c k (steps.Change d l by) all =
    elim (cases_Bool ((d == c) && (l == k))) [
      | inl here ↦
          let w = and_parts (d == c) (l == k) here in
          inl (ap (λ z. test (z ∷ [])) (sym (eqb-true l k w.1)) ∙ where_true (d == c) (test (l ∷ [])) all w.0)
      | inr other ↦ inr (cond-false ((d == c) && (l == k)) by (pos 0) other)
    ]

changes : (test : List ℕ → Bool) (c k : ℕ) (net : List Step) → list_all (change_passes test c) net ≡ true → (test (k ∷ []) ≡ true) ⊎ (gains net c k ≡ pos 0)
changes test c k [] all = inr refl
changes test c k (st ∷ net) all =
    let w = and_parts (change_passes test c st) (list_all (change_passes test c) net) all in
    elim (one_change test c k st w.0) [
      | inl passes ↦ inl passes
      | inr none ↦ elim (changes test c k net w.1) [
        | inl passes ↦ inl passes
        | inr rest ↦ inr (no_gain (gain st c k) (gains net c k) none rest)
      ]
    ]

pub some_change : (test : List ℕ → Bool) (c k : ℕ) (net : List Step) → list_all (change_passes test c) net ≡ true → gains net c k ≢ pos 0 → test (k ∷ []) ≡ true
some_change test c k net all ne =
    elim (changes test c k net all) [
      | inl passes ↦ passes
      | inr none ↦ absurd (ne none)
    ]

-- ---- what breaks newly is asked for
pub asked : (test : List ℕ → Bool) (net : List Step) (s : State) (v : Invariant) (facts : List FactKey) → ((r : ℕ) (x : List ℕ) → has s r x ≡ list_any (same_fact (fact r x)) facts) → list_all (spots_pass test v facts) net ≡ true → (k : List ℕ) → is_broken s v k ≡ false → is_broken (after_steps net s) v k ≡ true → test k ≡ true
asked test net s (invariants.Reference from columns to) facts kept all k was now =
    let w = all_left (insert_passes test from columns) (delete_passes test to facts) net all in
    elim (newly_referred (at_columns columns) (has s from) (has (after_steps net s) from) (has s to) (has (after_steps net s) to) k (tally s from columns k) (tally (after_steps net s) from columns k) (number-tally s from columns k) (number-tally (after_steps net s) from columns k) was now) [
      | inl came ↦ ap test (sym came.1) ∙ last_insert test from columns came.0 net w.0 (touched net s from came.0 false true came.3 came.2 (λ e. true≢false (sym e)))
      | inr gone ↦ last_delete test to facts k net w.1 (sym (kept to k) ∙ gone.0) (touched net s to k true false gone.0 gone.1 true≢false)
    ]
asked test net s (invariants.Unique r columns) facts kept all k was now =
    let came = newly_above (at_columns columns) (has s r) (has (after_steps net s) r) 1 k (tally s r columns k) (tally (after_steps net s) r columns k) (number-tally s r columns k) (number-tally (after_steps net s) r columns k) was now in
    ap test (sym came.1) ∙ last_insert test r columns came.0 net all (touched net s r came.0 false true came.3 came.2 (λ e. true≢false (sym e)))
asked test net s (invariants.Low c limit) facts kept all [] was now = absurd (true≢false (sym now))
asked test net s (invariants.Low c limit) facts kept all (k ∷ []) was now = some_change test c k net all (at_key (λ v. not (int_le limit v)) net s c k was now)
asked test net s (invariants.Low c limit) facts kept all (k ∷ j ∷ ks) was now = absurd (true≢false (sym now))
asked test net s (invariants.High c limit) facts kept all [] was now = absurd (true≢false (sym now))
asked test net s (invariants.High c limit) facts kept all (k ∷ []) was now = some_change test c k net all (at_key (λ v. not (int_le v limit)) net s c k was now)
asked test net s (invariants.High c limit) facts kept all (k ∷ j ∷ ks) was now = absurd (true≢false (sym now))

-- ---- the two questions, exactly
spots_ok : (test : List ℕ → Bool) (v : Invariant) (facts : List FactKey) → ((k : List ℕ) → test k ≡ true) → (st : Step) → spots_pass test v facts st ≡ true
spots_ok test (invariants.Reference from columns to) facts each st = and_from (insert_passes test from columns st) (delete_passes test to facts st) (inserts st) (deletes st)
  where
    inserts : (st : Step) → insert_passes test from columns st ≡ true
    inserts (steps.Insert q row) = or_right (not (q == from)) _ (each (at_columns columns row))
    inserts (steps.Delete q pattern) = refl
    inserts (steps.Change c k by) = refl

    deletes : (st : Step) → delete_passes test to facts st ≡ true
    deletes (steps.Insert q row) = refl
    deletes (steps.Delete q pattern) = or_right (not (q == to)) _ (all_of (λ f. not ((f.relation == to) && matches pattern f.row) || test f.row) facts (λ f. or_right (not ((f.relation == to) && matches pattern f.row)) (test f.row) (each f.row)))
    deletes (steps.Change c k by) = refl
spots_ok test (invariants.Unique r columns) facts each (steps.Insert q row) = or_right (not (q == r)) _ (each (at_columns columns row))
spots_ok test (invariants.Unique r columns) facts each (steps.Delete q pattern) = refl
spots_ok test (invariants.Unique r columns) facts each (steps.Change c k by) = refl
spots_ok test (invariants.Low c limit) facts each (steps.Insert q row) = refl
spots_ok test (invariants.Low c limit) facts each (steps.Delete q pattern) = refl
spots_ok test (invariants.Low c limit) facts each (steps.Change d k by) = or_right (not (d == c)) _ (each (k ∷ []))
spots_ok test (invariants.High c limit) facts each (steps.Insert q row) = refl
spots_ok test (invariants.High c limit) facts each (steps.Delete q pattern) = refl
spots_ok test (invariants.High c limit) facts each (steps.Change d k by) = or_right (not (d == c)) _ (each (k ∷ []))

pub exactly : (net : List Step) (s : State) (v : Invariant) (facts : List FactKey) (broken : List (List ℕ)) → ((r : ℕ) (x : List ℕ) → has s r x ≡ list_any (same_fact (fact r x)) facts) → ((k : List ℕ) → list_any (same k) broken ≡ is_broken s v k) →
    (list_all (is_sound_after s v net) broken && list_all (spots_pass (is_sound_after s v net) v facts) net) ≡ true ↔ ((k : List ℕ) → is_broken (after_steps net s) v k ≡ false)
exactly net s v facts broken kept marked = (
  λ e k. let w = and_parts (list_all (is_sound_after s v net) broken) (list_all (spots_pass (is_sound_after s v net) v facts) net) e in by k w.0 w.1 (is_broken s v k) refl (is_broken (after_steps net s) v k) refl,
  λ each. and_from (list_all (is_sound_after s v net) broken) (list_all (spots_pass (is_sound_after s v net) v facts) net)
      (all_of (is_sound_after s v net) broken (λ k. false_to_not _ (each k)))
      (all_of (spots_pass (is_sound_after s v net) v facts) net (spots_ok (is_sound_after s v net) v facts (λ k. false_to_not _ (each k)))),
)
  where
    by : (k : List ℕ) → list_all (is_sound_after s v net) broken ≡ true → list_all (spots_pass (is_sound_after s v net) v facts) net ≡ true → (was : Bool) → is_broken s v k ≡ was → (now : Bool) → is_broken (after_steps net s) v k ≡ now → is_broken (after_steps net s) v k ≡ false
    by k old new was e false g = g
    by k old new true e true g = not_to_true _ (all_in (is_sound_after s v net) broken k old (marked k ∙ e))
    by k old new false e true g = not_to_true _ (asked (is_sound_after s v net) net s v facts kept new k e g)
