-- Rows at a key: none, one, and all of them after steps.
use Rattle.std.proofs.Common.{◌≡◌, ℕ, ◌+◌, ◌<◌, Bool, true, false, cond, not, ◌&&◌, ◌||◌, List, [], ◌∷◌, Option, Some, None, refl, sym, ap, ◌∙◌, subst, inl, inr, arith}
use Rattle.std.specs.Prelude.{ℤ, ◌==◌, unwrap_or, nat_lt, if◌then◌else◌}
use Rattle.std.specs.Option.{option_or}
use Rattle.std.specs.List.{list_all, list_any}
use Rattle.std.proofs.lemmas.Bool.{and_parts, and_from, or_cases, or_right, or_left, both_ways, eqb-true, eq-eqb, true≢false, lt-ltb, ltb-true, false_from_ne_true}
use Rattle.std.proofs.lemmas.Option.{none-some, cond_some}
use Rattle.std.specs.HashMap.{HashMap}
use Rattle.std.specs.HashSet.{HashSet}
use Rattle.ham_content.specs.Numbers.{same}
use Rattle.ham_content.proofs.Numbers.{alike}
use Rattle.ham_steps.specs.declared.step.Step.{Step}
use Rattle.ham_steps.specs.declared.step.Step.TheVariants as steps
use Rattle.ham_steps.specs.Pattern.{is_row}
use Rattle.ham_steps.specs.Content.{State, has, rows, without_rows}
use Rattle.ham_steps.specs.Steps.{after_steps}
use Rattle.ham_steps.specs.Touch.{touches, puts, last_touch}
use Rattle.ham_steps.proofs.ContentLaws.{all_rows, rows_all, same_tests, is_row-same, has-without_rows}
use Rattle.ham_steps.proofs.LastTouch.{has-after_steps}
use Rattle.ham_content.specs.declared.tables.FactKey.{FactKey}
use Rattle.ham_content.specs.declared.tables.Spot.{Spot}
use Rattle.ham_content.specs.Kept.{fact, same_fact, content}
use Rattle.ham_content.specs.Counted.{at_columns, tally}
use Rattle.ham_state.specs.Ahead.{unless_gone, put_passes, is_elsewhere, may_stand_with, is_alone}
use Rattle.ham_content.proofs.Contents.{has-content, pointwise-row}
use Rattle.ham_content.proofs.Tallies.{itself, number-tally, tally-some}
use Rattle.ham_content.proofs.Counting.{tally-without_row}
use Rattle.ham_state.proofs.Breaks.{some_row_at}
use Rattle.ham_state.proofs.Looking.{where_true, not_to_true, false_to_not, all_of}

-- ---- a test of all rows after steps, by the facts and the steps
one_put : (test : List ℕ → Bool) (r : ℕ) (x : List ℕ) (st : Step) → put_passes test r st ≡ true → touches st r x ≡ true → puts st ≡ true → test x ≡ true
one_put test r x (steps.Insert q row) all t up =
    let w = and_parts (q == r) (is_row row x) t in
    ap test (sym (is_row-same row x w.1)) ∙ where_true (q == r) (test row) all w.0
one_put test r x (steps.Delete q pattern) all t up = absurd (both_ways false refl up)
one_put test r x (steps.Change c k by) all t up = absurd (both_ways false refl up)

last_put : (test : List ℕ → Bool) (r : ℕ) (x : List ℕ) (net : List Step) → list_all (put_passes test r) net ≡ true → last_touch net r x ≡ Some true → test x ≡ true
last_put test r x [] all e = absurd (none-some true e)
last_put test r x (st ∷ net) all e =
    let w = and_parts (put_passes test r st) (list_all (put_passes test r) net) all in
    elim (last_touch net r x) as (λ o. last_touch net r x ≡ o → option_or o (cond (touches st r x) (Some (puts st)) None) ≡ Some true → test x ≡ true) [
      | Some c ↦ λ later e. last_put test r x net w.1 (later ∙ e)
      | None ↦ λ _ e. let v = cond_some (touches st r x) (puts st) true e in one_put test r x st w.0 v.0 v.1
    ] refl e

one_fact : (test : List ℕ → Bool) (r : ℕ) (x : List ℕ) (facts : List FactKey) → list_all (λ f. not (f.relation == r) || test f.row) facts ≡ true → list_any (same_fact (fact r x)) facts ≡ true → test x ≡ true
one_fact test r x [] all e = absurd (true≢false (sym e))
one_fact test r x (f ∷ fs) all e =
    let w = and_parts (not (f.relation == r) || test f.row) (list_all (λ g. not (g.relation == r) || test g.row) fs) all in
    elim (or_cases (same_fact (fact r x) f) (list_any (same_fact (fact r x)) fs) e) [
      | inl here ↦
          let v = and_parts (r == f.relation) (same x f.row) here in
          ap test (alike x f.row v.1) ∙ where_true (f.relation == r) (test f.row) w.0 (eq-eqb f.relation r (sym (eqb-true r f.relation v.0)))
      | inr later ↦ one_fact test r x fs w.1 later
    ]

puts_ok : (test : List ℕ → Bool) (r : ℕ) → ((x : List ℕ) → test x ≡ true) → (st : Step) → put_passes test r st ≡ true
puts_ok test r each (steps.Insert q row) = or_right (not (q == r)) (test row) (each row)
puts_ok test r each (steps.Delete q pattern) = refl
puts_ok test r each (steps.Change c k by) = refl

pub all_after : {S T : Type 0} (facts : HashSet FactKey S) (amounts : HashMap Spot ℤ T) (net : List Step) (r : ℕ) (p : List ℕ → Bool) →
    (list_all (λ f. not (f.relation == r) || unless_gone (content facts amounts) net r p f.row) facts.keys && list_all (put_passes (unless_gone (content facts amounts) net r p) r) net) ≡ list_all p (rows (after_steps net (content facts amounts)) r)
all_after facts amounts net r p =
    same_tests _ _
    (λ e.
    let w = and_parts (list_all (λ f. not (f.relation == r) || unless_gone (content facts amounts) net r p f.row) facts.keys) (list_all (put_passes (unless_gone (content facts amounts) net r p) r) net) e in
    rows_all (after_steps net (content facts amounts)) r p (λ x here. where_true (has (after_steps net (content facts amounts)) r x) (p x) (seen w.0 w.1 x (last_touch net r x) refl (sym (has-after_steps net (content facts amounts) r x) ∙ here)) here))
    (λ e.
    let each : (x : List ℕ) → unless_gone (content facts amounts) net r p x ≡ true = λ x. stays x (has (after_steps net (content facts amounts)) r x) refl (all_rows (after_steps net (content facts amounts)) r p e x) in
    and_from _ _
    (all_of (λ f. not (f.relation == r) || unless_gone (content facts amounts) net r p f.row) facts.keys (λ f. or_right (not (f.relation == r)) (unless_gone (content facts amounts) net r p f.row) (each f.row)))
    (all_of (put_passes (unless_gone (content facts amounts) net r p) r) net (puts_ok (unless_gone (content facts amounts) net r p) r each)))
  where
    stays : (x : List ℕ) (b : Bool) → has (after_steps net (content facts amounts)) r x ≡ b → (has (after_steps net (content facts amounts)) r x ≡ true → p x ≡ true) → unless_gone (content facts amounts) net r p x ≡ true
    stays x true e f = or_right (not (has (after_steps net (content facts amounts)) r x)) (p x) (f e)
    stays x false e f = or_left (not (has (after_steps net (content facts amounts)) r x)) (p x) (false_to_not _ e)

    seen : list_all (λ f. not (f.relation == r) || unless_gone (content facts amounts) net r p f.row) facts.keys ≡ true → list_all (put_passes (unless_gone (content facts amounts) net r p) r) net ≡ true →
        (x : List ℕ) (o : Option Bool) → last_touch net r x ≡ o → unwrap_or o (has (content facts amounts) r x) ≡ true → unless_gone (content facts amounts) net r p x ≡ true
    seen kept put x None last here = one_fact (unless_gone (content facts amounts) net r p) r x facts.keys kept (sym (has-content facts amounts r x) ∙ here)
    seen kept put x (Some b) last up = last_put (unless_gone (content facts amounts) net r p) r x net put (last ∙ ap Some up)

pub all_after_by : {S T : Type 0} (facts : HashSet FactKey S) (amounts : HashMap Spot ℤ T) (net : List Step) (r : ℕ) (p : List ℕ → Bool) (kept put : Bool) →
    kept ≡ list_all (λ f. not (f.relation == r) || unless_gone (content facts amounts) net r p f.row) facts.keys → put ≡ list_all (put_passes (unless_gone (content facts amounts) net r p) r) net → (kept && put) ≡ list_all p (rows (after_steps net (content facts amounts)) r)
all_after_by facts amounts net r p kept put e f = (λ i. e i && f i) ∙ all_after facts amounts net r p

-- ---- no row at a key
not_above : (n : ℕ) → (0 < n → ⊥) → not (nat_lt 0 n) ≡ true
not_above n f = false_to_not _ (false_from_ne_true (nat_lt 0 n) (λ e. f (ltb-true 0 n e)))

pub none_at : (s : State) (r : ℕ) (columns k : List ℕ) → list_all (is_elsewhere columns k) (rows s r) ≡ not (nat_lt 0 (tally s r columns k))
none_at s r columns k =
    same_tests _ _
    (λ all. not_above (tally s r columns k) (λ l.
    let w = some_row_at (at_columns columns) (has s r) k (tally s r columns k) (number-tally s r columns k) l in
    true≢false (sym (all_rows s r (is_elsewhere columns k) all w.0 w.2) ∙ ap not (ap (λ z. same z k) w.1 ∙ itself k))))
    (λ none. rows_all s r (is_elsewhere columns k) (λ x there. false_to_not _ (false_from_ne_true (same (at_columns columns x) k) (λ e.
    let some : 0 < tally s r columns k = subst (λ z. 0 < tally s r columns z) (alike (at_columns columns x) k e) (tally-some s r x columns there) in
    both_ways (nat_lt 0 (tally s r columns k)) (not_to_true _ none) (lt-ltb 0 (tally s r columns k) some)))))

-- ---- at most one row at a key: without one of them there is none
-- two rows that differ make two
pub two_at : (s : State) (r : ℕ) (columns k x y : List ℕ) → has s r x ≡ true → has s r y ≡ true → at_columns columns x ≡ k → at_columns columns y ≡ k → same x y ≡ false → 1 < tally s r columns k
two_at s r columns k x y hx hy ex ey apart =
    let left : has (without_rows s r (is_row x)) r y ≡ true = has-without_rows s r (is_row x) r y ∙ (λ i. hy i && not (eq-eqb r r refl i && (sym (pointwise-row x y) ∙ apart) i)) in
    let some : 0 < tally (without_rows s r (is_row x)) r columns k = subst (λ z. 0 < tally (without_rows s r (is_row x)) r columns z) ey (tally-some (without_rows s r (is_row x)) r y columns left) in
    let less = tally-without_row s r x r columns k hx in
    let here : ((r == r) && same (at_columns columns x) k) ≡ true = and_from (r == r) (same (at_columns columns x) k) (eq-eqb r r refl) (ap (λ z. same z k) ex ∙ itself k) in
    let one : tally (without_rows s r (is_row x)) r columns k + 1 ≡ tally s r columns k = ap (λ b. tally (without_rows s r (is_row x)) r columns k + (if b then 1 else 0)) (sym here) ∙ less in
    omega (arith, some, one)

-- more than one make two that differ
pub two_of : (s : State) (r : ℕ) (columns k : List ℕ) → 1 < tally s r columns k → (x y : List ℕ) × (has s r x ≡ true) × (has s r y ≡ true) × (at_columns columns x ≡ k) × (at_columns columns y ≡ k) × (same x y ≡ false)
two_of s r columns k l =
    let w = some_row_at (at_columns columns) (has s r) k (tally s r columns k) (number-tally s r columns k) (omega (arith, l)) in
    let x = w.0 in
    let less = tally-without_row s r x r columns k w.2 in
    let here : ((r == r) && same (at_columns columns x) k) ≡ true = and_from (r == r) (same (at_columns columns x) k) (eq-eqb r r refl) (ap (λ z. same z k) w.1 ∙ itself k) in
    let one : tally (without_rows s r (is_row x)) r columns k + 1 ≡ tally s r columns k = ap (λ b. tally (without_rows s r (is_row x)) r columns k + (if b then 1 else 0)) (sym here) ∙ less in
    let v = some_row_at (at_columns columns) (has (without_rows s r (is_row x)) r) k (tally (without_rows s r (is_row x)) r columns k) (number-tally (without_rows s r (is_row x)) r columns k) (omega (arith, l, one)) in
    let p = and_parts (has s r v.0) (not ((r == r) && is_row x v.0)) (sym (has-without_rows s r (is_row x) r v.0) ∙ v.2) in
    let other : ((r == r) && is_row x v.0) ≡ false = not_to_true _ p.1 in
    (x, v.0, w.2, p.0, w.1, v.1, pointwise-row x v.0 ∙ sym (ap (λ b. b && is_row x v.0) (eq-eqb r r refl)) ∙ other)

not_two : (n : ℕ) → (1 < n → ⊥) → not (nat_lt 1 n) ≡ true
not_two n f = false_to_not _ (false_from_ne_true (nat_lt 1 n) (λ e. f (ltb-true 1 n e)))

pub one_at : (s : State) (r : ℕ) (columns k : List ℕ) → list_all (is_alone columns k (rows s r)) (rows s r) ≡ not (nat_lt 1 (tally s r columns k))
one_at s r columns k =
    same_tests _ _
    (λ all. not_two (tally s r columns k) (λ l.
    let w = two_of s r columns k l in
    let x = w.0 in
    let y = w.1 in
    let here : not (is_elsewhere columns k x) ≡ true = ap (λ z. not (not (same z k))) w.4 ∙ ap (λ b. not (not b)) (itself k) in
    let there : not (is_elsewhere columns k y) ≡ true = ap (λ z. not (not (same z k))) w.5 ∙ ap (λ b. not (not b)) (itself k) in
    let first = only (is_elsewhere columns k x) (list_all (may_stand_with columns k x) (rows s r)) (not_to_true _ here) (all_rows s r (is_alone columns k (rows s r)) all x w.2) in
    let second = only (is_elsewhere columns k y) (same x y) (not_to_true _ there) (all_rows s r (may_stand_with columns k x) first y w.3) in
    true≢false (sym second ∙ w.6)))
    (λ few. rows_all s r (is_alone columns k (rows s r)) (λ x hx. unless (same (at_columns columns x) k) (list_all (may_stand_with columns k x) (rows s r)) (λ ex.
    rows_all s r (may_stand_with columns k x) (λ y hy. unless (same (at_columns columns y) k) (same x y) (λ ey. one x y hx hy ex ey few (same x y) refl)))))
  where
    only : (a b : Bool) → a ≡ false → (a || b) ≡ true → b ≡ true
    only true b e h = absurd (true≢false e)
    only false b e h = h

    unless : (a b : Bool) → (a ≡ true → b ≡ true) → (not a || b) ≡ true
    unless true b f = f refl
    unless false b f = refl

    one : (x y : List ℕ) → has s r x ≡ true → has s r y ≡ true → same (at_columns columns x) k ≡ true → same (at_columns columns y) k ≡ true → not (nat_lt 1 (tally s r columns k)) ≡ true → (b : Bool) → same x y ≡ b → same x y ≡ true
    one x y hx hy ex ey few true e = e
    one x y hx hy ex ey few false e =
        absurd (both_ways (nat_lt 1 (tally s r columns k)) (not_to_true _ few) (lt-ltb 1 (tally s r columns k) (two_at s r columns k x y hx hy (alike _ k ex) (alike _ k ey) e)))
