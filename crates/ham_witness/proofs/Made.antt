-- The steps of a made-up state are few and small, and they make a well-formed state.
use Rattle.std.proofs.Common.{◌≡◌, ℕ, zero, suc, ◌+◌, ◌*◌, ◌^◌, ◌≤◌, ◌<◌, Bool, true, false, cond, List, [], ◌∷◌, length, get_or, drop, map, Option, Some, None, refl, sym, ap, subst, ◌∙◌, inl, inr, arith, length-append}
use Rattle.std.specs.Prelude.{ℤ, pos, nat_abs, nat_le, ◌==◌, ◌&&◌, ◌+ℤ◌, slice_get, IfSome, if◌then◌else◌}
use Rattle.std.specs.List.{AllByRecursion, range_with_len}
use Rattle.std.proofs.lemmas.Bool.{both_ways, and_parts, cases_Bool, cond-true, cond-false, eqb-true, leb-true}
use Rattle.std.proofs.lemmas.List.{length-map}
use Rattle.std.proofs.lemmas.List.FromFn.{length-range_with_len, length-map-range_with_len}
use Rattle.ham_syntax.specs.declared.object.Relation.{Relation}
use Rattle.ham_syntax.specs.declared.object.Counter.{Counter}
use Rattle.ham_syntax.specs.Objects.{Schema, columns_of}
use Rattle.ham_syntax.specs.Checked.{IsChecked, IsRelation}
use Rattle.ham_steps.specs.declared.step.Step.{Step}
use Rattle.ham_steps.specs.declared.step.Step.TheVariants as steps
use Rattle.ham_steps.specs.Pattern.{is_row}
use Rattle.ham_steps.specs.Content.{State, has, value, opening}
use Rattle.ham_steps.specs.Steps.{after_step, after_steps, IsWithin}
use Rattle.ham_steps.specs.Touch.{touches, puts, gain}
use Rattle.ham_steps.proofs.ContentLaws.{has-opening, value-opening, is_row-same}
use Rattle.ham_steps.proofs.LastTouch.{has-after_step, value-after_step}
use Rattle.ham_steps.proofs.Amounts.{abs_sum, steps_next}
use Rattle.ham_meaning.specs.OfObjects.{HasColumns}
use Rattle.ham_witness.specs.declared.ids.Ids.{Ids}
use Rattle.ham_witness.specs.declared.kinds.Kinds.{Kinds}
use Rattle.ham_witness.specs.declared.kinds.CounterKind.{CounterKind}
use Rattle.ham_witness.specs.declared.kinds.CounterKind.TheVariants.{Zero, AboveLow, BelowHigh}
use Rattle.ham_witness.specs.Cases.{row_by, inserts_if, stands, row_steps_of, row_steps, id_by, small_or_0, beside, value_by, greatest_low, least_high, keys_by, value_steps_of, value_steps, state_steps, state_of}
use Rattle.ham_witness.proofs.Building.{all-append, all-flat_map, all-map, length-pieces}

-- ---- small
pub small_is : (z : ℤ) → nat_abs (small_or_0 z) ≤ 2 ^ 50
small_is z = by (nat_le (nat_abs z) (2 ^ 50)) refl
  where
    by : (b : Bool) → nat_le (nat_abs z) (2 ^ 50) ≡ b → nat_abs (if b then z else pos 0) ≤ 2 ^ 50
    by true e = leb-true (nat_abs z) (2 ^ 50) e
    by false e = omega arith

small_beside : (by : ℤ) (limit : Option ℤ) → nat_abs (beside by limit) ≤ 2 ^ 50
small_beside by None = omega arith
small_beside by (Some limit) = small_is (limit +ℤ by)

small_value : (o : Schema) (kind : CounterKind) (c : ℕ) → nat_abs (value_by o kind c) ≤ 2 ^ 50
small_value o Zero c = omega arith
small_value o AboveLow c = small_beside _ (greatest_low o.invariants c)
small_value o BelowHigh c = small_beside _ (least_high o.invariants c)

small_inserts : (ids : Ids) (there : Bool) (r : ℕ) (width : Option ℕ) → AllByRecursion (IsWithin (2 ^ 50)) (inserts_if ids there r width)
small_inserts ids there r None = tt
small_inserts ids true r (Some width) = all-map (IsWithin (2 ^ 50)) (λ mask. steps.Insert r (row_by ids width mask)) (λ mask. tt) (range_with_len 0 (2 ^ width))
small_inserts ids false r (Some width) = tt

pub small_steps : (o : Schema) (ids : Ids) (kinds : Kinds) → AllByRecursion (IsWithin (2 ^ 50)) (state_steps o ids kinds)
small_steps o ids kinds =
    all-append (IsWithin (2 ^ 50)) (row_steps o ids kinds.rows) (value_steps o ids kinds.counters)
    (all-flat_map (IsWithin (2 ^ 50)) (row_steps_of o ids kinds.rows) (λ r. small_inserts ids (stands o kinds.rows r) r (slice_get (columns_of o) r)) (range_with_len 0 (length o.relations)))
    (all-flat_map (IsWithin (2 ^ 50)) (value_steps_of o ids kinds.counters)
    (λ c. all-map (IsWithin (2 ^ 50)) (λ key. steps.Change c key (value_by o kinds.counters c)) (λ key. small_value o kinds.counters c) (keys_by ids (slice_get o.counters c)))
    (range_with_len 0 (length o.counters)))

-- ---- few
few_masks : (width : ℕ) → width ≤ 4 → 2 ^ width ≤ 16
few_masks zero le = omega arith
few_masks (suc zero) le = omega arith
few_masks (suc (suc zero)) le = omega arith
few_masks (suc (suc (suc zero))) le = omega arith
few_masks (suc (suc (suc (suc zero)))) le = omega arith
few_masks (suc (suc (suc (suc (suc n))))) le = absurd (omega arith)

few_inserts : (ids : Ids) (there : Bool) (r : ℕ) (width : Option ℕ) → IfSome width (λ w. w ≤ 4) → length (inserts_if ids there r width) ≤ 16
few_inserts ids there r None le = omega arith
few_inserts ids true r (Some width) le =
    let long = length-map-range_with_len (λ mask. steps.Insert r (row_by ids width mask)) 0 (2 ^ width) in
    let few = few_masks width le in
    omega arith
few_inserts ids false r (Some width) le = omega arith

few_columns : (relations : List Relation) (r : ℕ) → AllByRecursion IsRelation relations → IfSome (slice_get (map (λ q. q.columns) relations) r) (λ w. w ≤ 4)
few_columns [] r all = tt
few_columns (q ∷ relations) zero all = all.0.1
few_columns (q ∷ relations) (suc r) all = few_columns relations r all.1

few_keys : (ids : Ids) (counter : Option Counter) → length (keys_by ids counter) ≤ 2
few_keys ids None = omega arith
few_keys ids (Some counter) = by counter.keyed
  where
    by : (b : Bool) → length (if b then ids.c ∷ ids.d ∷ [] else 0 ∷ []) ≤ 2
    by true = omega arith
    by false = omega arith

pub few_steps : (o : Schema) (ids : Ids) (kinds : Kinds) → IsChecked o → length (state_steps o ids kinds) ≤ 288
few_steps o ids kinds checked =
    let rows = length-pieces (row_steps_of o ids kinds.rows) 16 (λ r. few_inserts ids (stands o kinds.rows r) r (slice_get (columns_of o) r) (few_columns o.relations r checked.each_relation)) (range_with_len 0 (length o.relations)) in
    let values = length-pieces (value_steps_of o ids kinds.counters) 2
    (λ c. let same = length-map (keys_by ids (slice_get o.counters c)) (λ key. steps.Change c key (value_by o kinds.counters c)) in let few = few_keys ids (slice_get o.counters c) in omega arith)
    (range_with_len 0 (length o.counters)) in
    let relations = length-range_with_len 0 (length o.relations) in
    let counters = length-range_with_len 0 (length o.counters) in
    let both = length-append (row_steps o ids kinds.rows) (value_steps o ids kinds.counters) in
    let few_relations = checked.few_relations in
    let few_counters = checked.few_counters in
    omega arith

-- ---- taken one by one
pub record Taken (all : List Step) (i : ℕ) (s : State) : Type 0 where
  pub rest : after_steps (drop i all) s ≡ after_steps all opening
  pub values : (c k : ℕ) → nat_abs (value s c k) ≤ i * 2 ^ 50
  pub within : i ≤ length all

gain_within : (n : ℕ) (st : Step) (c k : ℕ) → IsWithin n st → nat_abs (gain st c k) ≤ n
gain_within n (steps.Insert r row) c k h = omega arith
gain_within n (steps.Delete r pattern) c k h = omega arith
gain_within n (steps.Change d l by) c k h = elim (cases_Bool ((d == c) && (l == k))) [
  | inl e ↦ rw e h
  | inr e ↦ rw e (omega arith)
]

pub taken-none : (all : List Step) (s : State) → s ≡ opening → Taken all 0 s
taken-none all s e = record {
  rest = ap (after_steps all) e;
  values = λ c k. subst (λ (t : State). nat_abs (value t c k) ≤ 0 * 2 ^ 50) (sym e) (subst (λ z. nat_abs z ≤ 0 * 2 ^ 50) (sym (value-opening c k)) (omega arith));
  within = omega arith;
}

pub taken-more : (all : List Step) (i : ℕ) (st : Step) (s new : State) → i < length all → st ≡ get_or all i st → IsWithin (2 ^ 50) st → new ≡ after_step st s → Taken all i s → Taken all (i + 1) new
taken-more all i st s new lt is small e h = record {
  rest =
      ap (after_steps (drop (i + 1) all)) (e ∙ ap (λ (x : Step). after_step x s) is)
      ∙ (sym (steps_next all i st s lt) ∙ h.rest);
  values = λ c k.
      let before = h.values c k in
      let sum = abs_sum (value s c k) (gain st c k) in
      let by = gain_within (2 ^ 50) st c k small in
      subst (λ (t : State). nat_abs (value t c k) ≤ (i + 1) * 2 ^ 50) (sym e) (subst (λ z. nat_abs z ≤ (i + 1) * 2 ^ 50) (sym (value-after_step st s c k)) (omega arith));
  within = omega arith;
}

-- ---- well-formed

-- the step puts rows of their relation's width
PutsWidth : List ℕ → Step → Type 0
PutsWidth columns (steps.Insert q row) = slice_get columns q ≡ Some (length row)
PutsWidth columns (steps.Delete q pattern) = Unit {0}
PutsWidth columns (steps.Change c k by) = Unit {0}

puts_width : (columns : List ℕ) (st : Step) (r : ℕ) (x : List ℕ) → PutsWidth columns st → touches st r x ≡ true → puts st ≡ true → slice_get columns r ≡ Some (length x)
unfolding PutsWidth
puts_width columns (steps.Insert q row) r x width touched up =
    let w = and_parts (q == r) (is_row row x) touched in
    ap (slice_get columns) (sym (eqb-true q r w.0)) ∙ width ∙ ap (λ (y : List ℕ). Some (length y)) (is_row-same row x w.1)
puts_width columns (steps.Delete q pattern) r x width touched up = absurd (both_ways false refl up)
puts_width columns (steps.Change c k by) r x width touched up = absurd (both_ways false refl touched)

step_keeps : (columns : List ℕ) (st : Step) (s : State) → PutsWidth columns st → HasColumns columns s → HasColumns columns (after_step st s)
step_keeps columns st s width ok = λ r x here.
    let now : cond (touches st r x) (puts st) (has s r x) ≡ true = sym (has-after_step st s r x) ∙ here in
    elim (cases_Bool (touches st r x)) [
      | inl touched ↦ puts_width columns st r x width touched (sym (cond-true (touches st r x) (puts st) (has s r x) touched) ∙ now)
      | inr other ↦ ok r x (sym (cond-false (touches st r x) (puts st) (has s r x) other) ∙ now)
    ]

steps_keep : (columns : List ℕ) (all : List Step) (s : State) → AllByRecursion (PutsWidth columns) all → HasColumns columns s → HasColumns columns (after_steps all s)
steps_keep columns [] s width ok = ok
steps_keep columns (st ∷ all) s width ok = steps_keep columns all (after_step st s) width.1 (step_keeps columns st s width.0 ok)

inserts_width : (ids : Ids) (columns : List ℕ) (there : Bool) (r : ℕ) (width : Option ℕ) → slice_get columns r ≡ width → AllByRecursion (PutsWidth columns) (inserts_if ids there r width)
unfolding PutsWidth
inserts_width ids columns there r None e = tt
inserts_width ids columns true r (Some width) e = all-map (PutsWidth columns) (λ mask. steps.Insert r (row_by ids width mask)) (λ mask. e ∙ ap Some (sym (length-map-range_with_len (id_by ids mask) 0 width))) (range_with_len 0 (2 ^ width))
inserts_width ids columns false r (Some width) e = tt

pub well_formed : (o : Schema) (ids : Ids) (kinds : Kinds) → HasColumns (columns_of o) (state_of o ids kinds)
unfolding PutsWidth state_of
well_formed o ids kinds =
    steps_keep (columns_of o) (state_steps o ids kinds) opening
    (all-append (PutsWidth (columns_of o)) (row_steps o ids kinds.rows) (value_steps o ids kinds.counters)
    (all-flat_map (PutsWidth (columns_of o)) (row_steps_of o ids kinds.rows) (λ r. inserts_width ids (columns_of o) (stands o kinds.rows r) r (slice_get (columns_of o) r) refl) (range_with_len 0 (length o.relations)))
    (all-flat_map (PutsWidth (columns_of o)) (value_steps_of o ids kinds.counters)
    (λ c. all-map (PutsWidth (columns_of o)) (λ key. steps.Change c key (value_by o kinds.counters c)) (λ key. tt) (keys_by ids (slice_get o.counters c)))
    (range_with_len 0 (length o.counters))))
    (λ r x here. absurd (both_ways (has opening r x) (has-opening r x) here))

pub made_is : (o : Schema) (ids : Ids) (kinds : Kinds) (made : List Step) (s : State) → made ≡ state_steps o ids kinds → s ≡ after_steps made opening → s ≡ state_of o ids kinds
unfolding state_of
made_is o ids kinds made s e is = is ∙ ap (λ (xs : List Step). after_steps xs opening) e

-- ---- the changes of a counter

module _ (o : Schema) (ids : Ids) (kind : CounterKind) (c : ℕ) (counter : Counter) (is : slice_get o.counters c ≡ Some counter) where
  pub two_changes : (one other : Step) → one ≡ steps.Change c ids.c (value_by o kind c) → other ≡ steps.Change c ids.d (value_by o kind c) → counter.keyed ≡ true → one ∷ other ∷ [] ≡ value_steps_of o ids kind c
  two_changes one other first second keyed =
      (λ i. first i ∷ second i ∷ [])
      ∙ (ap (λ (b : Bool). map (λ key. steps.Change c key (value_by o kind c)) (if b then ids.c ∷ ids.d ∷ [] else 0 ∷ [])) (sym keyed)
      ∙ ap (λ (found : Option Counter). map (λ key. steps.Change c key (value_by o kind c)) (keys_by ids found)) (sym is))

  pub one_change : (one : Step) → one ≡ steps.Change c 0 (value_by o kind c) → counter.keyed ≡ false → one ∷ [] ≡ value_steps_of o ids kind c
  one_change one first plain =
      (λ i. first i ∷ [])
      ∙ (ap (λ (b : Bool). map (λ key. steps.Change c key (value_by o kind c)) (if b then ids.c ∷ ids.d ∷ [] else 0 ∷ [])) (sym plain)
      ∙ ap (λ (found : Option Counter). map (λ key. steps.Change c key (value_by o kind c)) (keys_by ids found)) (sym is))
