-- Plans with the same methods, replicas, conflicts and dependencies say the same of lanes, deciders and slots.
use Rattle.std.proofs.Common.{◌≡◌, ℕ, zero, suc, ◌+◌, ◌-◌, ◌*◌, ◌%◌, ◌≤◌, Bool, if◌then◌else◌, [], ◌++◌, Option, Some, None, refl, sym, ap, subst, ◌∙◌, arith}
use Rattle.std.specs.Prelude.{nat_lt}
use Rattle.std.specs.List.{range_with_len}
use Rattle.std.specs.Option.{option_map}
use Rattle.ham_plan.specs.Groups.{IsLeastOf}
use Rattle.ham_plan.specs.Same.{SaysSame, GivesSame}
use Rattle.ham_plan.proofs.PlanFacts.{not_free}
use Rattle.ham_plan.specs.Plans.{Plan, IsPlan, conflicts, least_of, is_none, is_own, is_free, is_first, groups, lane_of, width, first_slot, needs_below, count_below, sum_below}

one_least : (conflict : ℕ → ℕ → Bool) (m : ℕ) (a b : Option ℕ) → IsLeastOf conflict m a → IsLeastOf conflict m b → a ≡ b
one_least conflict m None None h k = refl
one_least conflict m None (Some l) h k = absurd (not_free conflict m l k.0.between h k.0.is_chain)
one_least conflict m (Some l) None h k = absurd (not_free conflict m l h.0.between k h.0.is_chain)
one_least conflict m (Some l) (Some j) h k =
    let up : l ≤ j = h.1 j k.0 in
    let down : j ≤ l = k.1 l h.0 in
    let same : l ≡ j = omega arith in
    ap Some same

module _ (p q : Plan) (is_p : IsPlan p) (is_q : IsPlan q) (same : SaysSame p q) where
  conflicts_same : conflicts p ≡ conflicts q
  conflicts_same = λ i m n. same.conflict m n i

  least_same : least_of p ≡ least_of q
  least_same = λ i m. one_least (conflicts q) m (least_of p m) (least_of q m) (subst (λ f. IsLeastOf f m (least_of p m)) conflicts_same (is_p.least_is m)) (is_q.least_is m) i

  pub free_same : is_free p ≡ is_free q
  free_same = λ i m. is_none (least_same i m)

  first_same : is_first p ≡ is_first q
  first_same = λ i m. is_own m (least_same i m)

  width_same : width p ≡ width q
  width_same = λ i m. if free_same i m then same.replicas i else 1

  slots_same : first_slot p ≡ first_slot q
  slots_same = λ i m. sum_below (width_same i) m

  groups_same : groups p ≡ groups q
  groups_same = λ i. count_below (first_same i) (same.methods i)

  needs_same : (m n : ℕ) → needs_below p m n ≡ needs_below q m n
  needs_same m zero = refl
  needs_same m (suc n) = λ i. needs_same m n i ++ (if same.depends m n i then range_with_len (slots_same i n) (width_same i n) else [])

  lane_same : (m r : ℕ) → lane_of p m r ≡ lane_of q m r
  lane_same m r = by (least_of p m) (least_of q m) refl refl
    where
      by : (a b : Option ℕ) → least_of p m ≡ a → least_of q m ≡ b → lane_of p m r ≡ lane_of q m r
      by None None ep eq = rw (ep, eq) (λ i. groups_same i + count_below (free_same i) m * same.replicas i + (r - 1))
      by (Some k) (Some l) ep eq =
          let one : Some k ≡ Some l = sym ep ∙ ap (λ f. f m) least_same ∙ eq in
          rw (ep, eq) ((λ i. count_below (first_same i) k) ∙ ap (λ o. count_or_0 o) one)
        where
          count_or_0 : Option ℕ → ℕ
          count_or_0 None = 0
          count_or_0 (Some z) = count_below (is_first q) z
      by None (Some l) ep eq = absurd (differ (sym ep ∙ ap (λ f. f m) least_same ∙ eq))
        where
          differ : None ≡ Some l → ⊥
          differ h = cc
      by (Some k) None ep eq = absurd (differ (sym ep ∙ ap (λ f. f m) least_same ∙ eq))
        where
          differ : Some k ≡ None → ⊥
          differ h = cc

  pub gives_same : GivesSame p q
  gives_same = record {
    groups = groups_same;
    group = λ m i. option_map (count_below (first_same i)) (least_same i m);
    leader = λ g i. g % same.replicas i + 1;
    lanes = λ i. groups_same i + count_below (free_same i) (same.methods i) * same.replicas i;
    lane = lane_same;
    decider = λ l i. if nat_lt l (groups_same i) then l % same.replicas i + 1 else (l - groups_same i) % same.replicas i + 1;
    slots = λ i. slots_same i (same.methods i);
    slot = λ m r i. slots_same i m + (if free_same i m then r - 1 else 0);
    needs = λ m. needs_same m p.methods ∙ ap (needs_below q m) same.methods;
  }
