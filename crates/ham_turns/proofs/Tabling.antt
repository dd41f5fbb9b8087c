-- Every plan's setting is tabled.
use Rattle.std.proofs.Common.{◌≡◌, ℕ, zero, suc, ◌+◌, ◌-◌, ◌%◌, ◌≤◌, ◌<◌, Bool, true, false, if◌then◌else◌, ltb, List, [], ◌∷◌, length, refl, sym, ap, subst, ◌∙◌, inl, inr, arith}
use Rattle.std.specs.List.{AllByRecursion, range_with_len}
use Rattle.std.proofs.lemmas.List.{length-append}
use Rattle.std.proofs.lemmas.List.FromFn.{length-range_with_len}
use Rattle.ham_plan.specs.Lists.{In}
use Rattle.ham_plan.specs.Plans.{Plan, IsPlan, depends_on, groups, lane_of, decider_of, width, first_slot, slots, slot_of, needs_of, needs_below}
use Rattle.ham_plan.proofs.Labelling.{among-within}
use Rattle.ham_plan.proofs.PlanLanes.{groups_few, lanes_few, slots_few, slot-within}
use Rattle.ham_turns.specs.Settings.{setting_of}
use Rattle.ham_turns.specs.Tables.{IsSlot, IsTabled}
use Rattle.ham_plan.proofs.PlanFacts.{one_lane, group_exists, lane_exists, slot_inside, slot_method, slot_lane, needed_only}

decider_is : (p : Plan) → IsPlan p → (l : ℕ) → (1 ≤ decider_of p l) × (decider_of p l ≤ p.replicas)
decider_is p is l = by (ltb l (groups p))
  where
    by : (b : Bool) → (1 ≤ (if b then l % p.replicas + 1 else (l - groups p) % p.replicas + 1)) × ((if b then l % p.replicas + 1 else (l - groups p) % p.replicas + 1) ≤ p.replicas)
    by true = let some = is.some_replicas in (omega arith, omega arith)
    by false = let some = is.some_replicas in (omega arith, omega arith)

slot_there : (p : Plan) (m r : ℕ) → m < p.methods → 1 ≤ r → r ≤ p.replicas → slot_of p m r < slots p
slot_there p m r there low high = slot-within p m _ there (slot_inside p m r low high)

lane_by_slot : (p : Plan) (m n r q : ℕ) → 1 ≤ r → r ≤ p.replicas → 1 ≤ q → q ≤ p.replicas → slot_of p m r ≡ slot_of p n q → lane_of p m r ≡ lane_of p n q
lane_by_slot p m n r q low high low' high' e =
    let same = slot_method p m n r q low high low' high' e in
    slot_lane p m r q low low' (e ∙ ap (λ (k : ℕ). slot_of p k q) (sym same)) ∙ ap (λ (k : ℕ). lane_of p k q) same

-- what is so of all that stands in a list
all_of : (P : ℕ → Type 0) (xs : List ℕ) → ((s : ℕ) → In s xs → P s) → AllByRecursion P xs
all_of P [] h = tt
all_of P (x ∷ xs) h = (h x (inl refl), all_of P xs (λ s there. h s (inr there)))

length_needs : (p : Plan) (m n : ℕ) → length (needs_below p m n) ≤ first_slot p n
length_needs p m zero = omega arith
length_needs p m (suc n) =
    let before = length_needs p m n in
    let both = length-append (needs_below p m n) (if depends_on p m n then range_with_len (first_slot p n) (width p n) else []) in
    let here = by (depends_on p m n) in
    omega arith
  where
    by : (b : Bool) → length (if b then range_with_len (first_slot p n) (width p n) else []) ≤ width p n
    by true = let wide = length-range_with_len (first_slot p n) (width p n) in omega arith
    by false = omega arith

pub tabled : (p : Plan) → IsPlan p → IsTabled (setting_of p) (slots p)
unfolding setting_of
tabled p is = record {
  some_replicas = let some = is.some_replicas in omega arith;
  few_replicas = is.few_replicas;
  few_groups = groups_few p is;
  few_lanes = lanes_few p is;
  few_slots = slots_few p is;
  group_lane = omega arith;
  lane_exists = λ m r there hr. lane_exists p is m r there hr.0 hr.1;
  decider_exists = λ l there. decider_is p is l;
  slot_exists = λ m r there hr. slot_there p m r there hr.0 hr.1;
  group_exists = λ m r there hr ne. group_exists p is m r hr.0 hr.1 ne;
  group_same = λ m r q hr hq ne. one_lane p is m r hr.0 hr.1 ne q;
  slot_lane = λ m n r q tm tn hr hq e. lane_by_slot p m n r q hr.0 hr.1 hq.0 hq.1 e;
  needs_exist = λ m there. all_of (λ s. s < slots p) (needs_of p m) (λ s h. needed p is m s h);
  needs_are_slots = λ m there. all_of (IsSlot (setting_of p)) (needs_of p m) (λ s h. slot_is p is m s h);
  few_needs = λ m there. let few = length_needs p m p.methods in let all = slots_few p is in omega arith;
}
  where
    needed : (p : Plan) → IsPlan p → (m s : ℕ) → In s (needs_of p m) → s < slots p
    needed p is m s h =
        let w = needed_only p is m s h in
        let there = (among-within p.methods p.depends m w.0 w.4).1 in
        subst (λ (k : ℕ). k < slots p) (sym w.5) (slot_there p w.0 w.1 there w.2 w.3)

    slot_is : (p : Plan) → IsPlan p → (m s : ℕ) → In s (needs_of p m) → IsSlot (setting_of p) s
    slot_is p is m s h =
        let w = needed_only p is m s h in
        record { method = w.0; replica = w.1; method_exists = (among-within p.methods p.depends m w.0 w.4).1; replica_exists = (w.2, w.3); slot = w.5 }
