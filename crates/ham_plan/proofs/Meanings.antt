-- A plan's numbers mean what they are said to mean.
use Rattle.std.proofs.Common.{◌≡◌, ◌⊎◌, ℕ, zero, suc, ◌+◌, ◌-◌, ◌*◌, ◌/◌, ◌%◌, ◌<◌, ◌≤◌, Bool, true, false, if◌then◌else◌, ltb, List, [], ◌∷◌, ◌++◌, Option, Some, None, refl, sym, ap, subst, ◌∙◌, inl, inr, true≢false, arith}
use Rattle.std.specs.List.{range_with_len}
use Rattle.std.proofs.lemmas.Bool.{eqb-true, lt-ltb, ltb-true, ltb-false}
use Rattle.std.proofs.lemmas.Nat.{mod-mul-add, div-mul-add}
use Rattle.std.proofs.Math.Nat.{div-lt_iff_lt-mul}
use Rattle.ham_plan.specs.Lists.{In}
use Rattle.ham_plan.specs.Groups.{Joined, IsFree, IsLeastOf}
use Rattle.ham_plan.specs.Plans.{Plan, IsPlan, conflicts, depends_on, least_of, is_none, is_own, is_free, is_first, groups, group_of, lanes, lane_of, lane_by, decider_of, width, first_slot, slots, slot_of, needs_of, needs_below, count_below, sum_below}
use Rattle.ham_plan.specs.Meant.{IsReplicaOf, AreInOneGroup, GroupsAreChains, LanesAreDecided, SlotsAreOfLanes, Ascends, ArraysAreNeeds}
use Rattle.ham_plan.proofs.Lists.{in_parts, true_or_false}
use Rattle.ham_plan.proofs.Joining.{Joined-then, Joined-turned}
use Rattle.ham_plan.proofs.Counting.{count_below_less}
use Rattle.ham_plan.proofs.PlanLanes.{least-own, group-within, slot-within}
use Rattle.ham_plan.proofs.PlanFacts.{not_free, joined_least, share, own_lane, lane_exists, slot_inside, slot_method, slot_lane, lane_slot, slot_at, of_range, needed, needed_only}

same_some : (a b : ℕ) → Some a ≡ Some b → a ≡ b
same_some a b e = cc

-- ---- the k-th number that passes
passing : (test : ℕ → Bool) (n k : ℕ) → k < count_below test n → (m : ℕ) × (m < n) × (test m ≡ true) × (count_below test m ≡ k)
passing test zero k h = absurd (omega arith)
passing test (suc n) k h = by (ltb k (count_below test n)) (true_or_false (test n)) refl (passing test n k)
  where
    here : k ≡ count_below test n → test n ≡ true → (m : ℕ) × (m < suc n) × (test m ≡ true) × (count_below test m ≡ k)
    here e t = (n, omega arith, t, sym e)

    by : (b : Bool) → (test n ≡ true) ⊎ (test n ≡ false) → ltb k (count_below test n) ≡ b → (k < count_below test n → (m : ℕ) × (m < n) × (test m ≡ true) × (count_below test m ≡ k)) → (m : ℕ) × (m < suc n) × (test m ≡ true) × (count_below test m ≡ k)
    by true t e before = let w = before (ltb-true k _ e) in (w.0, let below = w.1 in omega arith, w.2, w.3)
    by false (inl t) e before =
        let most : k < count_below test n + 1 = rw t at h in
        let least = ltb-false k (count_below test n) e in
        here (omega arith) t
    by false (inr f) e before =
        let most : k < count_below test n + 0 = rw f at h in
        let least = ltb-false k (count_below test n) e in
        absurd (omega arith)

-- what passes has a count of its own
one_count : (test : ℕ → Bool) (m n : ℕ) → test m ≡ true → test n ≡ true → count_below test m ≡ count_below test n → m ≡ n
one_count test m n tm tn e = by (ltb m n) (ltb n m) refl refl
  where
    by : (a b : Bool) → ltb m n ≡ a → ltb n m ≡ b → m ≡ n
    by true b x y = let more = count_below_less test m n (ltb-true m n x) tm in absurd (omega arith)
    by false true x y = let more = count_below_less test n m (ltb-true n m y) tn in absurd (omega arith)
    by false false x y = let h = ltb-false m n x in let k = ltb-false n m y in omega arith

-- the part of a sum in which a number lies
parting : (size : ℕ → ℕ) (n s : ℕ) → s < sum_below size n → (m i : ℕ) × (m < n) × (i < size m) × (s ≡ sum_below size m + i)
parting size zero s h = absurd (omega arith)
parting size (suc n) s h = by (ltb s (sum_below size n)) refl (parting size n s)
  where
    by : (b : Bool) → ltb s (sum_below size n) ≡ b → (s < sum_below size n → (m i : ℕ) × (m < n) × (i < size m) × (s ≡ sum_below size m + i)) → (m i : ℕ) × (m < suc n) × (i < size m) × (s ≡ sum_below size m + i)
    by true e before = let w = before (ltb-true s _ e) in (w.0, w.1, let below = w.2 in omega arith, w.3, w.4)
    by false e before = let least = ltb-false s (sum_below size n) e in (n, s - sum_below size n, omega arith, omega arith, omega arith)

-- ---- groups
module _ (p : Plan) (is : IsPlan p) where
  least_some : (m g : ℕ) → group_of p m ≡ Some g → (l : ℕ) × (least_of p m ≡ Some l) × (g ≡ count_below (is_first p) l)
  least_some m g e = by (least_of p m) refl
    where
      by : (o : Option ℕ) → least_of p m ≡ o → (l : ℕ) × (least_of p m ≡ Some l) × (g ≡ count_below (is_first p) l)
      by None em = absurd (differ (rw em at e))
        where
          differ : None ≡ Some g → ⊥
          differ h = cc
      by (Some l) em = (l, em, same_some g (count_below (is_first p) l) (sym (rw em at e)))

  some_group : (m l : ℕ) → least_of p m ≡ Some l → group_of p m ≡ Some (count_below (is_first p) l)
  some_group m l e = rw e refl

  none_least : (m : ℕ) → group_of p m ≡ None → least_of p m ≡ None
  none_least m e = by (least_of p m) refl
    where
      by : (o : Option ℕ) → least_of p m ≡ o → least_of p m ≡ None
      by None em = em
      by (Some l) em = absurd (differ (rw em at e))
        where
          differ : Some (count_below (is_first p) l) ≡ None → ⊥
          differ h = cc

  least_joined : (m l : ℕ) → least_of p m ≡ Some l → Joined (conflicts p) m l
  least_joined m l e = (subst (IsLeastOf (conflicts p) m) e (is.least_is m)).0

  joined_of : (m n : ℕ) → AreInOneGroup p m n → Joined (conflicts p) m n
  joined_of m n h =
      let a = least_some m h.0 h.1 in
      let b = least_some n h.0 h.2 in
      let one : a.0 ≡ b.0 = one_count (is_first p) a.0 b.0 (least-own p is m a.0 a.1) (least-own p is n b.0 b.1) (sym a.2 ∙ b.2) in
      Joined-then (conflicts p) m a.0 n (least_joined m a.0 a.1)
      (subst (λ (x : ℕ). Joined (conflicts p) x n) (sym one) (Joined-turned (conflicts p) is.symmetric n b.0 (least_joined n b.0 b.1)))

  of_joined : (m n : ℕ) → Joined (conflicts p) m n → AreInOneGroup p m n
  of_joined m n h = by (least_of p m) refl
    where
      by : (o : Option ℕ) → least_of p m ≡ o → AreInOneGroup p m n
      by None em = absurd (not_free (conflicts p) m n h.between (subst (IsLeastOf (conflicts p) m) em (is.least_is m)) h.is_chain)
      by (Some l) em = (count_below (is_first p) l, some_group m l em, some_group n l (sym (joined_least p is m n h) ∙ em))

  free_of : (m : ℕ) → group_of p m ≡ None → IsFree (conflicts p) m
  free_of m e = subst (IsLeastOf (conflicts p) m) (none_least m e) (is.least_is m)

  of_free : (m : ℕ) → IsFree (conflicts p) m → group_of p m ≡ None
  of_free m free = by (least_of p m) refl
    where
      by : (o : Option ℕ) → least_of p m ≡ o → group_of p m ≡ None
      by None em = rw em refl
      by (Some l) em = let j = least_joined m l em in absurd (not_free (conflicts p) m l j.between free j.is_chain)

  own_first : (m : ℕ) → is_first p m ≡ true → least_of p m ≡ Some m
  own_first m e = by (least_of p m) refl
    where
      by : (o : Option ℕ) → least_of p m ≡ o → least_of p m ≡ Some m
      by None em = absurd (true≢false (sym e ∙ ap (is_own m) em))
      by (Some l) em = em ∙ ap Some (eqb-true l m (sym (ap (is_own m) em) ∙ e))

  group_there : (m g : ℕ) → group_of p m ≡ Some g → g < groups p
  group_there m g e = let l = least_some m g e in let below = group-within p is m l.0 l.1 in let same = l.2 in omega arith

  group_some : (g : ℕ) → g < groups p → (m : ℕ) × (m < p.methods) × (group_of p m ≡ Some g)
  group_some g h = let w = passing (is_first p) p.methods g h in (w.0, w.1, some_group w.0 w.0 (own_first w.0 w.2) ∙ ap Some w.3)

  pub groups_mean : GroupsAreChains p
  groups_mean = record {
    joined = λ m n. (joined_of m n, of_joined m n);
    free = λ m. (free_of m, of_free m);
    exists = group_there;
    some_method = group_some;
    ascending = λ m n l k g h em en eg eh less.
        let a = least_some m g eg in
        let b = least_some n h eh in
        let one : a.0 ≡ l = same_some a.0 l (sym a.1 ∙ em) in
        let two : b.0 ≡ k = same_some b.0 k (sym b.1 ∙ en) in
        let more = count_below_less (is_first p) l k less (least-own p is m l em) in
        let x : g ≡ count_below (is_first p) l = a.2 ∙ ap (count_below (is_first p)) one in
        let y : h ≡ count_below (is_first p) k = b.2 ∙ ap (count_below (is_first p)) two in
        omega arith;
  }

  -- ---- lanes
  own_is : (m r : ℕ) → group_of p m ≡ None → lane_of p m r ≡ groups p + count_below (is_free p) m * p.replicas + (r - 1)
  own_is m r e = ap (lane_by p m r) e

  free_is : (m : ℕ) → group_of p m ≡ None → is_free p m ≡ true
  free_is m e = ap is_none (none_least m e)

  no_group : (m : ℕ) → is_free p m ≡ true → group_of p m ≡ None
  no_group m e = by (least_of p m) refl
    where
      by : (o : Option ℕ) → least_of p m ≡ o → group_of p m ≡ None
      by None em = rw em refl
      by (Some l) em = absurd (true≢false (sym e ∙ ap is_none em))

  one_place : (a b i j : ℕ) → i < p.replicas → j < p.replicas → a * p.replicas + i ≡ b * p.replicas + j → (a ≡ b) × (i ≡ j)
  one_place a b i j h k e = (
    sym (div-mul-add a p.replicas i h) ∙ ap (λ (n : ℕ). n / p.replicas) e ∙ div-mul-add b p.replicas j k,
    sym (mod-mul-add a p.replicas i h) ∙ ap (λ (n : ℕ). n % p.replicas) e ∙ mod-mul-add b p.replicas j k,
  )

  alone : (m n r q : ℕ) → IsReplicaOf p r → IsReplicaOf p q → group_of p m ≡ None → group_of p n ≡ None → lane_of p m r ≡ lane_of p n q → (m ≡ n) × (r ≡ q)
  alone m n r q hr hq em en e =
      let sums : groups p + count_below (is_free p) m * p.replicas + (r - 1) ≡ groups p + count_below (is_free p) n * p.replicas + (q - 1) = sym (own_is m r em) ∙ e ∙ own_is n q en in
      let low = hr.0 in
      let high = hr.1 in
      let low' = hq.0 in
      let high' = hq.1 in
      let place = one_place (count_below (is_free p) m) (count_below (is_free p) n) (r - 1) (q - 1) (omega arith) (omega arith) (omega arith) in
      let last = place.1 in
      (one_count (is_free p) m n (free_is m em) (free_is n en) place.0, omega arith)

  whole : (n w : ℕ) → 0 < w → n / w * w + n % w ≡ n
  whole n w h = omega arith

  lane_some : (l : ℕ) → l < lanes p → (m r : ℕ) × (m < p.methods) × IsReplicaOf p r × (l ≡ lane_of p m r)
  lane_some l h = by (ltb l (groups p)) refl
    where
      some : 0 < p.replicas
      some = is.some_replicas

      by : (b : Bool) → ltb l (groups p) ≡ b → (m r : ℕ) × (m < p.methods) × IsReplicaOf p r × (l ≡ lane_of p m r)
      by true e = let w = group_some l (ltb-true l (groups p) e) in (w.0, 1, w.1, (omega arith, let s = some in omega arith), sym (ap (lane_by p w.0 1) w.2))
      by false e =
          let least = ltb-false l (groups p) e in
          let n : ℕ = l - groups p in
          let count : n / p.replicas < count_below (is_free p) p.methods = (div-lt_iff_lt-mul some).1 (omega arith) in
          let w = passing (is_free p) p.methods (n / p.replicas) count in
          let last : n % p.replicas < p.replicas = let s = some in omega arith in
          let parts = whole n p.replicas some in
          let back : n % p.replicas + 1 - 1 ≡ n % p.replicas = omega arith in
          let there : lane_of p w.0 (n % p.replicas + 1) ≡ groups p + n / p.replicas * p.replicas + n % p.replicas =
          own_is w.0 (n % p.replicas + 1) (no_group w.0 w.2) ∙ ap (λ (c : ℕ). groups p + c * p.replicas + (n % p.replicas + 1 - 1)) w.3 ∙ ap (λ (c : ℕ). groups p + n / p.replicas * p.replicas + c) back in
          (w.0, n % p.replicas + 1, w.1, (omega arith, omega arith), sym (there ∙ omega arith))

  decider_is : (l : ℕ) → IsReplicaOf p (decider_of p l)
  decider_is l = by (ltb l (groups p))
    where
      by : (b : Bool) → (1 ≤ (if b then l % p.replicas + 1 else (l - groups p) % p.replicas + 1)) × ((if b then l % p.replicas + 1 else (l - groups p) % p.replicas + 1) ≤ p.replicas)
      by true = let some = is.some_replicas in (omega arith, omega arith)
      by false = let some = is.some_replicas in (omega arith, omega arith)

  pub lanes_mean : LanesAreDecided p
  lanes_mean = record {
    group_lane = λ m g r e. ap (lane_by p m r) e;
    group_decider = λ g h. rw (lt-ltb g (groups p) h) refl;
    own_decider = λ m r hr e. own_lane p m r hr.0 hr.1 (none_least m e);
    own_lane = λ m r e. let s = own_is m r e in omega arith;
    own_alone = alone;
    exists = λ m r there hr. lane_exists p is m r there hr.0 hr.1;
    some_method = lane_some;
    decider_exists = decider_is;
    shared = share p is;
  }

  -- ---- slots
  slot_some : (s : ℕ) → s < slots p → (m r : ℕ) × (m < p.methods) × IsReplicaOf p r × (s ≡ slot_of p m r)
  slot_some s h =
      let w = parting (width p) p.methods s h in
      let a = slot_at p w.0 w.1 (let some = is.some_replicas in omega arith) w.3 in
      (w.0, a.0, w.2, (a.1, a.2), w.4 ∙ a.3)

  pub slots_mean : SlotsAreOfLanes p
  slots_mean = record {
    exists = λ m r there hr. slot-within p m _ there (slot_inside p m r hr.0 hr.1);
    some_method = slot_some;
    apart = λ m n r q hr hq e. slot_method p m n r q hr.0 hr.1 hq.0 hq.1 e;
    of_lane = λ m r q hr hq. (slot_lane p m r q hr.0 hq.0, lane_slot p m r q hr.0 hq.0);
  }

  -- ---- arrays
  ascends_both : (xs ys : List ℕ) → Ascends xs → Ascends ys → ((x y : ℕ) → In x xs → In y ys → x < y) → Ascends (xs ++ ys)
  ascends_both [] ys h k less = k
  ascends_both (x ∷ xs) ys h k less = (
    λ y there. elim (in_parts y xs ys there) [ inl i ↦ h.0 y i | inr i ↦ less x y (inl refl) i ],
    ascends_both xs ys h.1 k (λ a b i j. less a b (inr i) j),
  )

  ascends_range : (first k : ℕ) → Ascends (range_with_len first k)
  ascends_range first zero = tt
  ascends_range first (suc k) = (λ y there. let w = of_range (first + 1) k y there in let e = w.2 in omega arith, ascends_range (first + 1) k)

  below : (m n s : ℕ) → In s (needs_below p m n) → s < first_slot p n
  below m zero s h = absurd h
  below m (suc n) s h = elim (in_parts s (needs_below p m n) _ h) [
    | inl i ↦ let less = below m n s i in omega arith
    | inr i ↦ here (true_or_false (depends_on p m n)) i
  ]
    where
      here : (depends_on p m n ≡ true) ⊎ (depends_on p m n ≡ false) → In s (if depends_on p m n then range_with_len (first_slot p n) (width p n) else []) → s < first_slot p n + width p n
      here (inl t) i = let w = of_range (first_slot p n) (width p n) s (rw t at i) in let e = w.2 in let k = w.1 in omega arith
      here (inr f) i = absurd (rw f at i)

  ascends_below : (m n : ℕ) → Ascends (needs_below p m n)
  ascends_below m zero = tt
  ascends_below m (suc n) = by (true_or_false (depends_on p m n)) (ascends_below m n)
    where
      by : (depends_on p m n ≡ true) ⊎ (depends_on p m n ≡ false) → Ascends (needs_below p m n) → Ascends (needs_below p m n ++ (if depends_on p m n then range_with_len (first_slot p n) (width p n) else []))
      by (inl t) before = rw t (ascends_both (needs_below p m n) (range_with_len (first_slot p n) (width p n)) before (ascends_range (first_slot p n) (width p n))
          (λ x y i j. let a = below m n x i in let w = of_range (first_slot p n) (width p n) y j in let e = w.2 in omega arith))
      by (inr f) before = rw f (ascends_both (needs_below p m n) [] before tt (λ x y i j. absurd j))

  pub arrays_mean : ArraysAreNeeds p
  arrays_mean = record {
    exactly = λ m s. (λ h. let w = needed_only p is m s h in (w.0, w.1, (w.2, w.3), w.4, w.5), λ h. subst (λ (x : ℕ). In x (needs_of p m)) (sym h.4) (needed p m h.0 h.1 h.2.0 h.2.1 h.3));
    ascending = λ m. ascends_below m p.methods;
  }
