-- What a plan says of lanes, deciders and slots.
use Rattle.std.proofs.Common.{◌≡◌, ◌≢◌, ◌⊎◌, ℕ, zero, suc, ◌+◌, ◌-◌, ◌*◌, ◌%◌, ◌<◌, ◌≤◌, Bool, true, false, if◌then◌else◌, eqb, ltb, List, [], ◌∷◌, ◌++◌, Option, Some, None, refl, sym, ap, subst, ◌∙◌, inl, inr, true≢false, arith}
use Rattle.std.specs.List.{range_with_len}
use Rattle.std.proofs.lemmas.Bool.{eqb-true, eqb-false, le-ltb, ltb-true, ltb-false}
use Rattle.std.proofs.lemmas.Nat.{mod-mul-add}
use Rattle.ham_plan.specs.Lists.{In}
use Rattle.ham_plan.specs.Groups.{IsChain, Joined, IsFree, IsLeastOf}
use Rattle.ham_plan.specs.Plans.{Plan, IsPlan, conflicts, depends_on, least_of, is_none, is_free, groups, lanes, lane_of, decider_of, width, first_slot, slot_of, needs_of, needs_below, count_below}
use Rattle.ham_plan.proofs.Lists.{in_front, in_back, in_parts, true_or_false}
use Rattle.ham_plan.proofs.Joining.{Joined-direct, Joined-then, Joined-turned}
use Rattle.ham_plan.proofs.Labelling.{among-within}
use Rattle.ham_plan.proofs.Counting.{sum_below_less}
use Rattle.ham_plan.proofs.PlanLanes.{group-within, group_lane-within, free_lane-within}
use Rattle.ham_plan.proofs.Ranges.{range_more}

pub not_free : (conflict : ℕ → ℕ → Bool) (m n : ℕ) (between : List ℕ) → IsFree conflict m → IsChain conflict m between n → ⊥
not_free conflict m n [] free e = true≢false (sym e ∙ free n)
not_free conflict m n (k ∷ between) free e = true≢false (sym e.0 ∙ free k)

-- methods that a chain joins have one least method
pub joined_least : (p : Plan) → IsPlan p → (m n : ℕ) → Joined (conflicts p) m n → least_of p m ≡ least_of p n
joined_least p is m n h = by (least_of p m) (least_of p n) refl refl
  where
    back : Joined (conflicts p) n m
    back = Joined-turned (conflicts p) is.symmetric m n h

    by : (a b : Option ℕ) → least_of p m ≡ a → least_of p n ≡ b → a ≡ b
    by None b em en = absurd (not_free (conflicts p) m n h.between (subst (IsLeastOf (conflicts p) m) em (is.least_is m)) h.is_chain)
    by (Some k) None em en = absurd (not_free (conflicts p) n m back.between (subst (IsLeastOf (conflicts p) n) en (is.least_is n)) back.is_chain)
    by (Some k) (Some l) em en =
        let of_m = subst (IsLeastOf (conflicts p) m) em (is.least_is m) in
        let of_n = subst (IsLeastOf (conflicts p) n) en (is.least_is n) in
        let up : k ≤ l = of_m.1 l (Joined-then (conflicts p) m n l h of_n.0) in
        let down : l ≤ k = of_n.1 k (Joined-then (conflicts p) n m k back of_m.0) in
        let same : k ≡ l = omega arith in
        ap Some same

-- calls of methods that conflict are in one lane, the group's
pub share : (p : Plan) → IsPlan p → (m n r q : ℕ) → conflicts p m n ≡ true → lane_of p m r ≡ lane_of p n q
share p is m n r q e = by (least_of p m) refl
  where
    same : least_of p m ≡ least_of p n
    same = joined_least p is m n (Joined-direct (conflicts p) m n e)

    by : (a : Option ℕ) → least_of p m ≡ a → lane_of p m r ≡ lane_of p n q
    by None em = absurd (true≢false (sym e ∙ subst (IsLeastOf (conflicts p) m) em (is.least_is m) n))
    by (Some k) em = rw (em, sym same ∙ em) refl

-- the lane that a replica has of a free method is decided by that replica
pub own_lane : (p : Plan) (m r : ℕ) → 1 ≤ r → r ≤ p.replicas → least_of p m ≡ None → decider_of p (lane_of p m r) ≡ r
own_lane p m r low high em =
    let below : ltb (groups p + count_below (is_free p) m * p.replicas + (r - 1)) (groups p) ≡ false = le-ltb _ _ (omega arith) in
    let apart : groups p + count_below (is_free p) m * p.replicas + (r - 1) - groups p ≡ count_below (is_free p) m * p.replicas + (r - 1) = omega arith in
    let rest : (count_below (is_free p) m * p.replicas + (r - 1)) % p.replicas ≡ r - 1 = mod-mul-add (count_below (is_free p) m) p.replicas (r - 1) (omega arith) in
    rw (em, below, apart, rest) (omega arith)

-- a method whose lane is decided elsewhere is in a group, which exists
module _ (p : Plan) (is : IsPlan p) (m r : ℕ) (low : 1 ≤ r) (high : r ≤ p.replicas) (elsewhere : decider_of p (lane_of p m r) ≢ r) where
  pub one_lane : (q : ℕ) → lane_of p m q ≡ lane_of p m r
  one_lane q = by (least_of p m) refl
    where
      by : (a : Option ℕ) → least_of p m ≡ a → lane_of p m q ≡ lane_of p m r
      by None em = absurd (elsewhere (own_lane p m r low high em))
      by (Some k) em = rw em refl

  pub group_exists : lane_of p m r < groups p
  group_exists = by (least_of p m) refl
    where
      by : (a : Option ℕ) → least_of p m ≡ a → lane_of p m r < groups p
      by None em = absurd (elsewhere (own_lane p m r low high em))
      by (Some k) em = rw em (group-within p is m k em)

pub lane_exists : (p : Plan) → IsPlan p → (m r : ℕ) → m < p.methods → 1 ≤ r → r ≤ p.replicas → lane_of p m r < lanes p
lane_exists p is m r there low high = by (least_of p m) refl
  where
    by : (a : Option ℕ) → least_of p m ≡ a → lane_of p m r < lanes p
    by None em = rw em (free_lane-within p is m (r - 1) there (ap is_none em) (omega arith))
    by (Some k) em = rw em (group_lane-within p is m k em)

-- ---- slots

pub slot_inside : (p : Plan) (m r : ℕ) → 1 ≤ r → r ≤ p.replicas → (if is_free p m then r - 1 else 0) < width p m
slot_inside p m r low high = by (is_free p m)
  where
    by : (b : Bool) → (if b then r - 1 else 0) < (if b then p.replicas else 1)
    by true = omega arith
    by false = omega arith

pub slot_method : (p : Plan) (m n r q : ℕ) → 1 ≤ r → r ≤ p.replicas → 1 ≤ q → q ≤ p.replicas → slot_of p m r ≡ slot_of p n q → m ≡ n
slot_method p m n r q low high low' high' e = by (ltb m n) (ltb n m) refl refl
  where
    in_m : (if is_free p m then r - 1 else 0) < width p m
    in_m = slot_inside p m r low high

    in_n : (if is_free p n then q - 1 else 0) < width p n
    in_n = slot_inside p n q low' high'

    by : (a b : Bool) → ltb m n ≡ a → ltb n m ≡ b → m ≡ n
    by true b la lb =
        let before = sum_below_less (width p) m n (ltb-true m n la) in
        let i = in_m in
        let s = e in
        absurd (omega arith)
    by false true la lb =
        let before = sum_below_less (width p) n m (ltb-true n m lb) in
        let i = in_n in
        let s = e in
        absurd (omega arith)
    by false false la lb =
        let a = ltb-false m n la in
        let b = ltb-false n m lb in
        omega arith

pub slot_lane : (p : Plan) (m r q : ℕ) → 1 ≤ r → 1 ≤ q → slot_of p m r ≡ slot_of p m q → lane_of p m r ≡ lane_of p m q
slot_lane p m r q low low' = by (least_of p m) refl
  where
    by : (a : Option ℕ) → least_of p m ≡ a → slot_of p m r ≡ slot_of p m q → lane_of p m r ≡ lane_of p m q
    by None em e =
        let s : first_slot p m + (r - 1) ≡ first_slot p m + (q - 1) = rw em at e in
        let same : r - 1 ≡ q - 1 = omega arith in
        rw em (ap (λ k. groups p + count_below (is_free p) m * p.replicas + k) same)
    by (Some k) em e = rw em refl

pub lane_slot : (p : Plan) (m r q : ℕ) → 1 ≤ r → 1 ≤ q → lane_of p m r ≡ lane_of p m q → slot_of p m r ≡ slot_of p m q
lane_slot p m r q low low' = by (least_of p m) refl
  where
    by : (a : Option ℕ) → least_of p m ≡ a → lane_of p m r ≡ lane_of p m q → slot_of p m r ≡ slot_of p m q
    by None em e =
        let s : groups p + count_below (is_free p) m * p.replicas + (r - 1) ≡ groups p + count_below (is_free p) m * p.replicas + (q - 1) = rw em at e in
        let same : r - 1 ≡ q - 1 = omega arith in
        rw em (ap (λ k. first_slot p m + k) same)
    by (Some k) em e = rw em refl

-- ---- arrays

in_range : (first k i : ℕ) → i < k → In (first + i) (range_with_len first k)
in_range first zero i h = absurd (omega arith)
in_range first (suc k) i h =
    let e : suc k ≡ k + 1 = omega arith in
    subst (λ n. In (first + i) (range_with_len first n)) (sym e) (subst (λ xs. In (first + i) xs) (sym (range_more first k)) (by (eqb i k) refl (λ below. in_range first k i below)))
  where
    by : (b : Bool) → eqb i k ≡ b → (i < k → In (first + i) (range_with_len first k)) → In (first + i) (range_with_len first k ++ (first + k) ∷ [])
    by true e rest = in_back (first + i) (range_with_len first k) ((first + k) ∷ []) (inl (ap (λ n. first + n) (eqb-true i k e)))
    by false e rest = let other = eqb-false i k e in in_front (first + i) (range_with_len first k) ((first + k) ∷ []) (rest (omega arith))

pub of_range : (first k s : ℕ) → In s (range_with_len first k) → (i : ℕ) × (i < k) × (s ≡ first + i)
of_range first zero s h = absurd h
of_range first (suc k) s h =
    let e : suc k ≡ k + 1 = omega arith in
    elim (in_parts s (range_with_len first k) ((first + k) ∷ []) (subst (λ xs. In s xs) (range_more first k) (subst (λ n. In s (range_with_len first n)) e h))) [
      | inl j ↦ let w = of_range first k s j in (w.0, let lt = w.1 in omega arith, w.2)
      | inr j ↦ elim j [ inl q ↦ (k, omega arith, q) | inr none ↦ absurd none ]
    ]

needed_below : (p : Plan) (m k n r : ℕ) → n < k → 1 ≤ r → r ≤ p.replicas → depends_on p m n ≡ true → In (slot_of p n r) (needs_below p m k)
needed_below p m zero n r h low high dep = absurd (omega arith)
needed_below p m (suc k) n r h low high dep = by (eqb n k) refl (λ below. needed_below p m k n r below low high dep)
  where
    by : (b : Bool) → eqb n k ≡ b → (n < k → In (slot_of p n r) (needs_below p m k)) →
        In (slot_of p n r) (needs_below p m k ++ (if depends_on p m k then range_with_len (first_slot p k) (width p k) else []))
    by true e rest =
        let same = eqb-true n k e in
        in_back (slot_of p n r) (needs_below p m k) _
        (subst (λ z. In (slot_of p n r) (if depends_on p m z then range_with_len (first_slot p z) (width p z) else [])) same
        (rw dep (in_range (first_slot p n) (width p n) (if is_free p n then r - 1 else 0) (slot_inside p n r low high))))
    by false e rest = let other = eqb-false n k e in in_front (slot_of p n r) (needs_below p m k) _ (rest (omega arith))

pub needed : (p : Plan) (m n r : ℕ) → 1 ≤ r → r ≤ p.replicas → depends_on p m n ≡ true → In (slot_of p n r) (needs_of p m)
needed p m n r low high dep = needed_below p m p.methods n r (among-within p.methods p.depends m n dep).1 low high dep

pub slot_at : (p : Plan) (n i : ℕ) → 1 ≤ p.replicas → i < width p n → (r : ℕ) × (1 ≤ r) × (r ≤ p.replicas) × (first_slot p n + i ≡ slot_of p n r)
slot_at p n i some h = by (is_free p n) refl h
  where
    by : (b : Bool) → is_free p n ≡ b → i < (if b then p.replicas else 1) → (r : ℕ) × (1 ≤ r) × (r ≤ p.replicas) × (first_slot p n + i ≡ slot_of p n r)
    by true e lt = (i + 1, omega arith, omega arith, rw e (omega arith))
    by false e lt = (1, omega arith, some, rw e (omega arith))

only_below : (p : Plan) (m k s : ℕ) → 1 ≤ p.replicas → In s (needs_below p m k) → (n r : ℕ) × (1 ≤ r) × (r ≤ p.replicas) × (depends_on p m n ≡ true) × (s ≡ slot_of p n r)
only_below p m zero s some h = absurd h
only_below p m (suc k) s some h = elim (in_parts s (needs_below p m k) _ h) [
  | inl j ↦ only_below p m k s some j
  | inr j ↦ by (true_or_false (depends_on p m k)) j
]
  where
    by : (depends_on p m k ≡ true) ⊎ (depends_on p m k ≡ false) → In s (if depends_on p m k then range_with_len (first_slot p k) (width p k) else []) →
        (n r : ℕ) × (1 ≤ r) × (r ≤ p.replicas) × (depends_on p m n ≡ true) × (s ≡ slot_of p n r)
    by (inl t) j =
        let w = of_range (first_slot p k) (width p k) s (rw t at j) in
        let a = slot_at p k w.0 some w.1 in
        (k, a.0, a.1, a.2, t, w.2 ∙ a.3)
    by (inr f) j = absurd (rw f at j)

pub needed_only : (p : Plan) → IsPlan p → (m s : ℕ) → In s (needs_of p m) → (n r : ℕ) × (1 ≤ r) × (r ≤ p.replicas) × (depends_on p m n ≡ true) × (s ≡ slot_of p n r)
needed_only p is m s h = only_below p m p.methods s (let some = is.some_replicas in omega arith) h
