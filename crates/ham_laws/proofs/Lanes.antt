-- What a deciding turn keeps of lanes and numbers.
use Rattle.std.proofs.Common.{◌≡◌, ◌≢◌, ◌⊎◌, ℕ, ◌+◌, ◌≤◌, Bool, eqb, cond, count_by, List, [], ◌∷◌, refl, sym, subst, ap, ◌∙◌, inl, inr, arith}
use Rattle.std.proofs.lemmas.Bool.{eqb-true}
use Rattle.ham_laws.specs.Executions.{Constraints, Execution, IsInOrder, IsWellCoordinated}
use Rattle.ham_meaning.specs.Relations.{Meaning}
use Rattle.ham_plan.specs.Lists.{In, Within, IsOnceEach}
use Rattle.ham_laws.specs.Turns.{Extends, IsDecision}
use Rattle.ham_laws.specs.Drain.{LanesOrdered}
use Rattle.ham_laws.specs.Counts.{of_lane, IsNumbered}
use Rattle.ham_plan.proofs.Lists.{in_last}
use Rattle.ham_laws.proofs.Bridge.{calls_after}
use Rattle.ham_laws.proofs.Counts.{count_by-cons, count_within, distinct}

pub count_by-same : {X : Type 0} (t u : X → Bool) (xs : List X) → ((x : X) → In x xs → t x ≡ u x) → count_by t xs ≡ count_by u xs
count_by-same t u [] h = refl
count_by-same t u (x ∷ xs) h =
    count_by-cons t x xs ∙ ap (λ b. cond b 1 0 + count_by t xs) (h x (inl refl)) ∙ ap (λ n. cond (u x) 1 0 + n) (count_by-same t u xs (λ y k. h y (inr k))) ∙ sym (count_by-cons u x xs)

pub order_apart : {C : Type 0} (b : C → List C) (earlier xs : List C) (y : C) → IsInOrder b earlier xs → In y xs → In y earlier → ⊥
order_apart b earlier [] y h k s = k
order_apart b earlier (x ∷ xs) y h (inl q) s = h.0 (subst (λ z. In z earlier) q s)
order_apart b earlier (x ∷ xs) y h (inr k) s = order_apart b (x ∷ earlier) xs y h.2 k (inr s)

pub order_distinct : {C : Type 0} (b : C → List C) (earlier xs : List C) → IsInOrder b earlier xs → IsOnceEach xs
order_distinct b earlier [] h = tt
order_distinct b earlier (x ∷ xs) h = (λ k. order_apart b (x ∷ earlier) xs x h.2 k (inl refl), order_distinct b (x ∷ earlier) xs h.2)

-- ---- what was so of the calls decided before is so later
module _ {C : Type 0} (m : Meaning) (p : Constraints) (e later : Execution C m.Act) (well : IsWellCoordinated m p e) (ext : Extends e later) where
  order_stays : LanesOrdered e → (x y : C) → In x e.decided → In y e.decided → x ≢ y → later.lane x ≡ later.lane y → In x (later.before y) ⊎ In y (later.before x)
  order_stays ordered x y kx ky ne q = elim (ordered x y kx ky ne (sym (ext.lane x kx) ∙ q ∙ ext.lane y ky)) [
    | inl j ↦ inl (subst (λ l. In x l) (sym (ext.before y ky)) j)
    | inr j ↦ inr (subst (λ l. In y l) (sym (ext.before x kx)) j)
  ]

  same_tests : (l : ℕ) (xs : List C) → Within xs e.decided → count_by (of_lane later l) xs ≡ count_by (of_lane e l) xs
  same_tests l xs known = count_by-same (of_lane later l) (of_lane e l) xs (λ x k. ap (λ n. eqb n l) (ext.lane x (known x k)))

  number_stays : (number : C → ℕ) → IsNumbered e number → (x : C) → In x e.decided → number x ≡ count_by (of_lane later (later.lane x)) (later.before x) + 1
  number_stays number numbered x k =
      subst (λ l. number x ≡ count_by (of_lane later (later.lane x)) l + 1) (sym (ext.before x k))
      (subst (λ n. number x ≡ count_by (of_lane later n) (e.before x) + 1) (sym (ext.lane x k))
      (numbered x k ∙ ap (λ n. n + 1) (sym (same_tests (e.lane x) (e.before x) (calls_after m p e [] (e.before x) (well.before_closed x k))))))

-- ---- where no call is decided
module _ {C : Type 0} (m : Meaning) (p : Constraints) (e later : Execution C m.Act) (well : IsWellCoordinated m p e) (ext : Extends e later) (same : later.decided ≡ e.decided) where
  known_before : (x : C) → In x later.decided → In x e.decided
  known_before x d = subst (λ l. In x l) same d

  pub lanes_kept : LanesOrdered e → LanesOrdered later
  lanes_kept ordered x y dx dy ne q = order_stays m p e later well ext ordered x y (known_before x dx) (known_before y dy) ne q

  pub numbered_kept : (number : C → ℕ) → IsNumbered e number → IsNumbered later number
  numbered_kept number numbered x d = number_stays m p e later well ext number numbered x (known_before x d)

-- ---- where one is decided, of whose lane its replica has logged all
module _ {C : Type 0} (m : Meaning) (p : Constraints) (e later : Execution C m.Act) (r : ℕ) (c : C) (well : IsWellCoordinated m p e) (turn : IsDecision m p e later r c)
    (same_lane : (d : C) → In d e.decided → e.lane d ≡ later.lane c → In d (e.log r)) where
  split : (x : C) → In x later.decided → In x e.decided ⊎ (x ≡ c)
  split x d = in_last x c e.decided (subst (λ l. In x l) turn.decided d)

  in_before : (d : C) → In d e.decided → later.lane d ≡ later.lane c → In d (later.before c)
  in_before d k q = subst (λ l. In d l) (sym turn.before) (same_lane d k (sym (turn.extends.lane d k) ∙ q))

  pub lanes_later : LanesOrdered e → LanesOrdered later
  lanes_later ordered x y dx dy ne q = elim (split x dx) [
    | inl kx ↦ elim (split y dy) [
      | inl ky ↦ order_stays m p e later well turn.extends ordered x y kx ky ne q
      | inr qy ↦ inl (subst (λ z. In x (later.before z)) (sym qy) (in_before x kx (q ∙ ap later.lane qy)))
    ]
    | inr qx ↦ elim (split y dy) [
      | inl ky ↦ inr (subst (λ z. In y (later.before z)) (sym qx) (in_before y ky (sym q ∙ ap later.lane qx)))
      | inr qy ↦ absurd (ne (qx ∙ sym qy))
    ]
  ]

  -- the replica has logged exactly the calls of the lane that were decided
  lane_logged : count_by (of_lane e (later.lane c)) e.decided ≡ count_by (of_lane e (later.lane c)) (e.log r)
  lane_logged =
      let up : count_by (of_lane e (later.lane c)) e.decided ≤ count_by (of_lane e (later.lane c)) (e.log r) =
      count_within (of_lane e (later.lane c)) e.decided (e.log r) (order_distinct e.before [] e.decided well.in_order)
      (λ y k t. same_lane y k (eqb-true (e.lane y) (later.lane c) t)) in
      let down : count_by (of_lane e (later.lane c)) (e.log r) ≤ count_by (of_lane e (later.lane c)) e.decided =
      count_within (of_lane e (later.lane c)) (e.log r) e.decided (distinct m p e [] (e.log r) (well.logs_closed r))
      (λ y k t. calls_after m p e [] (e.log r) (well.logs_closed r) y k) in
      omega arith

  pub numbered_later : (number : C → ℕ) → IsNumbered e number → number c ≡ count_by (of_lane e (later.lane c)) e.decided + 1 → IsNumbered later number
  numbered_later number numbered next x d = elim (split x d) [
    | inl k ↦ number_stays m p e later well turn.extends number numbered x k
    | inr q ↦
        subst (λ z. number z ≡ count_by (of_lane later (later.lane z)) (later.before z) + 1) (sym q)
        (subst (λ l. number c ≡ count_by (of_lane later (later.lane c)) l + 1) (sym turn.before)
        (next ∙ ap (λ n. n + 1) (lane_logged ∙ sym (same_tests m p e later well turn.extends (later.lane c) (e.log r) (calls_after m p e [] (e.log r) (well.logs_closed r))))))
  ]
