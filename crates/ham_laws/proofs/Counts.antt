-- A call is ready by number and counts exactly where it is new and its needs are logged.
use Rattle.std.proofs.Common.{◌≡◌, ◌≢◌, ◌⊎◌, ◌++◌, ◌↔◌, ℕ, ◌+◌, ◌≤◌, Bool, true, false, cond, eqb, count_by, List, [], ◌∷◌, refl, sym, ap, subst, ◌∙◌, inl, inr, arith}
use Rattle.std.proofs.lemmas.List.Sums.{sum_by-cons}
use Rattle.std.proofs.lemmas.Bool.{eqb-true, eq-eqb, and_parts}
use Rattle.ham_laws.specs.Executions.{Constraints, Execution, Needs, IsInOrder, IsClosed, IsClosedAfter, IsWellCoordinated, method_of}
use Rattle.ham_meaning.specs.Relations.{Meaning}
use Rattle.ham_plan.specs.Lists.{In, IsOnceEach}
use Rattle.ham_laws.specs.Drain.{IsWaiting, LanesOrdered}
use Rattle.ham_laws.specs.Counts.{of_lane, of_slot, IsReadyByCounts, IsNumbered, ConflictsShareLanes}
use Rattle.ham_plan.proofs.Lists.{occurrence_of, in_without, decide_in, true_or_false}
use Rattle.ham_laws.proofs.Bridge.{calls_after}

-- ---- how many pass a test
pub count_by-cons : {X : Type 0} (test : X → Bool) (x : X) (xs : List X) → count_by test (x ∷ xs) ≡ cond (test x) 1 0 + count_by test xs
count_by-cons test x xs = sum_by-cons (λ y. cond (test y) 1 0) x xs

counted : {X : Type 0} (test : X → Bool) (x : X) (xs : List X) → test x ≡ true → count_by test (x ∷ xs) ≡ count_by test xs + 1
counted test x xs t = count_by-cons test x xs ∙ ap (λ b. cond b 1 0 + count_by test xs) t ∙ omega arith

passed_over : {X : Type 0} (test : X → Bool) (x : X) (xs : List X) → test x ≡ false → count_by test (x ∷ xs) ≡ count_by test xs
passed_over test x xs f = count_by-cons test x xs ∙ ap (λ b. cond b 1 0 + count_by test xs) f ∙ omega arith

counted_at : {X : Type 0} (test : X → Bool) (us vs : List X) (y : X) → test y ≡ true → count_by test (us ++ y ∷ vs) ≡ count_by test (us ++ vs) + 1
counted_at test [] vs y t = counted test y vs t
counted_at test (u ∷ us) vs y t =
    let further = counted_at test us vs y t in
    let long = count_by-cons test u (us ++ y ∷ vs) in
    let short = count_by-cons test u (us ++ vs) in
    omega arith

-- what passes the test in a list of different calls is no more than in a list that has it all
pub count_within : {X : Type 0} (test : X → Bool) (ys xs : List X) → IsOnceEach ys → ((y : X) → In y ys → test y ≡ true → In y xs) → count_by test ys ≤ count_by test xs
count_within test [] xs h to = omega arith
count_within test (y ∷ ys) xs h to = elim (true_or_false (test y)) [
  | inl t ↦
      let w = occurrence_of y xs (to y (inl refl) t) in
      let below : count_by test ys ≤ count_by test (w.front ++ w.back) =
      count_within test ys (w.front ++ w.back) h.1
      (λ z k tz. in_without z y w.front w.back (λ q. h.0 (subst (λ v. In v ys) q k)) (subst (λ l. In z l) w.is (to z (inr k) tz))) in
      let size : count_by test xs ≡ count_by test (w.front ++ w.back) + 1 =
      subst (λ l. count_by test l ≡ count_by test (w.front ++ w.back) + 1) (sym w.is) (counted_at test w.front w.back y t) in
      let one = counted test y ys t in
      omega arith
  | inr f ↦
      let none = passed_over test y ys f in
      let below = count_within test ys xs h.1 (λ z k tz. to z (inr k) tz) in
      omega arith
]

module _ {C : Type 0} (m : Meaning) (p : Constraints) (e : Execution C m.Act) where
  not_seen : (seen xs : List C) (y : C) → IsClosedAfter m p e seen xs → In y xs → In y seen → ⊥
  not_seen seen [] y h k s = k
  not_seen seen (x ∷ xs) y h (inl q) s = h.1 (subst (λ z. In z seen) q s)
  not_seen seen (x ∷ xs) y h (inr k) s = not_seen (x ∷ seen) xs y h.3 k (inr s)

  pub distinct : (seen xs : List C) → IsClosedAfter m p e seen xs → IsOnceEach xs
  distinct seen [] h = tt
  distinct seen (x ∷ xs) h = (λ k. not_seen (x ∷ seen) xs x h.3 k (inl refl), distinct (x ∷ seen) xs h.3)

  needed_after : (seen xs : List C) (c n : C) → IsClosedAfter m p e seen xs → In c xs → Needs m p e c n → In n seen ⊎ In n xs
  needed_after seen [] c n h k need = absurd k
  needed_after seen (x ∷ xs) c n h (inl q) need = inl (h.2 n (subst (λ z. Needs m p e z n) q need))
  needed_after seen (x ∷ xs) c n h (inr k) need = elim (needed_after (x ∷ seen) xs c n h.3 k need) [
    | inl s ↦ elim s [ inl q ↦ inr (inl q) | inr s' ↦ inl s' ]
    | inr j ↦ inr (inr j)
  ]

  pub needed_in : (xs : List C) (c n : C) → IsClosed m p e xs → In c xs → Needs m p e c n → In n xs
  needed_in xs c n h k need = elim (needed_after [] xs c n h k need) [ inl s ↦ absurd s | inr j ↦ j ]

  -- of two closed lists, the one with no fewer calls of a class that lies in one lane has all of the other's calls of it
  class_within : ((a b : C) → (a ≡ b) ⊎ (a ≢ b)) → LanesOrdered e → (test : C → Bool) → ((c d : C) → test c ≡ true → test d ≡ true → e.lane c ≡ e.lane d) →
      (xs ys : List C) → IsClosed m p e xs → IsClosed m p e ys → count_by test xs ≤ count_by test ys → (x : C) → In x xs → test x ≡ true → In x ys
  class_within same ordered test one xs ys hx hy le x k t = elim (decide_in same x ys) [
    | inl j ↦ j
    | inr out ↦
        let to : (y : C) → In y ys → test y ≡ true → In y xs =
        λ y j ty. elim (ordered x y (calls_after m p e [] xs hx x k) (calls_after m p e [] ys hy y j) (λ q. out (subst (λ z. In z ys) (sym q) j)) (one x y t ty)) [
          | inl x_first ↦ absurd (out (needed_in ys y x hy j (x_first, inl (one x y t ty))))
          | inr y_first ↦ needed_in xs x y hx k (y_first, inl (one y x ty t))
        ] in
        let more : count_by test (x ∷ ys) ≤ count_by test xs =
        count_within test (x ∷ ys) xs (out, distinct [] ys hy)
        (λ y. elim [ inl q ↦ λ ty. subst (λ z. In z xs) (sym q) k | inr j ↦ λ ty. to y j ty ]) in
        let one = counted test x ys t in
        absurd (omega arith)
  ]

  self_out : (earlier xs : List C) (c : C) → IsInOrder e.before earlier xs → In c xs → In c (e.before c) → ⊥
  self_out earlier [] c h k j = k
  self_out earlier (x ∷ xs) c h (inl q) j = h.0 (h.1 x (subst (λ z. In z (e.before z)) q j))
  self_out earlier (x ∷ xs) c h (inr k) j = self_out (x ∷ earlier) xs c h.2 k j

  lane_one : (l : ℕ) (c d : C) → of_lane e l c ≡ true → of_lane e l d ≡ true → e.lane c ≡ e.lane d
  lane_one l c d t s = eqb-true (e.lane c) l t ∙ sym (eqb-true (e.lane d) l s)

  slot_parts : (f l : ℕ) (c : C) → of_slot m e f l c ≡ true → (e.lane c ≡ l) × (method_of m e c ≡ f)
  slot_parts f l c t =
      let w = and_parts (eqb (e.lane c) l) (eqb (method_of m e c) f) t in
      (eqb-true (e.lane c) l w.0, eqb-true (method_of m e c) f w.1)

  slot_one : (f l : ℕ) (c d : C) → of_slot m e f l c ≡ true → of_slot m e f l d ≡ true → e.lane c ≡ e.lane d
  slot_one f l c d t s = (slot_parts f l c t).0 ∙ sym (slot_parts f l d s).0

  own_slot : (c : C) → of_slot m e (method_of m e c) (e.lane c) c ≡ true
  own_slot c = rw (eq-eqb (e.lane c) (e.lane c) refl, eq-eqb (method_of m e c) (method_of m e c) refl) refl

  module _ (same : (a b : C) → (a ≡ b) ⊎ (a ≢ b)) (well : IsWellCoordinated m p e) (ordered : LanesOrdered e) (share : ConflictsShareLanes m p e) (number : C → ℕ) (numbered : IsNumbered e number) where
    needs_from_counts : (log : List C) (c : C) → IsClosed m p e log → In c e.decided → IsReadyByCounts m p e number log c → (n : C) → Needs m p e c n → In n log
    needs_from_counts log c h d ready n need =
        let hb = well.before_closed c d in
        let is = numbered c d in
        let is' = ready.next in
        let low : count_by (of_lane e (e.lane c)) (e.before c) ≤ count_by (of_lane e (e.lane c)) log = omega arith in
        let by_lane : e.lane n ≡ e.lane c → In n log =
        λ q. class_within same ordered (of_lane e (e.lane c)) (lane_one (e.lane c)) (e.before c) log hb h low n need.0 (eq-eqb (e.lane n) (e.lane c) q) in
        elim need.1 [
          | inl q ↦ by_lane q
          | inr r ↦ elim r [
            | inl t ↦ by_lane (share n c (calls_after m p e [] (e.before c) hb n need.0) d t)
            | inr t ↦ class_within same ordered (of_slot m e (method_of m e n) (e.lane n)) (slot_one (method_of m e n) (e.lane n)) (e.before c) log hb h
                (ready.counts (method_of m e n) (e.lane n) t) n need.0 (own_slot n)
          ]
        ]

    new_from_counts : (log : List C) (c : C) → IsClosed m p e log → In c e.decided → IsReadyByCounts m p e number log c → In c log → ⊥
    new_from_counts log c h d ready k =
        let is = numbered c d in
        let is' = ready.next in
        let more : count_by (of_lane e (e.lane c)) (c ∷ e.before c) ≤ count_by (of_lane e (e.lane c)) log =
        count_within (of_lane e (e.lane c)) (c ∷ e.before c) log (self_out [] e.decided c well.in_order d, distinct [] (e.before c) (well.before_closed c d))
        (λ y. elim [
          | inl q ↦ λ ty. subst (λ z. In z log) (sym q) k
          | inr j ↦ λ ty. needs_from_counts log c h d ready y (j, inl (eqb-true (e.lane y) (e.lane c) ty))
        ]) in
        let one = counted (of_lane e (e.lane c)) c (e.before c) (eq-eqb (e.lane c) (e.lane c) refl) in
        omega arith

    counts_from_needs : (log : List C) (c : C) → IsClosed m p e log → In c e.decided → (In c log → ⊥) → ((n : C) → Needs m p e c n → In n log) → IsReadyByCounts m p e number log c
    counts_from_needs log c h d new needs =
        let hb = well.before_closed c d in
        let is = numbered c d in
        let low : count_by (of_lane e (e.lane c)) (e.before c) ≤ count_by (of_lane e (e.lane c)) log =
        count_within (of_lane e (e.lane c)) (e.before c) log (distinct [] (e.before c) hb) (λ y j ty. needs y (j, inl (eqb-true (e.lane y) (e.lane c) ty))) in
        let high : count_by (of_lane e (e.lane c)) log ≤ count_by (of_lane e (e.lane c)) (e.before c) =
        count_within (of_lane e (e.lane c)) log (e.before c) (distinct [] log h)
        (λ y j ty.
        let q : e.lane y ≡ e.lane c = eqb-true (e.lane y) (e.lane c) ty in
        elim (ordered y c (calls_after m p e [] log h y j) d (λ s. new (subst (λ z. In z log) s j)) q) [
          | inl y_first ↦ y_first
          | inr c_first ↦ absurd (new (needed_in log y c h j (c_first, inl (sym q))))
        ]) in
        record {
          next = omega arith;
          counts = λ f l dep. count_within (of_slot m e f l) (e.before c) log (distinct [] (e.before c) hb)
              (λ y j ty. needs y (j, inr (inr (subst (λ z. p.depends (method_of m e c) z ≡ true) (sym (slot_parts f l y ty).1) dep))));
        }

    -- ready by number and counts exactly where it may be logged next
    pub ready_exactly : (log : List C) (c : C) → IsClosed m p e log → In c e.decided →
        IsReadyByCounts m p e number log c ↔ IsWaiting m p e log e.decided c
    ready_exactly log c h d = (
      λ ready. record { came = d; new = new_from_counts log c h d ready; needs = needs_from_counts log c h d ready },
      λ waits. counts_from_needs log c h d waits.new waits.needs,
    )
