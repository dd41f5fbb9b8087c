-- Where each call of some order of decision may be taken after those before it, the order is built to its end.
use Rattle.std.proofs.Common.{◌≡◌, ◌⊎◌, ℕ, ◌+◌, zero, suc, true, false, List, [], ◌∷◌, length, length-append, refl, sym, subst, ap, ◌∙◌, inl, inr, Some, None, Option, arith}
use Rattle.std.proofs.lemmas.Bool.{true≢false, eq-eqb}
use Rattle.std.specs.Prelude.{◌==◌}
use Rattle.ham_syntax.specs.declared.act.Place.{Place}
use Rattle.ham_plan.specs.Lists.{In, Within, IsOnceEach}
use Rattle.ham_laws.specs.Executions.{IsInOrder}
use Rattle.ham_plan.proofs.Lists.{true_or_false, in_front, decide_in}
use Rattle.ham_laws.proofs.Places as decide
use Rattle.ham_turns.specs.Settings.{Setting}
use Rattle.ham_turns.specs.Words.{same_place}
use Rattle.ham_turns.specs.Work.{first_of_two}
use Rattle.ham_runs.proofs.Decisions.{same_place_refl, same_place_true}
use Rattle.ham_records.specs.declared.records.Logged.{Logged}
use Rattle.ham_audit.specs.Records.{replicas, places, every_place, stands, front_of, deciding_log}
use Rattle.ham_audit.specs.Order.{next_left, if_own, next_of, next_among, next_taken, with_next, taken_after, order}
use Rattle.ham_audit.proofs.Standing.{stands_in, in_stands, replica_or_empty}
use Rattle.ham_audit.proofs.Ordering.{after_ordered, front}
use Rattle.ham_audit.proofs.Counted.{once_within}

-- where all that precedes c is taken, and c is not, c is the next
left_is : (taken xs : List Place) (c : Place) → In c xs → (In c taken → ⊥) → Within (front_of c xs) taken → next_left taken xs ≡ Some c
left_is taken [] c k new h = absurd k
left_is taken (x ∷ xs) c k new h = elim (true_or_false (same_place x c)) [
  | inl t ↦
      let q : x ≡ c = same_place_true x c t in
      elim (true_or_false (stands x taken)) [
        | inl s ↦ absurd (new (subst (λ z. In z taken) q (stands_in x taken s)))
        | inr f ↦ rw f (ap (λ z. Some z) q)
      ]
  | inr f ↦
      let h' : Within (x ∷ front_of c xs) taken = rw f at h in
      let j : In c xs = elim k [ inl q ↦ absurd (true≢false (sym (same_place_refl c) ∙ subst (λ z. same_place z c ≡ false) (sym q) f)) | inr i ↦ i ] in
      rw (in_stands x taken (h' x (inl refl))) (left_is taken xs c j new (λ z i. h' z (inr i)))
]

is_there : {X : Type 0} (a b : Option X) (c : X) → b ≡ Some c → (d : X) × (first_of_two a b ≡ Some d)
is_there None b c h = (c, h)
is_there (Some x) b c h = (x, refl)

module _ (y : Setting) (records : List (List Logged)) where
  among_there : (taken : List Place) (rs : List ℕ) (r : ℕ) (c : Place) → In r rs → next_of y records taken r ≡ Some c →
      (d : Place) × (next_among y records taken rs ≡ Some d)
  among_there taken [] r c k h = absurd k
  among_there taken (q ∷ rs) r c (inl is) h =
      let e : next_of y records taken q ≡ Some c = subst (λ z. next_of y records taken z ≡ Some c) is h in
      (c, ap (λ o. first_of_two o (next_among y records taken rs)) e)
  among_there taken (q ∷ rs) r c (inr k) h =
      let w = among_there taken rs r c k h in
      is_there (next_of y records taken q) (next_among y records taken rs) w.0 w.1

  -- a call whose replica has all before it taken lets a step take some call
  goes_on : (taken : List Place) (c : Place) → In c (places (deciding_log y records c)) → (In c taken → ⊥) → Within (front y records c) taken →
      (d : Place) × (next_taken y records taken ≡ Some d)
  goes_on taken c k new h = elim (replica_or_empty records (y.decider c.lane)) [
    | inr q ↦ absurd (subst (λ l. In c (places l)) q k)
    | inl j ↦ among_there taken (replicas records) (y.decider c.lane) c j
        (ap (if_own y (y.decider c.lane)) (left_is taken (places (deciding_log y records c)) c k new h) ∙ own_is (eq-eqb (y.decider c.lane) (y.decider c.lane) refl))
  ]
    where
      own_is : (y.decider c.lane == y.decider c.lane) ≡ true → if_own y (y.decider c.lane) (Some c) ≡ Some c
      own_is t = rw t refl

  -- the first of an order that is not taken, or none
  first_left : (taken earlier ds : List Place) → IsInOrder (front y records) earlier ds → Within earlier taken →
      Within ds taken ⊎ ((c : Place) × In c ds × (In c taken → ⊥) × Within (front y records c) taken)
  first_left taken earlier [] h there = inl (λ z k. absurd k)
  first_left taken earlier (d ∷ ds) h there = elim (decide_in decide.same_place d taken) [
    | inr out ↦ inr (d, inl refl, out, λ z k. there z (h.1 z k))
    | inl k ↦ elim (first_left taken (d ∷ earlier) ds h.2 (λ z j. elim j [ inl q ↦ subst (λ v. In v taken) (sym q) k | inr i ↦ there z i ])) [
      | inl all ↦ inl (λ z j. elim j [ inl q ↦ subst (λ v. In v taken) (sym q) k | inr i ↦ all z i ])
      | inr w ↦ inr (w.0, inr w.1, w.2, w.3)
    ]
  ]

  module _ (ds : List Place) (in_order : IsInOrder (front y records) [] ds) (own : (c : Place) → In c ds → In c (places (deciding_log y records c))) where
    -- after n steps all are taken, or n are
    stepped : (taken : List Place) (o : Option Place) (n : ℕ) → next_taken y records taken ≡ o → Within ds taken ⊎ (length taken ≡ n) →
        Within ds (with_next taken o) ⊎ (length (with_next taken o) ≡ suc n)
    stepped taken None n q (inl all) = inl all
    stepped taken (Some d) n q (inl all) = inl (λ z k. in_front z taken (d ∷ []) (all z k))
    stepped taken (Some d) n q (inr size) = inr (length-append taken (d ∷ []) ∙ ap (λ k. k + 1) size ∙ omega arith)
    stepped taken None n q (inr size) = elim (first_left taken [] ds in_order (λ z k. absurd k)) [
      | inl all ↦ inl all
      | inr w ↦ let e = goes_on taken w.0 (own w.0 w.1) w.2 w.3 in absurd (differ e.0 (sym q ∙ e.1))
    ]
      where
        differ : (d : Place) → None ≡ Some d → ⊥
        differ d h = cc

    after : (n : ℕ) → Within ds (taken_after y records n) ⊎ (length (taken_after y records n) ≡ n)
    after zero = inr refl
    after (suc n) = stepped (taken_after y records n) (next_taken y records (taken_after y records n)) n refl (after n)

    -- all are taken in the end
    pub all_taken : ((c : Place) → In c (places (deciding_log y records c)) → In c (every_place records)) → Within ds (order y records)
    all_taken covers = elim (after (length (every_place records))) [
      | inl h ↦ h
      | inr full ↦ λ c k. elim (decide_in decide.same_place c (order y records)) [
        | inl j ↦ j
        | inr out ↦
            let w = after_ordered y records (length (every_place records)) in
            let n = once_within (c ∷ order y records) (every_place records) (out, once_each [] (order y records) w.in_order)
            (λ z i. elim i [ inl q ↦ subst (λ v. In v (every_place records)) (sym q) (covers c (own c k)) | inr j ↦ covers z (w.own z j) ]) in
            absurd (omega (arith, n, full))
      ]
    ]
      where
        not_earlier : (earlier xs : List Place) → IsInOrder (front y records) earlier xs → (z : Place) → In z xs → In z earlier → ⊥
        not_earlier earlier [] h z k j = absurd k
        not_earlier earlier (x ∷ xs) h z (inl q) j = h.0 (subst (λ v. In v earlier) q j)
        not_earlier earlier (x ∷ xs) h z (inr k) j = not_earlier (x ∷ earlier) xs h.2 z k (inr j)

        once_each : (earlier xs : List Place) → IsInOrder (front y records) earlier xs → IsOnceEach xs
        once_each earlier [] h = tt
        once_each earlier (x ∷ xs) h = (λ k. not_earlier (x ∷ earlier) xs h.2 x k (inl refl), once_each (x ∷ earlier) xs h.2)
