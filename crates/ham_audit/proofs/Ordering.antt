-- What the order of decision keeps: each call stands in the log of its deciding replica, stands once, and comes after what precedes it there.
use Rattle.std.proofs.Common.{◌≡◌, ◌⊎◌, ◌++◌, ℕ, zero, suc, true, false, List, [], ◌∷◌, refl, sym, subst, inl, inr, Some, None, Option}
use Rattle.std.proofs.lemmas.Bool.{eqb-true}
use Rattle.std.specs.Prelude.{◌==◌}
use Rattle.ham_syntax.specs.declared.act.Place.{Place}
use Rattle.ham_plan.specs.Lists.{In, Within}
use Rattle.ham_laws.specs.Executions.{IsInOrder}
use Rattle.ham_plan.proofs.Lists.{true_or_false, in_last}
use Rattle.ham_turns.specs.Settings.{Setting}
use Rattle.ham_turns.specs.Words.{same_place}
use Rattle.ham_runs.proofs.Decisions.{same_place_refl}
use Rattle.ham_runs.proofs.Listed.{some_inj}
use Rattle.ham_records.specs.declared.records.Logged.{Logged}
use Rattle.ham_audit.specs.Records.{log_of, replicas, places, stands, front_of, deciding_log}
use Rattle.ham_audit.specs.Order.{next_left, if_own, next_of, next_among, next_taken, with_next, taken_after}
use Rattle.ham_audit.proofs.Standing.{stands_in, stands_not, some_either}

none_some : {X : Type 0} (c : X) → None ≡ Some c → ⊥
none_some c q = cc

pub left_new : (taken xs : List Place) (c : Place) → next_left taken xs ≡ Some c → stands c taken ≡ false
left_new taken [] c h = absurd (none_some c h)
left_new taken (x ∷ xs) c h = elim (true_or_false (stands x taken)) [
  | inl t ↦ left_new taken xs c (rw t at h)
  | inr f ↦ subst (λ z. stands z taken ≡ false) (some_inj x c (rw f at h)) f
]

pub left_in : (taken xs : List Place) (c : Place) → next_left taken xs ≡ Some c → In c xs
left_in taken [] c h = absurd (none_some c h)
left_in taken (x ∷ xs) c h = elim (true_or_false (stands x taken)) [
  | inl t ↦ inr (left_in taken xs c (rw t at h))
  | inr f ↦ inl (sym (some_inj x c (rw f at h)))
]

pub left_front : (taken xs : List Place) (c : Place) → next_left taken xs ≡ Some c → Within (front_of c xs) taken
left_front taken [] c h z k = absurd k
left_front taken (x ∷ xs) c h z k = elim (true_or_false (stands x taken)) [
  | inl t ↦ elim (true_or_false (same_place x c)) [
    | inl s ↦ absurd (rw s at k)
    | inr n ↦
        let j : In z (x ∷ front_of c xs) = rw n at k in
        elim j [ inl q ↦ subst (λ v. In v taken) (sym q) (stands_in x taken t) | inr i ↦ left_front taken xs c (rw t at h) z i ]
  ]
  | inr f ↦
      let s : same_place x c ≡ true = subst (λ v. same_place x v ≡ true) (some_inj x c (rw f at h)) (same_place_refl x) in
      absurd (rw s at k)
]

module _ (y : Setting) (records : List (List Logged)) where
  -- a call that a step may take
  pub record Goes (taken : List Place) (c : Place) : Type 0 where
    pub left : next_left taken (places (deciding_log y records c)) ≡ Some c

  own_goes : (taken : List Place) (r : ℕ) (o : Option Place) (c : Place) → next_left taken (places (log_of records r)) ≡ o → if_own y r o ≡ Some c → Goes taken c
  own_goes taken r None c q h = absurd (none_some c h)
  own_goes taken r (Some d) c q h = elim (true_or_false (y.decider d.lane == r)) [
    | inr f ↦ absurd (none_some c (rw f at h))
    | inl t ↦
        let is : d ≡ c = some_inj d c (rw t at h) in
        let at : y.decider d.lane ≡ r = eqb-true (y.decider d.lane) r t in
        subst (λ z. Goes taken z) is (record { left = subst (λ v. next_left taken (places (log_of records v)) ≡ Some d) (sym at) q })
  ]

  pub among_goes : (taken : List Place) (rs : List ℕ) (c : Place) → next_among y records taken rs ≡ Some c → Goes taken c
  among_goes taken [] c h = absurd (none_some c h)
  among_goes taken (r ∷ rs) c h = elim (some_either (next_of y records taken r) (next_among y records taken rs) c h) [
    | inl k ↦ own_goes taken r (next_left taken (places (log_of records r))) c refl k
    | inr k ↦ among_goes taken rs c k
  ]

  abbrev pub front : Place → List Place
  front c = front_of c (places (deciding_log y records c))

  pub record Ordered (taken : List Place) : Type 0 where
    pub in_order : IsInOrder front [] taken
    pub own : (c : Place) → In c taken → In c (places (deciding_log y records c))

  order_push : (earlier xs : List Place) (c : Place) → IsInOrder front earlier xs →
      ((z : Place) → In z earlier → In z xs ⊎ In z earlier) → (In c xs → ⊥) → (In c earlier → ⊥) →
      ((z : Place) → In z (front c) → In z xs ⊎ In z earlier) → IsInOrder front earlier (xs ++ c ∷ [])
  order_push earlier [] c h g new_xs new fronts = (new, (λ z k. elim (fronts z k) [ inl j ↦ absurd j | inr j ↦ j ]), tt)
  order_push earlier (x ∷ xs) c h g new_xs new fronts = (
    h.0,
    h.1,
    order_push (x ∷ earlier) xs c h.2 (λ z k. inr k) (λ k. new_xs (inr k))
        (λ k. elim k [ inl q ↦ new_xs (inl q) | inr j ↦ new j ])
        (λ z k. elim (fronts z k) [ inl j ↦ elim j [ inl q ↦ inr (inl q) | inr i ↦ inl i ] | inr j ↦ inr (inr j) ]),
  )

  pushed : (taken : List Place) (c : Place) → Ordered taken → Goes taken c → Ordered (taken ++ c ∷ [])
  pushed taken c h goes =
      let new : In c taken → ⊥ = stands_not c taken (left_new taken (places (deciding_log y records c)) c goes.left) in
      record {
        in_order = order_push [] taken c h.in_order (λ z k. absurd k) new (λ k. k) (λ z k. inl (left_front taken (places (deciding_log y records c)) c goes.left z k));
        own = λ z k. elim (in_last z c taken k) [
          | inl j ↦ h.own z j
          | inr q ↦ subst (λ v. In v (places (deciding_log y records v))) (sym q) (left_in taken (places (deciding_log y records c)) c goes.left)
        ];
      }

  stepped : (taken : List Place) (o : Option Place) → Ordered taken → next_taken y records taken ≡ o → Ordered (with_next taken o)
  stepped taken None h q = h
  stepped taken (Some c) h q = pushed taken c h (among_goes taken (replicas records) c q)

  pub after_ordered : (n : ℕ) → Ordered (taken_after y records n)
  after_ordered zero = record { in_order = tt; own = λ c k. absurd k }
  after_ordered (suc n) = stepped (taken_after y records n) (next_taken y records (taken_after y records n)) (after_ordered n) refl
