-- There is a drain of what was delivered: the waiting call of the least lane is found, and logged, until none waits.
use Rattle.std.proofs.Common.{◌≡◌, ◌≢◌, ◌⊎◌, ◌++◌, ℕ, zero, suc, ◌+◌, ◌≤◌, Bool, true, false, leb, List, [], ◌∷◌, length, refl, sym, subst, ap, ◌∙◌, inl, inr, true≢false, arith}
use Rattle.std.proofs.lemmas.Bool.{cases_eq, leb-true, leb-false}
use Rattle.std.proofs.lemmas.List.{length-append}
use Rattle.ham_meaning.specs.Relations.{Meaning}
use Rattle.ham_plan.specs.Lists.{In}
use Rattle.ham_plan.proofs.Lists.{occurrence_of, in_front, in_back, in_without, in_with, decide_in, true_or_false}
use Rattle.ham_laws.specs.Executions.{Constraints, Execution, method_of}
use Rattle.ham_laws.specs.Drain.{IsWaiting, Drains}
use Rattle.ham_laws.specs.Drain.Drains.{Settled, Next}

module _ {C : Type 0} (m : Meaning) (p : Constraints) (e : Execution C m.Act) (same : (a b : C) → (a ≡ b) ⊎ (a ≢ b)) (delivered : List C) where
  -- which calls of a list c would need, were they logged before it
  abbrev Wanted : C → C → Type 0
  Wanted c n = (e.lane n ≡ e.lane c) ⊎ ((p.conflict (method_of m e n) (method_of m e c) ≡ true) ⊎ (p.depends (method_of m e c) (method_of m e n) ≡ true))

  wanted_or_not : (c n : C) → Wanted c n ⊎ (Wanted c n → ⊥)
  wanted_or_not c n = elim (cases_eq (e.lane n) (e.lane c)) [
    | inl q ↦ inl (inl q)
    | inr ne ↦ elim (true_or_false (p.conflict (method_of m e n) (method_of m e c))) [
      | inl t ↦ inl (inr (inl t))
      | inr f ↦ elim (true_or_false (p.depends (method_of m e c) (method_of m e n))) [
        | inl t ↦ inl (inr (inr t))
        | inr g ↦ inr (λ w. elim w [
          | inl q ↦ ne q
          | inr v ↦ elim v [ inl t ↦ true≢false (sym t ∙ f) | inr t ↦ true≢false (sym t ∙ g) ]
        ])
      ]
    ]
  ]

  abbrev All : C → List C → List C → Type 0
  All c log xs = (n : C) → In n xs → Wanted c n → In n log

  all_or_not : (c : C) (log xs : List C) → All c log xs ⊎ (All c log xs → ⊥)
  all_or_not c log [] = inl (λ n k w. absurd k)
  all_or_not c log (x ∷ xs) = elim (all_or_not c log xs) [
    | inr out ↦ inr (λ h. out (λ n k w. h n (inr k) w))
    | inl rest ↦ elim (wanted_or_not c x) [
      | inr free ↦ inl (λ n. elim [ inl q ↦ λ w. absurd (free (subst (λ z. Wanted c z) q w)) | inr k ↦ rest n k ])
      | inl want ↦ elim (decide_in same x log) [
        | inl there ↦ inl (λ n. elim [ inl q ↦ λ w. subst (λ z. In z log) (sym q) there | inr k ↦ rest n k ])
        | inr out ↦ inr (λ h. out (h x (inl refl) want))
      ]
    ]
  ]

  waits_or_not : (log : List C) (c : C) → In c delivered → IsWaiting m p e log delivered c ⊎ (IsWaiting m p e log delivered c → ⊥)
  waits_or_not log c came = elim (decide_in same c log) [
    | inl there ↦ inr (λ w. w.new there)
    | inr new ↦ elim (all_or_not c log (e.before c)) [
      | inl all ↦ inl (record { came = came; new = new; needs = λ n need. all n need.0 need.1 })
      | inr out ↦ inr (λ w. out (λ n k want. w.needs n (k, want)))
    ]
  ]

  -- of the calls of a list, the waiting one of the least lane
  record Least (log xs : List C) : Type 0 where
    call : C
    stands : In call xs
    waits : IsWaiting m p e log delivered call
    least : (d : C) → In d xs → IsWaiting m p e log delivered d → e.lane call ≤ e.lane d

  abbrev None : List C → List C → Type 0
  None log xs = (d : C) → In d xs → IsWaiting m p e log delivered d → ⊥

  lesser : (log xs : List C) (x : C) → IsWaiting m p e log delivered x → Least log xs → Least log (x ∷ xs)
  lesser log xs x w l = by (leb (e.lane x) (e.lane l.call)) refl
    where
      by : (b : Bool) → leb (e.lane x) (e.lane l.call) ≡ b → Least log (x ∷ xs)
      by true h = record {
        call = x;
        stands = inl refl;
        waits = w;
        least = λ d. elim [
          | inl q ↦ λ also. let s : e.lane d ≡ e.lane x = ap e.lane q in omega arith
          | inr k ↦ λ also. let below = l.least d k also in let first = leb-true (e.lane x) (e.lane l.call) h in omega arith
        ];
      }
      by false h = record {
        call = l.call;
        stands = inr l.stands;
        waits = l.waits;
        least = λ d. elim [
          | inl q ↦ λ also. let s : e.lane d ≡ e.lane x = ap e.lane q in let less = leb-false (e.lane x) (e.lane l.call) h in omega arith
          | inr k ↦ λ also. l.least d k also
        ];
      }

  find_least : (log xs : List C) → ((d : C) → In d xs → In d delivered) → Least log xs ⊎ None log xs
  find_least log [] known = inr (λ d k w. k)
  find_least log (x ∷ xs) known = elim (waits_or_not log x (known x (inl refl))) [
    | inl w ↦ elim (find_least log xs (λ d k. known d (inr k))) [
      | inl l ↦ inl (lesser log xs x w l)
      | inr none ↦ inl (record {
        call = x;
        stands = inl refl;
        waits = w;
        least = λ d. elim [ inl q ↦ λ also. let s : e.lane d ≡ e.lane x = ap e.lane q in omega arith | inr k ↦ λ also. absurd (none d k also) ];
      })
    ]
    | inr out ↦ elim (find_least log xs (λ d k. known d (inr k))) [
      | inl l ↦ inl (record {
        call = l.call;
        stands = inr l.stands;
        waits = l.waits;
        least = λ d. elim [ inl q ↦ λ also. absurd (out (subst (λ z. IsWaiting m p e log delivered z) q also)) | inr k ↦ l.least d k ];
      })
      | inr none ↦ inr (λ d. elim [ inl q ↦ λ w. out (subst (λ z. IsWaiting m p e log delivered z) q w) | inr k ↦ none d k ])
    ]
  ]

  -- pending has all that was delivered and isn't logged
  drain_from : (n : ℕ) (log pending : List C) → length pending ≤ n → ((d : C) → In d pending → In d delivered) → ((d : C) → In d delivered → In d log ⊎ In d pending) → (after : List C) × Drains m p e delivered log after
  drain_from zero log (x ∷ pending) few known all = absurd (omega arith)
  drain_from zero log [] few known all = (log, Settled {log = log} (λ d w. elim (all d w.came) [ inl k ↦ w.new k | inr k ↦ k ]))
  drain_from (suc n) log pending few known all = by (find_least log pending known) (λ rest. drain_from n (log ++ rest.0 ∷ []) rest.1)
    where
      by : Least log pending ⊎ None log pending →
          ((rest : C × List C) → length rest.1 ≤ n → ((d : C) → In d rest.1 → In d delivered) → ((d : C) → In d delivered → In d (log ++ rest.0 ∷ []) ⊎ In d rest.1) → (after : List C) × Drains m p e delivered (log ++ rest.0 ∷ []) after) →
          (after : List C) × Drains m p e delivered log after
      by (inr none) more = (log, Settled {log = log} (λ d w. elim (all d w.came) [ inl k ↦ w.new k | inr k ↦ none d k w ]))
      by (inl l) more =
          let c = l.call in
          let at = occurrence_of c pending l.stands in
          let long : length pending ≡ length at.front + suc (length at.back) = ap length at.is ∙ length-append at.front (c ∷ at.back) in
          let shorter : length (at.front ++ at.back) ≡ length at.front + length at.back = length-append at.front at.back in
          let rest = more (c, at.front ++ at.back) (omega arith)
          (λ d k. known d (subst (λ xs. In d xs) (sym at.is) (elim (same d c) [
            | inl q ↦ subst (λ z. In z (at.front ++ c ∷ at.back)) (sym q) (in_back c at.front (c ∷ at.back) (inl refl))
            | inr ne ↦ in_with d c at.front at.back k
          ])))
          (λ d k. elim (all d k) [
            | inl j ↦ inl (in_front d log (c ∷ []) j)
            | inr j ↦ elim (same d c) [
              | inl q ↦ inl (in_back d log (c ∷ []) (inl q))
              | inr ne ↦ inr (in_without d c at.front at.back ne (subst (λ xs. In d xs) at.is j))
            ]
          ]) in
          (rest.0, Next c l.waits (λ d w. l.least d (elim (all d w.came) [ inl k ↦ absurd (w.new k) | inr k ↦ k ]) w) rest.1)

  pub drain_exists : (log : List C) → (after : List C) × Drains m p e delivered log after
  drain_exists log = drain_from (length delivered) log delivered (omega arith) (λ d k. k) (λ d k. inr k)
