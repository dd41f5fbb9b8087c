-- A call is taken exactly where the pointer into its decider's log has passed it: pointers are all that the order of decision asks.
use Rattle.std.proofs.Common.{◌≡◌, ◌++◌, ℕ, ◌+◌, ◌<◌, Bool, true, false, cond, List, [], ◌∷◌, refl, sym, subst, ap, ◌∙◌, inl, inr, Some, None, Option, arith}
use Rattle.std.specs.Prelude.{◌==◌, slice_get, if◌then◌else◌}
use Rattle.std.proofs.lemmas.Bool.{true≢false, eq-eqb, ne_eqb, lt-ltb, le-ltb, cases_eq, cases_order}
use Rattle.ham_syntax.specs.declared.act.Place.{Place}
use Rattle.ham_plan.proofs.Lists.{true_or_false}
use Rattle.ham_turns.specs.Settings.{Setting}
use Rattle.ham_turns.specs.Words.{same_place}
use Rattle.ham_runs.proofs.Decisions.{same_place_refl, same_place_true}
use Rattle.ham_records.specs.declared.records.Logged.{Logged}
use Rattle.ham_audit.specs.Records.{log_of, places, stands, deciding_log}
use Rattle.ham_audit.specs.Indexed.{first_index}
use Rattle.ham_audit.proofs.Indexing.{is_below, one_less}

none_some : (j : ℕ) → None ≡ Some j → ⊥
none_some j h = cc

some_is : {X : Type 0} (a b : X) → Some a ≡ Some b → a ≡ b
some_is a b h = cc

-- at its first index stands the place
first_place : (c : Place) (xs : List Place) (j : ℕ) → first_index c xs ≡ Some j → slice_get xs j ≡ Some c
first_place c [] j h = absurd (none_some j h)
first_place c (x ∷ xs) j h = elim (true_or_false (same_place x c)) [
  | inl t ↦
      let q : 0 ≡ j = some_is 0 j (rw t at h) in
      subst (λ k. slice_get (x ∷ xs) k ≡ Some c) q (ap (λ z. Some z) (same_place_true x c t))
  | inr f ↦
      let w = one_less (first_index c xs) j (rw f at h) in
      subst (λ k. slice_get (x ∷ xs) k ≡ Some c) (sym w.2) (first_place c xs w.0 w.1)
]

below_step : (o : Option ℕ) (a : ℕ) → (o ≡ Some a → ⊥) → is_below (a + 1) o ≡ is_below a o
below_step None a ne = refl
below_step (Some j) a ne = elim (cases_order j a) [
  | inl q ↦ absurd (ne (ap (λ z. Some z) q))
  | inr r ↦ elim r [
    | inl less ↦ lt-ltb j (a + 1) (omega arith) ∙ sym (lt-ltb j a less)
    | inr more ↦ le-ltb j (a + 1) (omega arith) ∙ sym (le-ltb j a (omega arith))
  ]
]

-- the pointer of r one further
abbrev pub moved : (ℕ → ℕ) → ℕ → ℕ → ℕ
moved at r q = if r == q then at q + 1 else at q

stands_push : (c d : Place) (xs : List Place) → stands c (xs ++ d ∷ []) ≡ (if stands c xs then true else same_place d c)
stands_push c d [] = by_test (same_place d c)
  where
    by_test : (b : Bool) → cond b true false ≡ b
    by_test true = refl
    by_test false = refl
stands_push c d (x ∷ xs) = elim (true_or_false (same_place x c)) [ inl t ↦ rw t refl | inr f ↦ rw f (stands_push c d xs) ]

module _ (y : Setting) (records : List (List Logged)) where
  abbrev pub Passed : (ℕ → ℕ) → List Place → Type 0
  Passed at taken = (c : Place) → stands c taken ≡ is_below (at (y.decider c.lane)) (first_index c (places (deciding_log y records c)))

  -- before the first step
  pub none_passed : Passed (λ r. 0) []
  none_passed c = none_below (first_index c (places (deciding_log y records c)))
    where
      none_below : (o : Option ℕ) → false ≡ is_below 0 o
      none_below None = refl
      none_below (Some j) = sym (le-ltb j 0 (omega arith))

  module _ (at : ℕ → ℕ) (taken : List Place) (r : ℕ) (d : Place) (passed : Passed at taken) (here : slice_get (places (log_of records r)) (at r) ≡ Some d) where
    -- what the pointer meets is the call, where the call's first index is there
    meets : (c : Place) → y.decider c.lane ≡ r → first_index c (places (deciding_log y records c)) ≡ Some (at r) → d ≡ c
    meets c q first =
        some_is d c (sym here ∙ subst (λ z. slice_get (places (log_of records z)) (at r) ≡ Some c) q (first_place c (places (deciding_log y records c)) (at r) first))

    -- the pointer passes a call that is taken
    pub passes_taken : stands d taken ≡ true → Passed (moved at r) taken
    passes_taken t c = elim (cases_eq r (y.decider c.lane)) [
      | inr ne ↦ passed c ∙ ap (λ k. is_below k (first_index c (places (deciding_log y records c)))) (sym (other (y.decider c.lane) ne))
      | inl q ↦
          passed c
          ∙ sym (below_step (first_index c (places (deciding_log y records c))) (at (y.decider c.lane)) (λ first. untaken c q first))
          ∙ ap (λ k. is_below k (first_index c (places (deciding_log y records c)))) (sym (same (y.decider c.lane) q))
    ]
      where
        other : (q : ℕ) → (r ≡ q → ⊥) → moved at r q ≡ at q
        other q ne = rw (ne_eqb r q ne) refl

        same : (q : ℕ) → r ≡ q → moved at r q ≡ at q + 1
        same q e = rw (eq-eqb r q e) refl

        untaken : (c : Place) → r ≡ y.decider c.lane → first_index c (places (deciding_log y records c)) ≡ Some (at (y.decider c.lane)) → ⊥
        untaken c q first =
            let is : d ≡ c = meets c (sym q) (subst (λ z. first_index c (places (deciding_log y records c)) ≡ Some (at z)) (sym q) first) in
            let no_below : stands c taken ≡ false = passed c ∙ ap (is_below (at (y.decider c.lane))) first ∙ le-ltb (at (y.decider c.lane)) (at (y.decider c.lane)) (omega arith) in
            true≢false (sym t ∙ subst (λ z. stands z taken ≡ false) (sym is) no_below)

    -- the pointer passes a call that its replica decides, which is taken so
    pub passes_own : y.decider d.lane ≡ r → first_index d (places (deciding_log y records d)) ≡ Some (at r) → Passed (moved at r) (taken ++ d ∷ [])
    passes_own own first c = stands_push c d taken ∙ elim (true_or_false (same_place d c)) [
      | inl t ↦
          let is : d ≡ c = same_place_true d c t in
          rw t (either (stands c taken)
          ∙ subst (λ z. true ≡ is_below (moved at r (y.decider z.lane)) (first_index z (places (deciding_log y records z)))) is taken_now)
      | inr f ↦ rw f (stays (stands c taken) ∙ passed c ∙ elim (cases_eq r (y.decider c.lane)) [
        | inr ne ↦ ap (λ k. is_below k (first_index c (places (deciding_log y records c)))) (sym (other (y.decider c.lane) ne))
        | inl q ↦
            sym (below_step (first_index c (places (deciding_log y records c))) (at (y.decider c.lane)) (λ there. absurd (apart c f
            (meets c (sym q) (subst (λ z. first_index c (places (deciding_log y records c)) ≡ Some (at z)) (sym q) there)))))
            ∙ ap (λ k. is_below k (first_index c (places (deciding_log y records c)))) (sym (same (y.decider c.lane) q))
      ])
    ]
      where
        other : (q : ℕ) → (r ≡ q → ⊥) → moved at r q ≡ at q
        other q ne = rw (ne_eqb r q ne) refl

        same : (q : ℕ) → r ≡ q → moved at r q ≡ at q + 1
        same q e = rw (eq-eqb r q e) refl

        either : (b : Bool) → cond b true true ≡ true
        either true = refl
        either false = refl

        stays : (b : Bool) → cond b true false ≡ b
        stays true = refl
        stays false = refl

        apart : (c : Place) → same_place d c ≡ false → d ≡ c → ⊥
        apart c f q = true≢false (sym (same_place_refl d) ∙ subst (λ z. same_place d z ≡ false) (sym q) f)

        taken_now : true ≡ is_below (moved at r (y.decider d.lane)) (first_index d (places (deciding_log y records d)))
        taken_now =
            sym (ap (is_below (moved at r (y.decider d.lane))) first ∙ lt-ltb (at r) (moved at r (y.decider d.lane)) (subst (λ k. at r < k) (sym (same (y.decider d.lane) (sym own) ∙ ap (λ z. at z + 1) own)) (omega arith)))
