-- The drain as a function is the drain.
use Rattle.std.proofs.Common.{◌≡◌, ◌⊎◌, ◌++◌, ℕ, zero, suc, ◌+◌, ◌≤◌, ◌<◌, Bool, true, false, cond, eqb, ltb, leb, List, [], ◌∷◌, refl, sym, subst, ap, ◌∙◌, inl, inr, arith}
use Rattle.std.specs.Prelude.{Some, None, count_by}
use Rattle.std.proofs.lemmas.Bool.{eqb-true, eq-eqb, ltb-true, ltb-false, lt-ltb, le-ltb, leb-true, le-leb, and_parts}
use Rattle.ham_syntax.specs.declared.act.Place.{Place}
use Rattle.ham_syntax.specs.declared.act.Call.{Call}
use Rattle.ham_plan.specs.Lists.{In}
use Rattle.ham_turns.specs.Settings.{Rules, Setting}
use Rattle.ham_turns.specs.Words.{ReplicaWords, place_of, in_lane}
use Rattle.ham_turns.specs.Work.{at_place, logged_one}
use Rattle.ham_turns.specs.Ready.{IsWithin, IsReadyHere, DrainsHere}
use Rattle.ham_turns.specs.Ready.LogsReady.{Stop, Log}
use Rattle.ham_runs.specs.Next.{within_test, ready_test, lesser, least_ready, drained_by}
use Rattle.ham_plan.proofs.Lists.{true_or_false}
use Rattle.ham_laws.proofs.Counts.{count_by-cons}
use Rattle.ham_runs.proofs.Listed.{at_place_in, at_place_finds}
use Rattle.ham_runs.proofs.Drained.{count_one}

-- the words after a drain
abbrev pub logged_all : Rules → Setting → ReplicaWords → List Call → ReplicaWords
logged_all x y w [] = w
logged_all x y w (c ∷ rest) = logged_all x y (logged_one x y w c) rest

differ : true ≡ false → ⊥
differ h = cc

within_true : (w : ReplicaWords) (deps : List ℕ) (slots : List ℕ) → within_test w deps slots ≡ true → IsWithin w deps slots
within_true w [] slots h = tt
within_true w (n ∷ deps) [] h = tt
within_true w (n ∷ deps) (s ∷ slots) h =
    let p = and_parts (leb n (w.count_of s)) (within_test w deps slots) h in
    (leb-true n (w.count_of s) p.0, within_true w deps slots p.1)

within_holds : (w : ReplicaWords) (deps : List ℕ) (slots : List ℕ) → IsWithin w deps slots → within_test w deps slots ≡ true
within_holds w [] slots h = refl
within_holds w (n ∷ deps) [] h = refl
within_holds w (n ∷ deps) (s ∷ slots) h = rw (le-leb n (w.count_of s) h.0, within_holds w deps slots h.1) refl

-- ---- fewer pass the stricter test
one_less : (a b : Bool) → (a ≡ true → b ≡ true) → cond a 1 0 ≤ cond b 1 0
one_less true true h = omega arith
one_less true false h = absurd (differ (sym (h refl)))
one_less false true h = omega arith
one_less false false h = omega arith

count_less : {X : Type 0} (t u : X → Bool) (xs : List X) → ((z : X) → t z ≡ true → u z ≡ true) → count_by t xs ≤ count_by u xs
count_less t u [] h = omega arith
count_less t u (v ∷ vs) h =
    let k = count_less t u vs h in
    let l = one_less (t v) (u v) (h v) in
    rw (count_by-cons t v vs, count_by-cons u v vs) (omega arith)

count_fewer : {X : Type 0} (t u : X → Bool) (xs : List X) (c : X) → ((z : X) → t z ≡ true → u z ≡ true) → In c xs → u c ≡ true → t c ≡ false → count_by t xs + 1 ≤ count_by u xs
count_fewer t u [] c h k uc tc = absurd k
count_fewer t u (v ∷ vs) c h (inl q) uc tc =
    let k = count_less t u vs h in
    rw (count_by-cons t v vs, count_by-cons u v vs, subst (λ z. u z ≡ true) q uc, subst (λ z. t z ≡ false) q tc) (omega arith)
count_fewer t u (v ∷ vs) c h (inr j) uc tc =
    let k = count_fewer t u vs c h j uc tc in
    let l = one_less (t v) (u v) (h v) in
    rw (count_by-cons t v vs, count_by-cons u v vs) (omega arith)

module _ (x : Rules) (y : Setting) (calls : List Call) (agree : (c d : Call) → In c calls → In d calls → place_of c ≡ place_of d → c ≡ d) where
  -- the least ready call
  record IsLeast (w : ReplicaWords) (xs : List Call) (c : Call) : Type 0 where
    stands : In c xs
    ready : ready_test y w c ≡ true
    least : (d : Call) → In d xs → ready_test y w d ≡ true → c.lane ≤ d.lane

  -- the first of two lists' least
  pick : (w : ReplicaWords) (v d : Call) (vs : List Call) → ready_test y w v ≡ true → IsLeast w vs d → IsLeast w (v ∷ vs) (lesser v (Some d))
  pick w v d vs t h = elim (true_or_false (ltb d.lane v.lane)) [
    | inl less ↦
        let below : d.lane < v.lane = ltb-true d.lane v.lane less in
        rw less (record {
          stands = inr h.stands;
          ready = h.ready;
          least = λ c. elim [
            | inl q ↦ λ s. let e : c.lane ≡ v.lane = ap (λ (z : Call). z.lane) q in omega arith
            | inr k ↦ λ s. h.least c k s
          ];
        })
    | inr less ↦
        let above : v.lane ≤ d.lane = ltb-false d.lane v.lane less in
        rw less (record {
          stands = inl refl;
          ready = t;
          least = λ c. elim [
            | inl q ↦ λ s. let e : c.lane ≡ v.lane = ap (λ (z : Call). z.lane) q in omega arith
            | inr k ↦ λ s. let l = h.least c k s in omega arith
          ];
        })
  ]

  least_is : (w : ReplicaWords) (xs : List Call) → (((d : Call) → In d xs → ready_test y w d ≡ false) × (least_ready y w xs ≡ None)) ⊎ ((c : Call) × (least_ready y w xs ≡ Some c) × IsLeast w xs c)
  least_is w [] = inl (λ d k. absurd k, refl)
  least_is w (v ∷ vs) = elim (true_or_false (ready_test y w v)) [
    | inr f ↦ elim (least_is w vs) [
      | inl h ↦ inl (λ d. elim [ inl q ↦ subst (λ z. ready_test y w z ≡ false) (sym q) f | inr k ↦ h.0 d k ], rw f h.1)
      | inr h ↦ inr (
        h.0,
        rw f h.1,
        record {
          stands = inr h.2.stands;
          ready = h.2.ready;
          least = λ d. elim [
            | inl q ↦ λ t. absurd (differ (sym t ∙ subst (λ z. ready_test y w z ≡ false) (sym q) f))
            | inr k ↦ λ t. h.2.least d k t
          ];
        },
      )
    ]
    | inl t ↦ elim (least_is w vs) [
      | inl h ↦ inr (
        v,
        rw (t, h.1) refl,
        record {
          stands = inl refl;
          ready = t;
          least = λ d. elim [
            | inl q ↦ λ s. let e : d.lane ≡ v.lane = ap (λ (z : Call). z.lane) q in omega arith
            | inr k ↦ λ s. absurd (differ (sym s ∙ h.0 d k))
          ];
        },
      )
      | inr h ↦ inr (lesser v (Some h.0), rw (t, h.1) refl, pick w v h.0 vs t h.2)
    ]
  ]

  ready_here : (w : ReplicaWords) → ((p : Place) → w.kept p ≡ at_place calls p) → (c : Call) → In c calls → ready_test y w c ≡ true → IsReadyHere y w c
  ready_here w keeps c k t =
      let l = and_parts (ltb c.lane y.lanes) _ t in
      let p = and_parts (eqb c.number (count_by (in_lane c.lane) w.log + 1)) (within_test w c.deps (y.needs c.act.method)) l.1 in
      let f = at_place_finds calls c k in
      let stands = (at_place_in calls (place_of c) f.0 f.1).0 in
      record {
        lane = ltb-true c.lane y.lanes l.0;
        kept = keeps (place_of c) ∙ f.1 ∙ ap Some (agree f.0 c stands k f.2);
        next = eqb-true c.number (count_by (in_lane c.lane) w.log + 1) p.0;
        counts = within_true w c.deps (y.needs c.act.method) p.1;
      }

  test_ready : (w : ReplicaWords) → ((p : Place) → w.kept p ≡ at_place calls p) → (c : Call) → IsReadyHere y w c → In c calls × (ready_test y w c ≡ true)
  test_ready w keeps c ready = (
    (at_place_in calls (place_of c) c (sym (keeps (place_of c)) ∙ ready.kept)).0,
    rw (lt-ltb c.lane y.lanes ready.lane, eq-eqb c.number (count_by (in_lane c.lane) w.log + 1) ready.next, within_holds w c.deps (y.needs c.act.method) ready.counts) refl,
  )

  -- the call's number is above what its lane has in the log
  abbrev open_in : ReplicaWords → Call → Bool
  open_in w c = ltb (count_by (in_lane c.lane) w.log) c.number

  fewer : (w : ReplicaWords) (c : Call) → In c calls → c.number ≡ count_by (in_lane c.lane) w.log + 1 → count_by (open_in (logged_one x y w c)) calls + 1 ≤ count_by (open_in w) calls
  fewer w c k is =
      count_fewer (open_in (logged_one x y w c)) (open_in w) calls c
      (λ z t. lt-ltb (count_by (in_lane z.lane) w.log) z.number
      (let above = ltb-true (count_by (in_lane z.lane) (w.log ++ place_of c ∷ [])) z.number t in
      let more = grown (in_lane z.lane (place_of c)) (count_by (in_lane z.lane) w.log) in
      let e = count_one (in_lane z.lane) w.log (place_of c) in omega arith))
      k (lt-ltb (count_by (in_lane c.lane) w.log) c.number (omega arith))
      (le-ltb (count_by (in_lane c.lane) (w.log ++ place_of c ∷ [])) c.number
      (let e : count_by (in_lane c.lane) (w.log ++ place_of c ∷ []) ≡ count_by (in_lane c.lane) w.log + 1 =
      rw (count_one (in_lane c.lane) w.log (place_of c), eq-eqb c.lane c.lane refl) refl in omega arith))
    where
      grown : (b : Bool) (n : ℕ) → n ≤ cond b (n + 1) n
      grown true n = omega arith
      grown false n = omega arith

  pub drain_follows : (fuel : ℕ) (w : ReplicaWords) → ((p : Place) → w.kept p ≡ at_place calls p) → count_by (open_in w) calls ≤ fuel →
      DrainsHere x y w (drained_by x y fuel w calls) (logged_all x y w (drained_by x y fuel w calls))
  drain_follows zero w keeps le = (
    Stop,
    λ c ready.
        let t = test_ready w keeps c ready in
        let is = ready.next in
        let open_one : open_in w c ≡ true = lt-ltb (count_by (in_lane c.lane) w.log) c.number (omega arith) in
        let some = count_fewer (λ z. false) (open_in w) calls c (λ z h. absurd (differ (sym h))) t.0 open_one refl in
        absurd (omega arith),
  )
  drain_follows (suc n) w keeps le = elim (least_is w calls) [
    | inl h ↦ rw h.1 (Stop, λ c ready. let t = test_ready w keeps c ready in differ (sym t.1 ∙ h.0 c t.0))
    | inr h ↦
        let c = h.0 in
        let ready = ready_here w keeps c h.2.stands h.2.ready in
        let is = ready.next in
        let rest = drain_follows n (logged_one x y w c) keeps (let k = fewer w c h.2.stands is in omega arith) in
        rw h.1 (Log c ready (λ d rd. let t = test_ready w keeps d rd in h.2.least d t.0 t.1) rest.0, rest.1)
  ]
