-- A turn keeps an execution well-coordinated.
use Rattle.std.proofs.Common.{◌≡◌, ◌≢◌, ◌⊎◌, ◌++◌, ℕ, true, List, [], ◌∷◌, refl, sym, subst, ap, ◌∙◌, inl, inr}
use Rattle.std.proofs.lemmas.List.{append_assoc, append-nil}
use Rattle.std.proofs.lemmas.Bool.{cases_eq}
use Rattle.ham_meaning.specs.Relations.{Meaning}
use Rattle.ham_plan.specs.Lists.{In, Within, StartsWith}
use Rattle.ham_laws.specs.Executions.{Constraints, IsSound, Execution, Needs, IsWellCoordinated, method_of, state_after, end_of, IsInOrder, IsClosed, IsClosedAfter}
use Rattle.ham_laws.specs.Turns.{Extends, IsDecision, IsDelivery}
use Rattle.ham_laws.specs.Drain.{IsWaiting}
use Rattle.ham_plan.proofs.Lists.{in_front, in_back, in_last}
use Rattle.ham_laws.proofs.Bridge.{calls_after}

-- ---- what a list begins with
pub starts_on : {X : Type 0} (front xs ys : List X) → StartsWith front xs → StartsWith xs ys → StartsWith front ys
starts_on front xs ys f g = (f.0 ++ g.0, g.1 ∙ ap (λ l. l ++ g.0) f.1 ∙ append_assoc front f.0 g.0)

pub starts_itself : {X : Type 0} (xs : List X) → StartsWith xs xs
starts_itself xs = ([], sym (append-nil xs))

-- ---- one call more
-- a list that is closed stays so with one more call that is ready
pub closed_push : {C : Type 0} (m : Meaning) (p : Constraints) (e : Execution C m.Act) (seen xs : List C) (c : C) → IsClosedAfter m p e seen xs →
    In c e.decided → (In c seen → ⊥) → (In c xs → ⊥) → ((n : C) → Needs m p e c n → In n seen ⊎ In n xs) → IsClosedAfter m p e seen (xs ++ c ∷ [])
closed_push m p e seen [] c h d new_seen new needs =
    (d, new_seen, λ n need. elim (needs n need) [ inl k ↦ k | inr k ↦ absurd k ], tt)
closed_push m p e seen (x ∷ xs) c h d new_seen new needs = (
  h.0,
  h.1,
  h.2,
  closed_push m p e (x ∷ seen) xs c h.3 d (elim [ inl q ↦ new (inl q) | inr k ↦ new_seen k ]) (λ k. new (inr k))
      (λ n need. elim (needs n need) [ inl k ↦ inl (inr k) | inr k ↦ elim k [ inl q ↦ inl (inl q) | inr j ↦ inr j ] ]),
)

pub ready_closed : {C : Type 0} (m : Meaning) (p : Constraints) (e : Execution C m.Act) (log : List C) (c : C) →
    IsClosed m p e log → IsWaiting m p e log e.decided c → IsClosed m p e (log ++ c ∷ [])
ready_closed m p e log c h ready = closed_push m p e [] log c h ready.came (λ k. k) ready.new (λ n need. inr (ready.needs n need))

in_order_later : {C : Type 0} (b b' : C → List C) (earlier xs : List C) → ((x : C) → In x xs → b' x ≡ b x) → IsInOrder b earlier xs → IsInOrder b' earlier xs
in_order_later b b' earlier [] same h = tt
in_order_later b b' earlier (x ∷ xs) same h =
    (h.0, λ y k. h.1 y (subst (λ l. In y l) (same x (inl refl)) k), in_order_later b b' (x ∷ earlier) xs (λ y k. same y (inr k)) h.2)

in_order_push : {C : Type 0} (b : C → List C) (earlier xs : List C) (c : C) → IsInOrder b earlier xs → (In c earlier → ⊥) → (In c xs → ⊥) →
    ((n : C) → In n (b c) → In n earlier ⊎ In n xs) → IsInOrder b earlier (xs ++ c ∷ [])
in_order_push b earlier [] c h new_earlier new from = (new_earlier, λ n k. elim (from n k) [ inl j ↦ j | inr j ↦ absurd j ], tt)
in_order_push b earlier (x ∷ xs) c h new_earlier new from = (
  h.0,
  h.1,
  in_order_push b (x ∷ earlier) xs c h.2 (elim [ inl q ↦ new (inl q) | inr k ↦ new_earlier k ]) (λ k. new (inr k))
      (λ n k. elim (from n k) [ inl j ↦ inl (inr j) | inr j ↦ elim j [ inl q ↦ inl (inl q) | inr i ↦ inr i ] ]),
)

-- ---- what was so of the calls decided before is so later
module _ {C : Type 0} (m : Meaning) (p : Constraints) (e later : Execution C m.Act) (ext : Extends e later) (well : IsWellCoordinated m p e) (more : Within e.decided later.decided) (grow : (q : ℕ) → StartsWith (e.log q) (later.log q)) where
  method_later : (c : C) → In c e.decided → method_of m later c ≡ method_of m e c
  method_later c d = ap (λ a. m.method a) (ext.act c d)

  before_decided : (c n : C) → In c e.decided → In n (e.before c) → In n e.decided
  before_decided c n d k = calls_after m p e [] (e.before c) (well.before_closed c d) n k

  needs_later : (c n : C) → In c e.decided → Needs m p later c n → Needs m p e c n
  needs_later c n d need =
      let k : In n (e.before c) = subst (λ l. In n l) (ext.before c d) need.0 in
      let dn : In n e.decided = before_decided c n d k in
      let mc = method_later c d in
      let mn = method_later n dn in (
        k,
        elim need.1 [
          | inl q ↦ inl (sym (ext.lane n dn) ∙ q ∙ ext.lane c d)
          | inr r ↦ inr (elim r [
            | inl t ↦ inl (subst (λ f. p.conflict f (method_of m e c) ≡ true) mn (subst (λ f. p.conflict (method_of m later n) f ≡ true) mc t))
            | inr t ↦ inr (subst (λ f. p.depends f (method_of m e n) ≡ true) mc (subst (λ f. p.depends (method_of m later c) f ≡ true) mn t))
          ])
        ],
      )

  pub closed_later : (seen xs : List C) → IsClosedAfter m p e seen xs → IsClosedAfter m p later seen xs
  closed_later seen [] h = tt
  closed_later seen (x ∷ xs) h = (more x h.0, h.1, λ n need. h.2 n (needs_later x n h.0 need), closed_later (x ∷ seen) xs h.3)

  pub state_later : (s : m.State) (xs : List C) → Within xs e.decided → state_after m later s xs ≡ state_after m e s xs
  state_later s [] calls = refl
  state_later s (x ∷ xs) calls =
      subst (λ a. state_after m later (m.update a s) xs ≡ state_after m e (m.update (e.act x) s) xs) (sym (ext.act x (calls x (inl refl))))
      (state_later (m.update (e.act x) s) xs (λ y k. calls y (inr k)))

  fits_later : (c : C) → In c e.decided → m.Fits (later.act c)
  fits_later c d = subst (λ a. m.Fits a) (sym (ext.act c d)) (well.fits c d)

  permissible_later : (c : C) → In c e.decided → m.Permissible (end_of m later (later.before c)) (later.act c)
  permissible_later c d =
      subst (λ l. m.Permissible (end_of m later l) (later.act c)) (sym (ext.before c d))
      (subst (λ a. m.Permissible (end_of m later (e.before c)) a) (sym (ext.act c d))
      (subst (λ s. m.Permissible s (e.act c)) (sym (state_later m.opening (e.before c) (λ n k. before_decided c n d k)))
      (well.permissible_at c d)))

  before_closed_later : (c : C) → In c e.decided → IsClosed m p later (later.before c)
  before_closed_later c d = subst (λ l. IsClosed m p later l) (sym (ext.before c d)) (closed_later [] (e.before c) (well.before_closed c d))

  conflicts_later : (c d : C) → In c e.decided → In d e.decided → c ≢ d →
      p.conflict (method_of m later c) (method_of m later d) ≡ true → In c (later.before d) ⊎ In d (later.before c)
  conflicts_later c d dc dd ne t =
      let t' : p.conflict (method_of m e c) (method_of m e d) ≡ true =
      subst (λ f. p.conflict f (method_of m e d) ≡ true) (method_later c dc) (subst (λ f. p.conflict (method_of m later c) f ≡ true) (method_later d dd) t) in
      elim (well.conflicts_ordered c d dc dd ne t') [
        | inl k ↦ inl (subst (λ l. In c l) (sym (ext.before d dd)) k)
        | inr k ↦ inr (subst (λ l. In d l) (sym (ext.before c dc)) k)
      ]

  decided_there_later : (c : C) → In c e.decided → StartsWith (later.before c ++ c ∷ []) (later.log (later.decider c))
  decided_there_later c d =
      subst (λ l. StartsWith (l ++ c ∷ []) (later.log (later.decider c))) (sym (ext.before c d))
      (subst (λ q. StartsWith (e.before c ++ c ∷ []) (later.log q)) (sym (ext.decider c d))
      (starts_on (e.before c ++ c ∷ []) (e.log (e.decider c)) (later.log (e.decider c)) (well.decided_there c d) (grow (e.decider c))))

-- ---- the two turns
pub delivery_keeps : {C : Type 0} (m : Meaning) (p : Constraints) (e later : Execution C m.Act) → IsWellCoordinated m p e → IsDelivery m p e later → IsWellCoordinated m p later
delivery_keeps {C} m p e later well turn =
    let back : Within later.decided e.decided = λ x k. subst (λ l. In x l) turn.decided k in
    let more : Within e.decided later.decided = λ x k. subst (λ l. In x l) (sym turn.decided) k in
    let grow : (q : ℕ) → StartsWith (e.log q) (later.log q) = turn.logs_grow in
    record {
      in_order = subst (λ l. IsInOrder later.before [] l) (sym turn.decided) (in_order_later e.before later.before [] e.decided turn.extends.before well.in_order);
      decided_there = λ c d. decided_there_later m p e later turn.extends well more grow c (back c d);
      fits = λ c d. fits_later m p e later turn.extends well more grow c (back c d);
      permissible_at = λ c d. permissible_later m p e later turn.extends well more grow c (back c d);
      before_closed = λ c d. before_closed_later m p e later turn.extends well more grow c (back c d);
      logs_closed = λ q. closed_later m p e later turn.extends well more grow [] (later.log q) (turn.logs_closed q);
      conflicts_ordered = λ c d dc dd ne t. conflicts_later m p e later turn.extends well more grow c d (back c dc) (back d dd) ne t;
    }

pub decision_keeps : {C : Type 0} (m : Meaning) (p : Constraints) (sound : IsSound m p) (e later : Execution C m.Act) (r : ℕ) (c : C) →
    IsWellCoordinated m p e → IsDecision m p e later r c → IsWellCoordinated m p later
decision_keeps {C} m p sound e later r c well turn =
    let log = e.log r in
    let more : Within e.decided later.decided = λ x k. subst (λ l. In x l) (sym turn.decided) (in_front x e.decided (c ∷ []) k) in
    let grow : (q : ℕ) → StartsWith (e.log q) (later.log q) =
    λ q. elim (cases_eq q r) [
      | inl is ↦ subst (λ z. StartsWith (e.log z) (later.log z)) (sym is) (c ∷ [], turn.own_log)
      | inr ne ↦ ([], turn.other_logs q ne ∙ sym (append-nil (e.log q)))
    ] in
    let there_c : StartsWith (later.before c ++ c ∷ []) (later.log (later.decider c)) =
    ([], ap later.log turn.decider ∙ turn.own_log ∙ ap (λ l. l ++ c ∷ []) (sym turn.before) ∙ sym (append-nil (later.before c ++ c ∷ []))) in
    let split : (x : C) → In x later.decided → In x e.decided ⊎ (x ≡ c) = λ x k. in_last x c e.decided (subst (λ l. In x l) turn.decided k) in
    let dc : In c later.decided = subst (λ l. In c l) (sym turn.decided) (in_back c e.decided (c ∷ []) (inl refl)) in
    let hlog : IsClosed m p e log = well.logs_closed r in
    let log_decided : Within log e.decided = calls_after m p e [] log hlog in
    let hlog' : IsClosed m p later log = closed_later m p e later turn.extends well more grow [] log hlog in
    let before_c : IsClosed m p later (later.before c) = subst (λ l. IsClosed m p later l) (sym turn.before) hlog' in
    let permissible_c : m.Permissible (end_of m later (later.before c)) (later.act c) =
    subst (λ l. m.Permissible (end_of m later l) (later.act c)) (sym turn.before)
    (subst (λ s. m.Permissible s (later.act c)) (sym (state_later m p e later turn.extends well more grow m.opening log log_decided)) turn.permissible) in
    let logged_c : IsClosed m p later (log ++ c ∷ []) =
    closed_push m p later [] log c hlog' dc (λ k. k) (λ k. turn.new (log_decided c k))
    (λ n need. inr (subst (λ l. In n l) turn.before need.0)) in
    let order : IsInOrder later.before [] (e.decided ++ c ∷ []) =
    in_order_push later.before [] e.decided c (in_order_later e.before later.before [] e.decided turn.extends.before well.in_order)
    (λ k. k) turn.new (λ n k. inr (log_decided n (subst (λ l. In n l) turn.before k))) in
    let in_before_c : (d : C) → In d e.decided → p.conflict (method_of m later c) (method_of m later d) ≡ true → In d (later.before c) =
    λ d k t. subst (λ l. In d l) (sym turn.before)
    (turn.conflicting d k (subst (λ f. p.conflict (method_of m later c) f ≡ true) (method_later m p e later turn.extends well more grow d k) t)) in
    record {
      in_order = subst (λ l. IsInOrder later.before [] l) (sym turn.decided) order;
      decided_there = λ x d. elim (split x d) [
        | inl k ↦ decided_there_later m p e later turn.extends well more grow x k
        | inr q ↦ subst (λ z. StartsWith (later.before z ++ z ∷ []) (later.log (later.decider z))) (sym q) there_c
      ];
      fits = λ x d. elim (split x d) [
        | inl k ↦ fits_later m p e later turn.extends well more grow x k
        | inr q ↦ subst (λ z. m.Fits (later.act z)) (sym q) turn.fits
      ];
      permissible_at = λ x d. elim (split x d) [
        | inl k ↦ permissible_later m p e later turn.extends well more grow x k
        | inr q ↦ subst (λ z. m.Permissible (end_of m later (later.before z)) (later.act z)) (sym q) permissible_c
      ];
      before_closed = λ x d. elim (split x d) [
        | inl k ↦ before_closed_later m p e later turn.extends well more grow x k
        | inr q ↦ subst (λ z. IsClosed m p later (later.before z)) (sym q) before_c
      ];
      logs_closed = λ q. elim (cases_eq q r) [
        | inl is ↦ subst (λ z. IsClosed m p later (later.log z)) (sym is) (subst (λ l. IsClosed m p later l) (sym turn.own_log) logged_c)
        | inr ne ↦ subst (λ l. IsClosed m p later l) (sym (turn.other_logs q ne)) (closed_later m p e later turn.extends well more grow [] (e.log q) (well.logs_closed q))
      ];
      conflicts_ordered = λ x y dx dy ne t. elim (split x dx) [
        | inl kx ↦ elim (split y dy) [
          | inl ky ↦ conflicts_later m p e later turn.extends well more grow x y kx ky ne t
          | inr qy ↦ inl (subst (λ z. In x (later.before z)) (sym qy)
              (in_before_c x kx (sound.symmetric _ _ ∙ subst (λ z. p.conflict (method_of m later x) (method_of m later z) ≡ true) qy t)))
        ]
        | inr qx ↦ elim (split y dy) [
          | inl ky ↦ inr (subst (λ z. In y (later.before z)) (sym qx)
              (in_before_c y ky (subst (λ z. p.conflict (method_of m later z) (method_of m later y) ≡ true) qx t)))
          | inr qy ↦ absurd (ne (qx ∙ sym qy))
        ]
      ];
    }
