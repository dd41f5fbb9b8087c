-- A slot by its number is a slot by method and lane; and so a call is ready by its array exactly where it is by the laws' counts.
use Rattle.std.proofs.Common.{◌≡◌, ◌⊎◌, ℕ, ◌≤◌, ◌<◌, Bool, true, false, eqb, ◌&&◌, List, [], ◌∷◌, map, refl, sym, subst, ap, ◌∙◌, inl, inr, arith}
use Rattle.std.specs.Prelude.{count_by}
use Rattle.std.proofs.lemmas.Bool.{eqb-true, eq-eqb, and_parts}
use Rattle.ham_syntax.specs.declared.act.Place.{Place}
use Rattle.ham_syntax.specs.declared.act.Act.{Act}
use Rattle.ham_plan.specs.Lists.{In, Within}
use Rattle.ham_laws.specs.Executions.{method_of}
use Rattle.ham_laws.specs.Counts.{of_slot}
use Rattle.ham_plan.proofs.Lists.{true_or_false}
use Rattle.ham_laws.proofs.Counts.{count_by-cons}
use Rattle.ham_laws.proofs.Lanes.{count_by-same}
use Rattle.ham_turns.specs.Settings.{Rules, Setting, meaning_by, IsReplica}
use Rattle.ham_runs.specs.Facts.{IsSetting}
use Rattle.ham_turns.specs.Words.{ReplicaWords}
use Rattle.ham_turns.specs.Ready.{IsWithin}
use Rattle.ham_runs.specs.Runs.{Decision, execution_of, in_slot}
use Rattle.ham_runs.proofs.Decisions.{places_of, found}
use Rattle.ham_runs.proofs.Kept.{Kept}

bool_same : (a b : Bool) → (a ≡ true → b ≡ true) → (b ≡ true → a ≡ true) → a ≡ b
bool_same true b to from = sym (to refl)
bool_same false true to from = from refl
bool_same false false to from = refl

both_true : (a b : Bool) → a ≡ true → b ≡ true → (a && b) ≡ true
both_true a b h k = rw (h, k) refl

-- some item passes the test, or none is counted
pub count_or : {X : Type 0} (t : X → Bool) (xs : List X) → ((x : X) × In x xs × (t x ≡ true)) ⊎ (count_by t xs ≡ 0)
count_or t [] = inr refl
count_or t (x ∷ xs) = elim (true_or_false (t x)) [
  | inl h ↦ inl (x, inl refl, h)
  | inr f ↦ elim (count_or t xs) [
    | inl w ↦ inl (w.0, inr w.1, w.2)
    | inr h ↦ inr (count_by-cons t x xs ∙ rw (f, h) refl)
  ]
]

-- an array against counts
pub within_to : (w : ReplicaWords) (f : ℕ → ℕ) (slots : List ℕ) → IsWithin w (map f slots) slots → (s : ℕ) → In s slots → f s ≤ w.count_of s
within_to w f [] h s k = absurd k
within_to w f (z ∷ zs) h s (inl q) = subst (λ v. f v ≤ w.count_of v) (sym q) h.0
within_to w f (z ∷ zs) h s (inr k) = within_to w f zs h.1 s k

pub within_from : (w : ReplicaWords) (f : ℕ → ℕ) (slots : List ℕ) → ((s : ℕ) → In s slots → f s ≤ w.count_of s) → IsWithin w (map f slots) slots
within_from w f [] h = tt
within_from w f (z ∷ zs) h = (h z (inl refl), within_from w f zs (λ s k. h s (inr k)))

module _ (x : Rules) (y : Setting) (setting : IsSetting x y) (ds : List Decision) (log : ℕ → List Place) (kept : Kept x y ds log) where
  module _ (c : Place) (k : In c (places_of ds)) where
    -- the method of a decided call, its decider and its lane
    record IsDecided : Type 0 where
      by : ℕ
      replica : IsReplica y by
      decides : y.decider c.lane ≡ by
      exists : method_of (meaning_by x) (execution_of ds log) c < y.methods
      lane : y.lane (method_of (meaning_by x) (execution_of ds log) c) by ≡ c.lane

    decided : IsDecided
    decided =
        let w = found ds c k in
        let own = kept.own w.decision w.stands in
        record {
          by = w.decision.by;
          replica = own.replica;
          decides = sym (ap (λ (z : Place). y.decider z.lane) w.place) ∙ own.decides;
          exists = subst (λ (a : Act). a.method < y.methods) (sym w.act) (setting.fits_exist w.decision.call.act own.fits);
          lane = ap (λ (a : Act). y.lane a.method w.decision.by) w.act ∙ own.lane ∙ ap (λ (z : Place). z.lane) w.place;
        }

    slot_alike : (n r : ℕ) → n < y.methods → IsReplica y r → of_slot (meaning_by x) (execution_of ds log) n (y.lane n r) c ≡ in_slot y (execution_of ds log) (y.slot n r) c
    slot_alike n r there here =
        let d = decided in
        let m = method_of (meaning_by x) (execution_of ds log) c in
        bool_same _ _
        (λ t.
        let p = and_parts (eqb c.lane (y.lane n r)) (eqb m n) t in
        let lane : c.lane ≡ y.lane n r = eqb-true c.lane (y.lane n r) p.0 in
        let method : m ≡ n = eqb-true m n p.1 in
        let same : y.lane n d.by ≡ y.lane n r = subst (λ z. y.lane z d.by ≡ y.lane n r) method (d.lane ∙ lane) in
        let slot : y.slot m (y.decider c.lane) ≡ y.slot n r =
        ap (λ q. y.slot m q) d.decides ∙ ap (λ z. y.slot z d.by) method ∙ setting.lane_slot n d.by r there d.replica here same in
        eq-eqb (y.slot m (y.decider c.lane)) (y.slot n r) slot)
        (λ t.
        let slot : y.slot m d.by ≡ y.slot n r = ap (λ q. y.slot m q) (sym d.decides) ∙ eqb-true (y.slot m (y.decider c.lane)) (y.slot n r) t in
        let method : m ≡ n = setting.slot_method m n d.by r d.exists there d.replica here slot in
        let lane : y.lane n d.by ≡ y.lane n r = setting.slot_lane n d.by r there d.replica here (subst (λ z. y.slot z d.by ≡ y.slot n r) method slot) in
        let same : c.lane ≡ y.lane n r = sym d.lane ∙ ap (λ z. y.lane z d.by) method ∙ lane in
        both_true (eqb c.lane (y.lane n r)) (eqb m n) (eq-eqb c.lane (y.lane n r) same) (eq-eqb m n method))

    -- a call that is in a slot by method and lane is in a slot of that method by number
    pub slot_of_some : (n l : ℕ) → of_slot (meaning_by x) (execution_of ds log) n l c ≡ true → (r : ℕ) × IsReplica y r × (n < y.methods) × (l ≡ y.lane n r)
    slot_of_some n l t =
        let d = decided in
        let m = method_of (meaning_by x) (execution_of ds log) c in
        let p = and_parts (eqb c.lane l) (eqb m n) t in
        let method : m ≡ n = eqb-true m n p.1 in
        (d.by, d.replica, subst (λ z. z < y.methods) method d.exists, sym (eqb-true c.lane l p.0) ∙ sym d.lane ∙ ap (λ z. y.lane z d.by) method)

  pub counts_alike : (n r : ℕ) → n < y.methods → IsReplica y r → (xs : List Place) → Within xs (places_of ds) →
      count_by (of_slot (meaning_by x) (execution_of ds log) n (y.lane n r)) xs ≡ count_by (in_slot y (execution_of ds log) (y.slot n r)) xs
  counts_alike n r there here xs known = count_by-same _ _ xs (λ c k. slot_alike c (known c k) n r there here)

  -- an array that is within the counts of a log is so by method and lane
  pub within_counts : (w : ReplicaWords) (logged before : List Place) (m : ℕ) → ((s : ℕ) → w.count_of s ≡ count_by (in_slot y (execution_of ds log) s) logged) →
      Within logged (places_of ds) → Within before (places_of ds) →
      IsWithin w (map (λ s. count_by (in_slot y (execution_of ds log) s) before) (y.needs m)) (y.needs m) →
      (n l : ℕ) → y.depends m n ≡ true → count_by (of_slot (meaning_by x) (execution_of ds log) n l) before ≤ count_by (of_slot (meaning_by x) (execution_of ds log) n l) logged
  within_counts w logged before m counts known_l known_b within n l dep = elim (count_or (of_slot (meaning_by x) (execution_of ds log) n l) before) [
    | inr none_of ↦ rw none_of (omega arith)
    | inl some ↦
        let s = slot_of_some some.0 (known_b some.0 some.1) n l some.2 in
        let le : count_by (in_slot y (execution_of ds log) (y.slot n s.0)) before ≤ w.count_of (y.slot n s.0) =
        within_to w (λ z. count_by (in_slot y (execution_of ds log) z) before) (y.needs m) within (y.slot n s.0) (setting.needed m n s.0 s.1 dep) in
        let le' : count_by (in_slot y (execution_of ds log) (y.slot n s.0)) before ≤ count_by (in_slot y (execution_of ds log) (y.slot n s.0)) logged =
        subst (λ z. count_by (in_slot y (execution_of ds log) (y.slot n s.0)) before ≤ z) (counts (y.slot n s.0)) le in
        subst (λ z. count_by (of_slot (meaning_by x) (execution_of ds log) n z) before ≤ count_by (of_slot (meaning_by x) (execution_of ds log) n z) logged) (sym s.3)
        (subst (λ z. z ≤ count_by (of_slot (meaning_by x) (execution_of ds log) n (y.lane n s.0)) logged) (sym (counts_alike n s.0 s.2 s.1 before known_b))
        (subst (λ z. count_by (in_slot y (execution_of ds log) (y.slot n s.0)) before ≤ z) (sym (counts_alike n s.0 s.2 s.1 logged known_l)) le'))
  ]

  -- and back
  pub counts_within : (w : ReplicaWords) (logged before : List Place) (m : ℕ) → m < y.methods → ((n : ℕ) → y.depends m n ≡ true → n < y.methods) →
      ((s : ℕ) → w.count_of s ≡ count_by (in_slot y (execution_of ds log) s) logged) →
      Within logged (places_of ds) → Within before (places_of ds) →
      ((n l : ℕ) → y.depends m n ≡ true → count_by (of_slot (meaning_by x) (execution_of ds log) n l) before ≤ count_by (of_slot (meaning_by x) (execution_of ds log) n l) logged) →
      IsWithin w (map (λ s. count_by (in_slot y (execution_of ds log) s) before) (y.needs m)) (y.needs m)
  counts_within w logged before m exists others counts known_l known_b h = within_from w (λ z. count_by (in_slot y (execution_of ds log) z) before) (y.needs m) (λ s k.
      let q = setting.needed_only m s k in
      let there = others q.method q.depends in
      subst (λ z. count_by (in_slot y (execution_of ds log) z) before ≤ w.count_of z) (sym q.slot)
      (subst (λ z. count_by (in_slot y (execution_of ds log) (y.slot q.method q.replica)) before ≤ z) (sym (counts (y.slot q.method q.replica)))
      (subst (λ z. z ≤ count_by (in_slot y (execution_of ds log) (y.slot q.method q.replica)) logged) (counts_alike q.method q.replica there q.exists before known_b)
      (subst (λ z. count_by (of_slot (meaning_by x) (execution_of ds log) q.method (y.lane q.method q.replica)) before ≤ z) (counts_alike q.method q.replica there q.exists logged known_l)
      (h q.method (y.lane q.method q.replica) q.depends)))))
