-- Up to where the needs of a call reach: what is kept of a front covers it.
use Rattle.std.proofs.Common.{◌≡◌, ◌⊎◌, ◌++◌, ℕ, ◌+◌, ◌-◌, ◌<◌, ◌≤◌, max, zero, suc, true, List, [], ◌∷◌, length, map, take, get_or, refl, sym, subst, ap, ◌∙◌, inl, inr, Some, None, Option, arith}
use Rattle.std.specs.Prelude.{slice_get, slice_index, slice_set, nat_lt, nat_le, ◌&&◌, ◌==◌, IsTrue}
use Rattle.std.proofs.lemmas.Bool.{cases_eq, cases_lt, and_parts, eqb-true, ltb-true}
use Rattle.std.proofs.lemmas.List.{get_or-set_other, get_or_push, get_or_append_left}
use Rattle.std.proofs.lemmas.Grind.{get_or-set_at}
use Rattle.ham_syntax.specs.declared.act.Place.{Place}
use Rattle.ham_plan.specs.Lists.{In}
use Rattle.ham_plan.proofs.Lists.{in_last}
use Rattle.ham_turns.specs.Settings.{Setting, IsReplica}
use Rattle.ham_site.specs.Sites.{Site, IsSite, rules_at, setting_at, slots_at}
use Rattle.ham_audit.specs.declared.fronts.Front.{Front}
use Rattle.ham_records.specs.declared.records.Logged.{Logged}
use Rattle.ham_audit.specs.Faults as faults
use Rattle.ham_audit.specs.Records.{log_of}
use Rattle.ham_audit.specs.Passing.{IsUnder}
use Rattle.ham_audit.specs.Lateness.{slot_at, no_place, reached_by, Reaches, Covers, AreFronts, AreFrontsBelow, AreHighest, AreFarthest, IsNeeding}
use Rattle.ham_audit.proofs.Choosing.{at_inside}
use Rattle.ham_audit.proofs.Looking.{take_push, in_at}
use Rattle.ham_audit.proofs.Under.{placed, lane_in}

-- ---- one call more in a front

pub highest_push : (front : List Logged) (e : Logged) (highest : List ℕ) → e.place.lane < length highest → AreHighest front highest →
    AreHighest (front ++ e ∷ []) (slice_set highest e.place.lane (max (slice_index highest e.place.lane) e.place.number))
highest_push front e highest h are n k =
    elim (in_last n e front k) [
      | inl j ↦ old n j (cases_eq n.place.lane e.place.lane)
      | inr q ↦ subst (λ (z : Logged). z.place.number ≤ slice_index (slice_set highest e.place.lane (max (slice_index highest e.place.lane) e.place.number)) z.place.lane) (sym q)
          (let a = get_or-set_at highest e.place.lane e.place.lane (max (slice_index highest e.place.lane) e.place.number) 0 refl h in omega (arith, a))
    ]
  where
    old : (n : Logged) → In n front → (n.place.lane ≡ e.place.lane) ⊎ (n.place.lane ≡ e.place.lane → ⊥) →
        n.place.number ≤ slice_index (slice_set highest e.place.lane (max (slice_index highest e.place.lane) e.place.number)) n.place.lane
    old n j (inl q) =
        let a = get_or-set_at highest e.place.lane n.place.lane (max (slice_index highest e.place.lane) e.place.number) 0 q h in
        let b : n.place.number ≤ slice_index highest e.place.lane = subst (λ l. n.place.number ≤ slice_index highest l) q (are n j) in
        omega (arith, a, b)
    old n j (inr ne) =
        let a = get_or-set_other highest e.place.lane n.place.lane (max (slice_index highest e.place.lane) e.place.number) 0 ne in
        let b = are n j in
        omega (arith, a, b)

module _ (y : Setting) (front : List Logged) (e : Logged) (farthest : List Place) (h : slot_at y e < length farthest)
    (alike : (n : Logged) → In n front → slot_at y n ≡ slot_at y e → n.place.lane ≡ e.place.lane) (are : AreFarthest y front farthest no_place) where
  abbrev pub farther : Place
  farther = record { lane = e.place.lane; number = max (get_or farthest (slot_at y e) no_place).number e.place.number }

  here : (s : ℕ) → s ≡ slot_at y e → get_or (slice_set farthest (slot_at y e) farther) s no_place ≡ farther
  here s q = get_or-set_at farthest (slot_at y e) s farther no_place q h

  there : (s : ℕ) → (s ≡ slot_at y e → ⊥) → get_or (slice_set farthest (slot_at y e) farther) s no_place ≡ get_or farthest s no_place
  there s ne = get_or-set_other farthest (slot_at y e) s farther no_place ne

  old_lane : (n : Logged) → In n front → (slot_at y n ≡ slot_at y e) ⊎ (slot_at y n ≡ slot_at y e → ⊥) → (get_or (slice_set farthest (slot_at y e) farther) (slot_at y n) no_place).lane ≡ n.place.lane
  old_lane n j (inl q) = ap (λ (z : Place). z.lane) (here (slot_at y n) q) ∙ sym (alike n j q)
  old_lane n j (inr ne) = ap (λ (z : Place). z.lane) (there (slot_at y n) ne) ∙ are.lane n j

  old_far : (n : Logged) → In n front → (slot_at y n ≡ slot_at y e) ⊎ (slot_at y n ≡ slot_at y e → ⊥) → n.place.number ≤ (get_or (slice_set farthest (slot_at y e) farther) (slot_at y n) no_place).number
  old_far n j (inl q) =
      let b : n.place.number ≤ (get_or farthest (slot_at y e) no_place).number = subst (λ s. n.place.number ≤ (get_or farthest s no_place).number) q (are.far n j) in
      let a = ap (λ (z : Place). z.number) (here (slot_at y n) q) in
      omega (arith, a, b)
  old_far n j (inr ne) =
      let b = are.far n j in
      let a = ap (λ (z : Place). z.number) (there (slot_at y n) ne) in
      omega (arith, a, b)

  new_far : e.place.number ≤ (get_or (slice_set farthest (slot_at y e) farther) (slot_at y e) no_place).number
  new_far = let a = ap (λ (z : Place). z.number) (here (slot_at y e) refl) in omega (arith, a)

  pub farthest_push : AreFarthest y (front ++ e ∷ []) (slice_set farthest (slot_at y e) farther) no_place
  farthest_push = record {
    lane = λ n k. elim (in_last n e front k) [
      | inl j ↦ old_lane n j (cases_eq (slot_at y n) (slot_at y e))
      | inr q ↦ subst (λ (z : Logged). (get_or (slice_set farthest (slot_at y e) farther) (slot_at y z) no_place).lane ≡ z.place.lane) (sym q) (ap (λ (z : Place). z.lane) (here (slot_at y e) refl))
    ];
    far = λ n k. elim (in_last n e front k) [
      | inl j ↦ old_far n j (cases_eq (slot_at y n) (slot_at y e))
      | inr q ↦ subst (λ (z : Logged). z.place.number ≤ (get_or (slice_set farthest (slot_at y e) farther) (slot_at y z) no_place).number) (sym q) new_far
    ];
  }

-- ---- what the front reaches

mapped : (f : ℕ → Place) (xs : List ℕ) (s : ℕ) → In s xs → In (f s) (map f xs)
mapped f [] s k = absurd k
mapped f (x ∷ xs) s (inl q) = inl (ap f q)
mapped f (x ∷ xs) s (inr k) = inr (mapped f xs s k)

pub covered : (y : Setting) (front : List Logged) (f : Front) (e : Logged) → AreHighest front f.highest.items → AreFarthest y front f.farthest.items no_place → Covers y front e (reached_by y f e)
covered y front f e high far n k (inl q) = record {
  place = record { lane = e.place.lane; number = slice_index f.highest.items e.place.lane };
  one = inl refl;
  lane = sym q;
  far = subst (λ l. n.place.number ≤ slice_index f.highest.items l) q (high n k);
}
covered y front f e high far n k (inr j) = record {
  place = get_or f.farthest.items (slot_at y n) no_place;
  one = inr (mapped (λ s. get_or f.farthest.items s no_place) (y.needs e.act.method) (slot_at y n) j);
  lane = far.lane n k;
  far = far.far n k;
}

-- ---- calls of a log

pub lane_is : (limit : ℕ) (y : Setting) (e : Logged) → faults.has_place limit y e ≡ true → y.lane e.act.method (y.decider e.place.lane) ≡ e.place.lane
lane_is limit y e h =
    eqb-true (y.lane e.act.method (y.decider e.place.lane)) e.place.lane
    (and_parts (nat_lt e.place.lane y.lanes) _ (and_parts (nat_lt e.place.lane y.lanes && (y.lane e.act.method (y.decider e.place.lane) == e.place.lane)) _ h).0).1

pub number_some : (limit : ℕ) (y : Setting) (e : Logged) → faults.has_place limit y e ≡ true → 0 < e.place.number
number_some limit y e h =
    ltb-true 0 e.place.number
    (and_parts (nat_lt 0 e.place.number) _ (and_parts (nat_lt e.place.lane y.lanes && (y.lane e.act.method (y.decider e.place.lane) == e.place.lane)) _ h).1).0

in_taken : (log : List Logged) (i : ℕ) (e : Logged) → In e (take i log) → In e log
in_taken log zero e k = absurd k
in_taken [] (suc i) e k = k
in_taken (x ∷ log) (suc i) e (inl q) = inl q
in_taken (x ∷ log) (suc i) e (inr k) = inr (in_taken log i e k)

some_call : (a b : Logged) → Some a ≡ Some b → a ≡ b
some_call a b h = cc

module _ (site : Site) (records : List (List Logged)) (under : IsUnder site records) (needing : IsNeeding site) where
  pub method_in : (r : ℕ) (e : Logged) → In e (log_of records r) → e.act.method < (setting_at site).methods
  method_in r e k = needing.fits_exist e.act (under.recorded.fits r e k)

  pub own_lane : (r : ℕ) (e : Logged) → In e (log_of records r) → (setting_at site).lane e.act.method ((setting_at site).decider e.place.lane) ≡ e.place.lane
  own_lane r e k = lane_is (rules_at site).lane_limit (setting_at site) e (placed site records under r e k).1.place

  pub number_in : (r : ℕ) (e : Logged) → In e (log_of records r) → 0 < e.place.number
  number_in r e k = number_some (rules_at site).lane_limit (setting_at site) e (placed site records under r e k).1.place

  -- calls of one slot are of one lane
  pub slots_alike : IsSite site → (r q : ℕ) (e n : Logged) → In e (log_of records r) → In n (log_of records q) → slot_at (setting_at site) n ≡ slot_at (setting_at site) e → n.place.lane ≡ e.place.lane
  slots_alike is_site r q e n k j same =
      let y = setting_at site in
      sym (own_lane q n j)
      ∙ is_site.tabled.slot_lane n.act.method e.act.method (y.decider n.place.lane) (y.decider e.place.lane) (method_in q n j) (method_in r e k)
      (is_site.tabled.decider_exists n.place.lane (lane_in site records under q n j)) (is_site.tabled.decider_exists e.place.lane (lane_in site records under r e k)) same
      ∙ own_lane r e k

  pub slot_in : IsSite site → (r : ℕ) (e : Logged) → In e (log_of records r) → slot_at (setting_at site) e < slots_at site
  slot_in is_site r e k =
      is_site.tabled.slot_exists e.act.method ((setting_at site).decider e.place.lane) (method_in r e k)
      (is_site.tabled.decider_exists e.place.lane (lane_in site records under r e k))

  -- one call more of r's log
  module _ (is_site : IsSite site) (r i : ℕ) (e : Logged) (h : i < length (log_of records r)) (at : e ≡ get_or (log_of records r) i e) where
    stood : In e (log_of records r)
    stood = in_at (log_of records r) i e h at

    pub highest_next : (old new : List ℕ) → length old ≡ (setting_at site).lanes → AreHighest (take i (log_of records r)) old →
        new ≡ slice_set old e.place.lane (max (slice_index old e.place.lane) e.place.number) → AreHighest (take (i + 1) (log_of records r)) new
    highest_next old new size are is =
        let low = lane_in site records under r e stood in
        subst (λ l. AreHighest l new) (sym (take_push (log_of records r) i e h at))
        (subst (λ l. AreHighest (take i (log_of records r) ++ e ∷ []) l) (sym is) (highest_push (take i (log_of records r)) e old (omega arith) are))

    pub farthest_next : (old new : List Place) → length old ≡ slots_at site → AreFarthest (setting_at site) (take i (log_of records r)) old no_place →
        new ≡ slice_set old (slot_at (setting_at site) e) (record { lane = e.place.lane; number = max (get_or old (slot_at (setting_at site) e) no_place).number e.place.number }) →
        AreFarthest (setting_at site) (take (i + 1) (log_of records r)) new no_place
    farthest_next old new size are is =
        let low = slot_in is_site r e stood in
        let push = farthest_push (setting_at site) (take i (log_of records r)) e old (omega arith)
        (λ n k same. slots_alike is_site r r e n stood (in_taken (log_of records r) i n k) same) are in
        subst (λ l. AreFarthest (setting_at site) l new no_place) (sym (take_push (log_of records r) i e h at))
        (subst (λ l. AreFarthest (setting_at site) (take i (log_of records r) ++ e ∷ []) l no_place) (sym is) push)

    pub fronts_next : (f : Front) (fronts : List (List Place)) (found : List Place) → length fronts ≡ i →
        AreHighest (take i (log_of records r)) f.highest.items → AreFarthest (setting_at site) (take i (log_of records r)) f.farthest.items no_place →
        ((setting_at site).decider e.place.lane ≡ r → found ≡ reached_by (setting_at site) f e) →
        AreFrontsBelow (setting_at site) r (log_of records r) fronts i → AreFrontsBelow (setting_at site) r (log_of records r) (fronts ++ found ∷ []) (i + 1)
    fronts_next f fronts found size high far is are j d less got own = elim (cases_eq j i) [
      | inl q ↦
          let same : d ≡ e = some_call d e (sym got ∙ ap (slice_get (log_of records r)) q ∙ at_inside (log_of records r) i e h at) in
          let here : Covers (setting_at site) (take i (log_of records r)) e found =
          subst (λ l. Covers (setting_at site) (take i (log_of records r)) e l) (sym (is (subst (λ (z : Logged). (setting_at site).decider z.place.lane ≡ r) same own)))
          (covered (setting_at site) (take i (log_of records r)) f e high far) in
          subst (λ n. Covers (setting_at site) (take n (log_of records r)) d (get_or (fronts ++ found ∷ []) n [])) (sym q)
          (subst (λ z. Covers (setting_at site) (take i (log_of records r)) z (get_or (fronts ++ found ∷ []) i [])) (sym same)
          (subst (λ l. Covers (setting_at site) (take i (log_of records r)) e l) (sym (get_or_push fronts found [] i size)) here))
      | inr ne ↦
          subst (λ l. Covers (setting_at site) (take j (log_of records r)) d l) (sym (get_or_append_left fronts (found ∷ []) [] j (omega arith))) (are j d (omega arith) got own)
    ]

-- ---- one replica more

pub kept_fronts : (y : Setting) (records : List (List Logged)) (q : ℕ) (fronts : List (List (List Place))) (x : List (List Place)) → length fronts + 1 ≡ q →
    ((r : ℕ) → IsReplica y r → r < q → AreFronts y r (log_of records r) (get_or fronts (r - 1) [])) →
    ((r : ℕ) → IsReplica y r → r < q → length (get_or fronts (r - 1) []) ≡ length (log_of records r)) →
    AreFronts y q (log_of records q) x → length x ≡ length (log_of records q) →
    (r : ℕ) → IsReplica y r → r < q + 1 → AreFronts y r (log_of records r) (get_or (fronts ++ x ∷ []) (r - 1) []) × (length (get_or (fronts ++ x ∷ []) (r - 1) []) ≡ length (log_of records r))
kept_fronts y records q fronts x many each size here long r there less = elim (cases_eq r q) [
  | inl is ↦
      let low = there.0 in
      let at : get_or (fronts ++ x ∷ []) (r - 1) [] ≡ x = get_or_push fronts x [] (r - 1) (omega arith) in (
        subst (AreFronts y r (log_of records r)) (sym at) (subst (λ k. AreFronts y k (log_of records k) x) (sym is) here),
        ap length at ∙ long ∙ ap (λ k. length (log_of records k)) (sym is),
      )
  | inr ne ↦
      let low = there.0 in
      let at : get_or (fronts ++ x ∷ []) (r - 1) [] ≡ get_or fronts (r - 1) [] = get_or_append_left fronts (x ∷ []) [] (r - 1) (omega arith) in (
        subst (AreFronts y r (log_of records r)) (sym at) (each r there (omega arith)),
        ap length at ∙ size r there (omega arith),
      )
]
