-- A replica's lists keep what its type keeps, when a call is logged.
use Rattle.std.proofs.Common.{◌≡◌, ◌≢◌, ◌++◌, ℕ, ◌+◌, ◌*◌, ◌^◌, ◌≤◌, ◌<◌, eqb, List, [], ◌∷◌, length, get_or, refl, sym, subst, ap, ◌∙◌, inl, inr, arith}
use Rattle.std.specs.Prelude.{Some, None, IsTrue, ◌==◌, if◌then◌else◌, sum, count_by}
use Rattle.std.specs.List.{AllByRecursion}
use Rattle.std.proofs.lemmas.Bool.{eqb-true, eq-eqb, ne_eqb, cases_eq}
use Rattle.std.proofs.lemmas.List.{length_push, length-set}
use Rattle.std.proofs.lemmas.List.Sums.{sum_by-set}
use Rattle.ham_syntax.specs.declared.act.Place.{Place}
use Rattle.ham_syntax.specs.declared.act.Call.{Call}
use Rattle.ham_buffer.specs.declared.buffer.Kept.{Kept}
use Rattle.ham_buffer.specs.Buffers.{kept_at, without}
use Rattle.ham_frame.specs.Spelling.{FitsCall}
use Rattle.ham_turns.specs.Settings.{IsReplica}
use Rattle.ham_site.specs.Sites.{Site, rules_at, setting_at, slots_at, IsBounded}
use Rattle.ham_site.proofs.Bounds.{bounded_update}
use Rattle.ham_turns.specs.Words.{place_of, in_lane}
use Rattle.ham_replica.specs.Values.{Lists}
use Rattle.ham_replica.specs.Steps.{one_more, with_item, slot_of, decide, log_waiting}
use Rattle.ham_replica.specs.Kept.{IsWaiting, IsKept}
use Rattle.ham_replica.proofs.Items.{true_or_false, all_set, all_push, get_one_more, get_with_item, count_place}
use Rattle.ham_replica.proofs.Folding.{decide_folds, log_folds}
use Rattle.ham_replica.proofs.Logging.{kept_without_same, kept_without_other, same_or_not}

pub sum_one_more : (xs : List ℕ) (i : ℕ) → i < length xs → sum (one_more xs i) ≡ sum xs + 1
sum_one_more xs i h = let e = sum_by-set (λ n. n) xs i (get_or xs i 0 + 1) 0 h in omega arith

-- a log that grows by one call of lane l, and the lanes' counts
module _ (v : Lists) (c : Call) (there : c.lane < length v.logged) where
  pub lanes_more : ((l : ℕ) → get_or v.logged l 0 ≡ count_by (in_lane l) v.log) → (l : ℕ) → get_or (one_more v.logged c.lane) l 0 ≡ count_by (in_lane l) (v.log ++ place_of c ∷ [])
  lanes_more h l =
      get_one_more v.logged c.lane l there
      ∙ ap (λ n. if c.lane == l then n + 1 else n) (h l)
      ∙ sym (count_place v.log (place_of c) l)

  pub total_more : length v.log ≡ sum v.logged → length (v.log ++ place_of c ∷ []) ≡ sum (one_more v.logged c.lane)
  total_more h = let a = length_push v.log (place_of c) in let b = sum_one_more v.logged c.lane there in omega arith

  pub logged_grows : (l : ℕ) → get_or v.logged l 0 ≤ get_or (one_more v.logged c.lane) l 0
  logged_grows l = let e = get_one_more v.logged c.lane l there in elim (true_or_false (eqb c.lane l)) [
    | inl t ↦ let k = rw t at e in omega arith
    | inr f ↦ let k = rw f at e in omega arith
  ]

  pub logged_other : (l : ℕ) → (c.lane ≡ l → ⊥) → get_or (one_more v.logged c.lane) l 0 ≡ get_or v.logged l 0
  logged_other l ne = get_one_more v.logged c.lane l there ∙ rw (ne_eqb c.lane l ne) refl

  -- the lists of lanes grow with the counts
  pub lists_more : (lists : List (List Call)) (l : ℕ) → length lists ≡ length v.logged → get_or v.logged l 0 ≡ length (get_or lists l []) →
      get_or (one_more v.logged c.lane) l 0 ≡ length (get_or (with_item lists c.lane c) l [])
  lists_more lists l long h =
      let count = get_one_more v.logged c.lane l there in
      let item = get_with_item lists c.lane l c (subst (λ n. c.lane < n) (sym long) there) in
      elim (true_or_false (eqb c.lane l)) [
        | inl t ↦
            let n = rw t at count in
            let k = rw t at item in
            n ∙ ap (λ n. n + 1) h ∙ sym (length_push (get_or lists l []) c) ∙ ap length (sym k)
        | inr f ↦
            let n = rw f at count in
            let k = rw f at item in
            n ∙ h ∙ ap length (sym k)
      ]

-- the lists with room: what a call needs that is to be logged
pub record IsNext (site : Site) (v : Lists) (c : Call) : Type 0 where
  pub lane : c.lane < (setting_at site).lanes
  pub few : get_or v.logged c.lane 0 < 65536
  pub number : c.number ≡ get_or v.logged c.lane 0 + 1
  pub method : c.act.method < (setting_at site).methods
  pub own : (setting_at site).lane c.act.method ((setting_at site).decider c.lane) ≡ c.lane
  pub fits : IsTrue ((rules_at site).fits c.act)

module _ (site : Site) (v : Lists) (is : IsKept site v) (c : Call) (next : IsNext site v c) where
  pub decider_there : IsReplica (setting_at site) ((setting_at site).decider c.lane)
  decider_there = is.at.tabled.decider_exists c.lane next.lane

  pub slot_there : slot_of site c < slots_at site
  slot_there = is.at.tabled.slot_exists c.act.method ((setting_at site).decider c.lane) next.method decider_there

  slot_counted : slot_of site c < length v.counts
  slot_counted = subst (λ n. slot_of site c < n) (sym is.shaped.counts) slot_there

  there : c.lane < length v.logged
  there = subst (λ n. c.lane < n) (sym is.shaped.logged) next.lane

  values_more : IsBounded ((rules_at site).update c.act v.state) (length (v.log ++ place_of c ∷ []) * 2 ^ 35)
  values_more =
      let long = length_push v.log (place_of c) in
      let e : length v.log * 2 ^ 35 + 2 ^ 35 ≡ length (v.log ++ place_of c ∷ []) * 2 ^ 35 = ap (λ n. n) (omega arith) in
      subst (λ n. IsBounded ((rules_at site).update c.act v.state) n) e (bounded_update site c.act v.state (length v.log * 2 ^ 35) is.at.checked next.fits is.values)

  counted_more : (s : ℕ) → get_or (one_more v.counts (slot_of site c)) s 0 ≤ length (v.log ++ place_of c ∷ [])
  counted_more s =
      let long = length_push v.log (place_of c) in
      let count = get_one_more v.counts (slot_of site c) s slot_counted in
      let before = is.counted s in
      elim (true_or_false (eqb (slot_of site c) s)) [
        | inl t ↦ let n = rw t at count in omega arith
        | inr f ↦ let n = rw f at count in omega arith
      ]

  -- a slot's count grows only with its lane's
  slotted_more : (m r : ℕ) → m < (setting_at site).methods → IsReplica (setting_at site) r →
      get_or (one_more v.counts (slot_of site c)) ((setting_at site).slot m r) 0 ≤ get_or (one_more v.logged c.lane) ((setting_at site).lane m r) 0
  slotted_more m r exists replica =
      let count = get_one_more v.counts (slot_of site c) ((setting_at site).slot m r) slot_counted in
      let lane = get_one_more v.logged c.lane ((setting_at site).lane m r) there in
      let grows = logged_grows v c there ((setting_at site).lane m r) in
      let before = is.slotted m r exists replica in
      elim (true_or_false (eqb (slot_of site c) ((setting_at site).slot m r))) [
        | inl t ↦
            let n = rw t at count in
            let same : c.lane ≡ (setting_at site).lane m r =
            sym next.own ∙ is.at.tabled.slot_lane c.act.method m ((setting_at site).decider c.lane) r next.method exists decider_there replica (eqb-true (slot_of site c) ((setting_at site).slot m r) t) in
            let k = rw (eq-eqb c.lane ((setting_at site).lane m r) same) at lane in
            omega arith
        | inr f ↦ let n = rw f at count in omega arith
      ]

  -- a waiting call stays one, where its place isn't the one that is logged
  waiting_on : (w : Lists) → w.logged ≡ one_more v.logged c.lane → (p : Place) (k : Kept) → IsWaiting site v p k → (p ≡ place_of c → ⊥) → IsWaiting site w p k
  waiting_on w e p k h ne = record {
    place = h.place;
    lane = h.lane;
    elsewhere = h.elsewhere;
    above = elim (cases_eq c.lane p.lane) [
      | inl l ↦
          let count : get_or w.logged p.lane 0 ≡ get_or v.logged p.lane 0 + 1 =
          ap (λ xs. get_or xs p.lane 0) e ∙ get_one_more v.logged c.lane p.lane there ∙ rw (eq-eqb c.lane p.lane l) refl in
          let next_there : c.number ≡ get_or v.logged p.lane 0 + 1 = next.number ∙ ap (λ n. get_or v.logged n 0 + 1) l in
          let apart : p.number ≡ c.number → ⊥ = λ (q : p.number ≡ c.number). ne (λ i. record { lane = sym l i; number = q i }) in
          let above = h.above in
          omega arith
      | inr l ↦
          let count : get_or w.logged p.lane 0 ≡ get_or v.logged p.lane 0 = ap (λ xs. get_or xs p.lane 0) e ∙ logged_other v c there p.lane l in
          let above = h.above in
          omega arith
    ];
    few = h.few;
    method = h.method;
    own = h.own;
    fits = h.fits;
    waits = h.waits;
  }

  -- a waiting call is logged
  pub waiting_logged : (setting_at site).decider c.lane ≢ site.me → IsKept site (log_waiting site v c)
  waiting_logged elsewhere = record {
    at = is.at;
    opened = is.opened;
    shaped = record {
      counts = length-set v.counts (slot_of site c) _ ∙ is.shaped.counts;
      logged = length-set v.logged c.lane _ ∙ is.shaped.logged;
      decided = is.shaped.decided;
      acked = is.shaped.acked;
      peers = is.shaped.peers;
      came = length-set v.came c.lane _ ∙ is.shaped.came;
      lanes = is.shaped.lanes;
      buffer = is.shaped.buffer;
      asks = is.shaped.asks;
      senders = is.shaped.senders;
      groups = is.shaped.groups;
    };
    lanes = lanes_more v c there is.lanes;
    here = λ l e.
        let ne : c.lane ≡ l → ⊥ = λ (q : c.lane ≡ l). elsewhere (ap (setting_at site).decider q ∙ e) in
        let same = logged_other v c there l ne in
        (same ∙ (is.here l e).0, get_with_item v.came c.lane l c (subst (λ n. c.lane < n) (sym is.shaped.came) next.lane) ∙ rw (ne_eqb c.lane l ne) (is.here l e).1);
    elsewhere = λ l e. (lists_more v c there v.came l (is.shaped.came ∙ sym is.shaped.logged) (is.elsewhere l e).0, (is.elsewhere l e).1);
    few = all_set (λ n. n ≤ 65536) v.logged c.lane (get_or v.logged c.lane 0 + 1) is.few (let few = next.few in omega arith);
    total = total_more v c there is.total;
    counted = counted_more;
    slotted = slotted_more;
    values = values_more;
    folded = log_folds site v c is.folded (subst (λ n. c.lane < n) (sym is.shaped.came) next.lane) (is.elsewhere c.lane elsewhere).1 (next.number ∙ ap (λ n. n + 1) (is.elsewhere c.lane elsewhere).0);
    waiting = λ p k found. elim (same_or_not p (place_of c)) [
      | inl e ↦ absurd (none_some (sym (kept_without_same v.buffer (place_of c)) ∙ ap (kept_at (without v.buffer (place_of c))) (sym e) ∙ found))
      | inr ne ↦ waiting_on (log_waiting site v c) refl p k (is.waiting p k (sym (kept_without_other v.buffer (place_of c) p ne) ∙ found)) ne
    ];
    ranges = record { decided = is.ranges.decided; asked = is.ranges.asked; few_asked = is.ranges.few_asked; ruled = is.ranges.ruled };
  }
    where
      none_some : {X : Type 0} {z : X} → None ≡ Some z → ⊥
      none_some h = cc

  -- a call that is decided here is logged
  pub decided_logged : (setting_at site).decider c.lane ≡ site.me → FitsCall c → IsKept site (decide site v c)
  decided_logged mine frame = record {
    at = is.at;
    opened = is.opened;
    shaped = record {
      counts = length-set v.counts (slot_of site c) _ ∙ is.shaped.counts;
      logged = length-set v.logged c.lane _ ∙ is.shaped.logged;
      decided = length-set v.decided c.lane _ ∙ is.shaped.decided;
      acked = is.shaped.acked;
      peers = is.shaped.peers;
      came = is.shaped.came;
      lanes = is.shaped.lanes;
      buffer = is.shaped.buffer;
      asks = is.shaped.asks;
      senders = is.shaped.senders;
      groups = is.shaped.groups;
    };
    lanes = lanes_more v c there is.lanes;
    here = λ l e. (lists_more v c there v.decided l (is.shaped.decided ∙ sym is.shaped.logged) (is.here l e).0, (is.here l e).1);
    elsewhere = λ l e.
        let ne : c.lane ≡ l → ⊥ = λ (q : c.lane ≡ l). e (ap (setting_at site).decider (sym q) ∙ mine) in
        let same = logged_other v c there l ne in
        (same ∙ (is.elsewhere l e).0, get_with_item v.decided c.lane l c (subst (λ n. c.lane < n) (sym is.shaped.decided) next.lane) ∙ rw (ne_eqb c.lane l ne) (is.elsewhere l e).1);
    few = all_set (λ n. n ≤ 65536) v.logged c.lane (get_or v.logged c.lane 0 + 1) is.few (let few = next.few in omega arith);
    total = total_more v c there is.total;
    counted = counted_more;
    slotted = slotted_more;
    values = values_more;
    folded = decide_folds site v c is.folded (subst (λ n. c.lane < n) (sym is.shaped.decided) next.lane) (is.here c.lane mine).1 (next.number ∙ ap (λ n. n + 1) (is.here c.lane mine).0);
    waiting = λ p k found.
        let w = is.waiting p k found in
        waiting_on (decide site v c) refl p k w (λ q. w.elsewhere (ap (λ (z : Place). (setting_at site).decider z.lane) q ∙ mine));
    ranges = record {
      decided = λ l. decided_fit l frame;
      asked = is.ranges.asked;
      few_asked = is.ranges.few_asked;
      ruled = is.ranges.ruled;
    };
  }
    where
      decided_fit : (l : ℕ) → FitsCall c → AllByRecursion FitsCall (get_or (with_item v.decided c.lane c) l [])
      decided_fit l frame =
          let item = get_with_item v.decided c.lane l c (subst (λ n. c.lane < n) (sym is.shaped.decided) next.lane) in
          elim (true_or_false (eqb c.lane l)) [
            | inl t ↦ let k = rw t at item in subst (AllByRecursion FitsCall) (sym k) (all_push FitsCall FitsCall (get_or v.decided l []) c (λ z h. h) (is.ranges.decided l) frame)
            | inr f ↦ let k = rw f at item in subst (AllByRecursion FitsCall) (sym k) (is.ranges.decided l)
          ]
