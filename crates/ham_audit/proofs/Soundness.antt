-- Records without a fault stand for a well-coordinated execution.
use Rattle.std.proofs.Common.{◌≡◌, ◌++◌, ◌≤◌, ◌<◌, ℕ, ◌+◌, zero, suc, true, List, [], ◌∷◌, length, refl, sym, subst, ap, ◌∙◌, inl, inr, None, arith}
use Rattle.std.proofs.lemmas.Bool.{true≢false, eq-eqb, eqb-true, and_parts, or_left, or_right}
use Rattle.std.specs.List.{range_with_len}
use Rattle.std.specs.Prelude.{◌==◌, ◌&&◌, nat_lt, nat_eq, IsTrue}
use Rattle.std.specs.Cmp.Lexicographic.{pointwise}
use Rattle.ham_turns.specs.Refusals.{same_act}
use Rattle.ham_syntax.specs.declared.act.Place.{Place}
use Rattle.ham_syntax.specs.declared.act.Act.{Act}
use Rattle.ham_plan.specs.Lists.{In, Within}
use Rattle.ham_laws.specs.Executions.{Needs, IsClosed, IsClosedAfter, IsWellCoordinated}
use Rattle.ham_plan.proofs.Lists.{in_last, in_front, in_back, true_or_false}
use Rattle.ham_turns.specs.Words.{same_place}
use Rattle.ham_turns.specs.Work.{first_of_two}
use Rattle.ham_turns.specs.Settings.{Rules, Setting, meaning_by, IsReplica}
use Rattle.ham_runs.specs.Facts.{constraints}
use Rattle.ham_runs.specs.Facts.{IsGiven}
use Rattle.ham_records.specs.declared.records.Logged.{Logged}
use Rattle.ham_audit.specs.Records.{log_of, places, every_place, front_of, deciding_log, act_at}
use Rattle.ham_audit.specs.Order.{order, audited}
use Rattle.ham_audit.specs.Faults as faults
use Rattle.ham_audit.specs.Claims.{IsRecorded, FaultlessAreSound}
use Rattle.ham_audit.proofs.Standing.{stands_in, stands_not, front_starts, either_front, entry_at, replica_or_empty, none_first, none_second}
use Rattle.ham_audit.proofs.Ordering.{after_ordered}
use Rattle.ham_audit.proofs.Placed.{EachPlaced, EachTimely, each_placed, placed_in, own_taken, among_permissible, each_timely}

-- what no fault says
pub record IsFaultless (x : Rules) (y : Setting) (records : List (List Logged)) : Type 0 where
  pub placed : (r : ℕ) → EachPlaced x y records r [] (log_of records r)
  pub taken : (r : ℕ) (e : Logged) → In e (log_of records r) → y.decider e.place.lane ≡ r → In e.place (order y records)
  pub outcome : faults.outcome_fault x y records ≡ None
  pub timely : (r : ℕ) → EachTimely y records [] (places (log_of records r))

pub faultless : (x : Rules) (y : Setting) (records : List (List Logged)) → faults.fault_of x y records ≡ None → IsFaultless x y records
faultless x y records h =
    let a = none_second (faults.place_fault x y records) _ h in
    let b = none_first (first_of_two (faults.cycle_fault y records) (faults.outcome_fault x y records)) _ a in
    record {
      placed = each_placed x y records (none_first (faults.place_fault x y records) _ h);
      taken = own_taken y records (none_first (faults.cycle_fault y records) _ b);
      outcome = none_second (faults.cycle_fault y records) _ b;
      timely = each_timely y records (none_second (first_of_two (faults.cycle_fault y records) (faults.outcome_fault x y records)) _ a);
    }

pub numbers_same : (xs ys : List ℕ) → pointwise nat_eq xs ys ≡ true → xs ≡ ys
numbers_same [] [] h = refl
numbers_same [] (b ∷ ys) h = absurd (true≢false (sym h))
numbers_same (a ∷ xs) [] h = absurd (true≢false (sym h))
numbers_same (a ∷ xs) (b ∷ ys) h =
    let w = and_parts (nat_eq a b) (pointwise nat_eq xs ys) h in
    let l : xs ≡ ys = numbers_same xs ys w.1 in
    let q : a ≡ b = eqb-true a b w.0 in cc

pub acts_same : (a b : Act) → same_act a b ≡ true → a ≡ b
acts_same a b h =
    let w = and_parts (a.method == b.method) (pointwise nat_eq a.args b.args) h in
    let m = eqb-true a.method b.method w.0 in
    let l = numbers_same a.args b.args w.1 in
    λ i. record { method = m i; args = l i }

pub range_low : (r a n : ℕ) → In r (range_with_len a n) → a ≤ r
range_low r a zero k = absurd k
range_low r a (suc n) (inl q) = omega arith
range_low r a (suc n) (inr k) = let h = range_low r (a + 1) n k in omega arith

pub range_high : (r a n : ℕ) → In r (range_with_len a n) → r < a + n
range_high r a zero k = absurd k
range_high r a (suc n) (inl q) = omega arith
range_high r a (suc n) (inr k) = let h = range_high r (a + 1) n k in omega arith

places_push : (before : List Logged) (e : Logged) → places (before ++ e ∷ []) ≡ places before ++ e.place ∷ []
places_push [] e = refl
places_push (d ∷ before) e = ap (λ l. d.place ∷ l) (places_push before e)

module _ (x : Rules) (y : Setting) (given : IsGiven x y) (records : List (List Logged)) (recorded_well : IsRecorded x y records) (none : IsFaultless x y records) where
  -- a decided call, as it stands in the log of the replica that decided it
  pub record Found (c : Place) : Type 0 where
    pub entry : Logged
    pub logged : In entry (deciding_log y records c)
    pub place : entry.place ≡ c
    pub act : act_at c (deciding_log y records c) ≡ entry.act

  own_found : (c : Place) → In c (places (deciding_log y records c)) → Found c
  own_found c k = let w = entry_at c (deciding_log y records c) k in record { entry = w.0; logged = w.1; place = w.2; act = w.3 }

  decided_own : (c : Place) → In c (order y records) → In c (places (deciding_log y records c))
  decided_own c k = (after_ordered y records (length (every_place records))).own c k

  own_decided : (c : Place) → In c (places (deciding_log y records c)) → In c (order y records)
  own_decided c k =
      let w = own_found c k in
      subst (λ z. In z (order y records)) w.place (none.taken (y.decider c.lane) w.entry w.logged (ap (λ (z : Place). y.decider z.lane) w.place))

  -- the deciding replica of a call that it logged is a replica
  decider_is : (c : Place) → In c (places (deciding_log y records c)) → IsReplica y (y.decider c.lane)
  decider_is c k = elim (replica_or_empty records (y.decider c.lane)) [
    | inl j ↦
        let low = range_low (y.decider c.lane) 1 (length records) j in
        let high = range_high (y.decider c.lane) 1 (length records) j in
        let count = recorded_well.replicas in
        (omega arith, omega arith)
    | inr q ↦ absurd (subst (λ l. In c (places l)) q k)
  ]

  -- the lane of a decided call is its method's
  lane_is : (c : Place) → In c (places (deciding_log y records c)) → y.lane (act_at c (deciding_log y records c)).method (y.decider c.lane) ≡ c.lane
  lane_is c k =
      let w = own_found c k in
      let p = (placed_in x y records (y.decider c.lane) [] (deciding_log y records c) (none.placed (y.decider c.lane)) w.entry w.logged).1 in
      let t = and_parts (nat_lt w.entry.place.lane y.lanes) _ (and_parts (nat_lt w.entry.place.lane y.lanes && (y.lane w.entry.act.method (y.decider w.entry.place.lane) == w.entry.place.lane)) _ p.place).0 in
      let q = eqb-true (y.lane w.entry.act.method (y.decider w.entry.place.lane)) w.entry.place.lane t.1 in
      subst (λ (a : Act). y.lane a.method (y.decider c.lane) ≡ c.lane) (sym w.act)
      (subst (λ (z : Place). y.lane w.entry.act.method (y.decider z.lane) ≡ z.lane) w.place q)

  is_needed : (c n : Place) → Needs (meaning_by x) (constraints y) (audited y records) c n → faults.is_need y (audited y records) c n ≡ true
  is_needed c n need = elim need.1 [
    | inl q ↦ or_left (n.lane == c.lane) _ (eq-eqb n.lane c.lane q)
    | inr r ↦ or_right (n.lane == c.lane) _ (elim r [ inl t ↦ or_left _ _ t | inr t ↦ or_right _ _ t ])
  ]

  -- a log is closed, call by call
  closed_along : (r : ℕ) (before rest : List Logged) (seen : List Place) → Within (places before) seen → Within seen (places before) →
      EachPlaced x y records r before rest → EachTimely y records (places before) (places rest) →
      IsClosedAfter (meaning_by x) (constraints y) (audited y records) seen (places rest)
  closed_along r before [] seen there back placed timely = tt
  closed_along r before (e ∷ rest) seen there back placed timely = (
    own_decided e.place (stands_in e.place (places (deciding_log y records e.place)) placed.0.decided),
    λ k. stands_not e.place (places before) placed.0.new (back e.place k),
    λ n need. there n (timely.0 n need.0 (is_needed e.place n need)),
    closed_along r (before ++ e ∷ []) rest (e.place ∷ seen)
        (λ z k. elim (in_last z e.place (places before) (subst (λ l. In z l) (places_push before e) k)) [ inl j ↦ inr (there z j) | inr q ↦ inl q ])
        (λ z k. subst (λ l. In z l) (sym (places_push before e)) (elim k [ inl q ↦ in_back z (places before) (e.place ∷ []) (inl q) | inr j ↦ in_front z (places before) (e.place ∷ []) (back z j) ]))
        placed.1 (subst (λ l. EachTimely y records l (places rest)) (sym (places_push before e)) timely.1),
  )

  log_closed : (r : ℕ) → IsClosed (meaning_by x) (constraints y) (audited y records) (places (log_of records r))
  log_closed r = closed_along r [] (log_of records r) [] (λ z k. k) (λ z k. k) (none.placed r) (none.timely r)

  front_closed : (c : Place) (seen xs : List Place) → IsClosedAfter (meaning_by x) (constraints y) (audited y records) seen xs →
      IsClosedAfter (meaning_by x) (constraints y) (audited y records) seen (front_of c xs)
  front_closed c seen [] h = tt
  front_closed c seen (z ∷ xs) h = elim (true_or_false (same_place z c)) [
    | inl t ↦ rw t tt
    | inr f ↦ rw f (h.0, h.1, h.2, front_closed c (z ∷ seen) xs h.3)
  ]

  share_log : (c d : Place) → In c (order y records) → In d (order y records) →
      y.conflict (act_at c (deciding_log y records c)).method (act_at d (deciding_log y records d)).method ≡ true → c.lane ≡ d.lane
  share_log c d dc dd t =
      let kc = decided_own c dc in
      let kd = decided_own d dd in
      sym (lane_is c kc) ∙ given.setting.share _ _ (y.decider c.lane) (y.decider d.lane) (decider_is c kc) (decider_is d kd) t ∙ lane_is d kd

  pub acts : (r : ℕ) (e : Logged) → In e (log_of records r) → act_at e.place (deciding_log y records e.place) ≡ e.act
  acts r e k = sym (acts_same e.act _ (placed_in x y records r [] (log_of records r) (none.placed r) e k).1.act)

  pub well : IsWellCoordinated (meaning_by x) (constraints y) (audited y records)
  well = record {
    in_order = (after_ordered y records (length (every_place records))).in_order;
    decided_there = λ c d. front_starts c (places (deciding_log y records c)) (decided_own c d);
    fits = λ c d. let w = own_found c (decided_own c d) in subst (λ a. IsTrue (x.fits a)) (sym w.act) (recorded_well.fits (y.decider c.lane) w.entry w.logged);
    permissible_at = λ c d. given.setting.permissible _ _ (among_permissible x y records (order y records) none.outcome c d);
    before_closed = λ c d. front_closed c [] (places (deciding_log y records c)) (log_closed (y.decider c.lane));
    logs_closed = log_closed;
    conflicts_ordered = λ c d dc dd ne t.
        let lanes = share_log c d dc dd t in
        let kd = subst (λ l. In d (places (log_of records (y.decider l)))) (sym lanes) (decided_own d dd) in
        elim (either_front c d (places (deciding_log y records c)) (decided_own c dc) kd ne) [
          | inl k ↦ inl (subst (λ l. In c (front_of d (places (log_of records (y.decider l))))) lanes k)
          | inr k ↦ inr k
        ];
  }

pub faultless_sound : (x : Rules) (y : Setting) → IsGiven x y → FaultlessAreSound x y
faultless_sound x y given records recorded_well h =
    let none = faultless x y records h in
    let w = well x y given records recorded_well none in
    record {
      well = w;
      acts = acts x y given records recorded_well none;
      invariant = λ r. given.laws.invariant_holds (constraints y) (audited y records) given.sound w (places (log_of records r)) (w.logs_closed r);
      agree = λ r q same. given.laws.states_agree (constraints y) (audited y records) given.sound w (places (log_of records r)) (places (log_of records q)) (w.logs_closed r) (w.logs_closed q) same;
    }
