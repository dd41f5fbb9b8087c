-- What no fault says of each position.
use Rattle.std.proofs.Common.{◌≡◌, ◌++◌, ℕ, ◌+◌, Bool, true, false, cond, not, List, [], ◌∷◌, length, refl, sym, subst, ◌∙◌, inl, inr, Some, None, Option}
use Rattle.std.proofs.lemmas.Bool.{true≢false, eq-eqb, not-false, and_cases}
use Rattle.std.specs.Prelude.{◌==◌, ◌&&◌}
use Rattle.ham_syntax.specs.declared.act.Place.{Place}
use Rattle.ham_meaning.specs.declared.outcome.Outcome.{Outcome}
use Rattle.ham_meaning.specs.declared.outcome.Outcome.TheVariants as outcomes
use Rattle.ham_plan.specs.Lists.{In}
use Rattle.ham_turns.specs.Settings.{Rules, Setting}
use Rattle.ham_turns.specs.Refusals.{same_act}
use Rattle.ham_records.specs.declared.records.Logged.{Logged}
use Rattle.ham_audit.specs.declared.fault.AuditFault.{AuditFault}
use Rattle.ham_audit.specs.Records.{log_of, replicas, places, stands, deciding_log, act_at}
use Rattle.ham_audit.specs.Order.{order, audited}
use Rattle.ham_audit.specs.Faults as faults
use Rattle.ham_audit.proofs.Standing.{stands_in, replica_or_empty, none_first, none_second}

-- ---- tests in a row
pub passed : {X : Type 0} (b : Bool) (f : X) (rest : Option X) → cond b (Some f) rest ≡ None → (b ≡ false) × (rest ≡ None)
passed true f rest h = absurd (cc)
passed false f rest h = (refl, h)

among_none : (test : ℕ → Option AuditFault) (rs : List ℕ) → faults.first_among test rs ≡ None → (r : ℕ) → In r rs → test r ≡ None
among_none test [] h r k = absurd k
among_none test (q ∷ rs) h r (inl is) = subst (λ z. test z ≡ None) (sym is) (none_first (test q) (faults.first_among test rs) h)
among_none test (q ∷ rs) h r (inr k) = among_none test rs (none_second (test q) (faults.first_among test rs) h) r k

-- the facts of a position without a fault
pub record IsPlaced (x : Rules) (y : Setting) (records : List (List Logged)) (r : ℕ) (before : List Logged) (e : Logged) : Type 0 where
  pub place : faults.has_place x.lane_limit y e ≡ true
  pub new : stands e.place (places before) ≡ false
  pub decided : stands e.place (places (deciding_log y records e.place)) ≡ true
  pub act : same_act e.act (act_at e.place (deciding_log y records e.place)) ≡ true
  pub next : faults.is_next y r (faults.lane_count before e.place.lane) e ≡ true

pub placed_at : (x : Rules) (y : Setting) (records : List (List Logged)) (r : ℕ) (before : List Logged) (e : Logged) →
    faults.fault_at x y records r before e ≡ None → IsPlaced x y records r before e
placed_at x y records r before e h =
    let a = passed (not (faults.has_place x.lane_limit y e)) _ _ h in
    let b = passed (stands e.place (places before)) _ _ a.1 in
    let c = passed (not (stands e.place (places (deciding_log y records e.place)))) _ _ b.1 in
    let d = passed (not (same_act e.act (act_at e.place (deciding_log y records e.place)))) _ _ c.1 in
    let f = passed (not (faults.is_next y r (faults.lane_count before e.place.lane) e)) _ _ d.1 in
    record {
      place = not-false _ a.0;
      new = b.0;
      decided = not-false _ c.0;
      act = not-false _ d.0;
      next = not-false _ f.0;
    }

-- each position of a log
abbrev pub EachPlaced : Rules → Setting → List (List Logged) → ℕ → List Logged → List Logged → Type 0
EachPlaced x y records r before [] = Unit {0}
EachPlaced x y records r before (e ∷ rest) = IsPlaced x y records r before e × EachPlaced x y records r (before ++ e ∷ []) rest

along_placed : (x : Rules) (y : Setting) (records : List (List Logged)) (r : ℕ) (before rest : List Logged) →
    faults.fault_along x y records r before rest ≡ None → EachPlaced x y records r before rest
along_placed x y records r before [] h = tt
along_placed x y records r before (e ∷ rest) h = (
  placed_at x y records r before e (none_first (faults.fault_at x y records r before e) _ h),
  along_placed x y records r (before ++ e ∷ []) rest (none_second (faults.fault_at x y records r before e) _ h),
)

pub each_placed : (x : Rules) (y : Setting) (records : List (List Logged)) → faults.place_fault x y records ≡ None → (r : ℕ) → EachPlaced x y records r [] (log_of records r)
each_placed x y records h r = elim (replica_or_empty records r) [
  | inl k ↦ along_placed x y records r [] (log_of records r) (among_none (λ q. faults.fault_along x y records q [] (log_of records q)) (replicas records) h r k)
  | inr q ↦ subst (λ l. EachPlaced x y records r [] l) (sym q) tt
]

-- each call of a log, with what is so of it wherever it stands there
pub placed_in : (x : Rules) (y : Setting) (records : List (List Logged)) (r : ℕ) (before rest : List Logged) → EachPlaced x y records r before rest →
    (e : Logged) → In e rest → (front : List Logged) × IsPlaced x y records r front e
placed_in x y records r before [] h e k = absurd k
placed_in x y records r before (d ∷ rest) h e (inl q) = subst (λ z. (front : List Logged) × IsPlaced x y records r front z) (sym q) (before, h.0)
placed_in x y records r before (d ∷ rest) h e (inr k) = placed_in x y records r (before ++ d ∷ []) rest h.1 e k

-- ---- the order does not stop early
left_none : (y : Setting) (taken : List Place) (r index : ℕ) (log : List Logged) → faults.left_along y taken r index log ≡ None →
    (e : Logged) → In e log → y.decider e.place.lane ≡ r → In e.place taken
left_none y taken r index [] h e k own = absurd k
left_none y taken r index (d ∷ rest) h e (inr k) own =
    left_none y taken r (index + 1) rest (passed ((y.decider d.place.lane == r) && not (stands d.place taken)) _ _ h).1 e k own
left_none y taken r index (d ∷ rest) h e (inl q) own =
    let here : y.decider d.place.lane ≡ r = subst (λ (z : Logged). y.decider z.place.lane ≡ r) q own in
    let f = (passed ((y.decider d.place.lane == r) && not (stands d.place taken)) _ _ h).0 in
    elim (and_cases (y.decider d.place.lane == r) (not (stands d.place taken)) f) [
      | inl elsewhere ↦ absurd (true≢false (sym (eq-eqb (y.decider d.place.lane) r here) ∙ elsewhere))
      | inr taken_now ↦ subst (λ (z : Logged). In z.place taken) (sym q) (stands_in d.place taken (not-false _ taken_now))
    ]

pub own_taken : (y : Setting) (records : List (List Logged)) → faults.cycle_fault y records ≡ None →
    (r : ℕ) (e : Logged) → In e (log_of records r) → y.decider e.place.lane ≡ r → In e.place (order y records)
own_taken y records h r e k own = elim (replica_or_empty records r) [
  | inl j ↦ left_none y (order y records) r 1 (log_of records r)
      (among_none (λ q. faults.left_along y (order y records) q 1 (log_of records q)) (replicas records) h r j) e k own
  | inr q ↦ absurd (subst (λ l. In e l) q k)
]

-- ---- outcomes
forbidden_none : (y : Setting) (records : List (List Logged)) (c : Place) (u : Outcome) → faults.forbidden_by y records c u ≡ None → u ≡ outcomes.Yes
forbidden_none y records c outcomes.Yes h = refl
forbidden_none y records c (outcomes.Guard g) h = absurd (cc)
forbidden_none y records c (outcomes.Invariant v) h = absurd (cc)

pub among_permissible : (x : Rules) (y : Setting) (records : List (List Logged)) (cs : List Place) → faults.forbidden_among x y records cs ≡ None →
    (c : Place) → In c cs → faults.outcome_at x y records c ≡ outcomes.Yes
among_permissible x y records [] h c k = absurd k
among_permissible x y records (d ∷ cs) h c (inl q) =
    subst (λ z. faults.outcome_at x y records z ≡ outcomes.Yes) (sym q)
    (forbidden_none y records d (faults.outcome_at x y records d) (none_first (faults.forbidden_by y records d (faults.outcome_at x y records d)) _ h))
among_permissible x y records (d ∷ cs) h c (inr k) =
    among_permissible x y records cs (none_second (faults.forbidden_by y records d (faults.outcome_at x y records d)) _ h) c k

-- ---- needs
late_none : (y : Setting) (records : List (List Logged)) (c : Place) (seen ns : List Place) → faults.late_need y (audited y records) c seen ns ≡ None →
    (n : Place) → In n ns → faults.is_need y (audited y records) c n ≡ true → In n seen
late_none y records c seen [] h n k t = absurd k
late_none y records c seen (d ∷ ns) h n (inr k) t =
    late_none y records c seen ns (passed (faults.is_need y (audited y records) c d && not (stands d seen)) _ _ h).1 n k t
late_none y records c seen (d ∷ ns) h n (inl q) t =
    let f = (passed (faults.is_need y (audited y records) c d && not (stands d seen)) _ _ h).0 in
    elim (and_cases (faults.is_need y (audited y records) c d) (not (stands d seen)) f) [
      | inl none ↦ absurd (true≢false (sym t ∙ subst (λ z. faults.is_need y (audited y records) c z ≡ false) (sym q) none))
      | inr stood ↦ subst (λ z. In z seen) (sym q) (stands_in d seen (not-false _ stood))
    ]

late_by_none : (r index : ℕ) (o : Option Place) → faults.late_by r index o ≡ None → o ≡ None
late_by_none r index None h = refl
late_by_none r index (Some n) h = absurd (cc)

-- at each position what the call needs stands before it
abbrev pub EachTimely : Setting → List (List Logged) → List Place → List Place → Type 0
EachTimely y records before [] = Unit {0}
EachTimely y records before (c ∷ rest) =
    ((n : Place) → In n ((audited y records).before c) → faults.is_need y (audited y records) c n ≡ true → In n before) × EachTimely y records (before ++ c ∷ []) rest

along_timely : (y : Setting) (records : List (List Logged)) (r : ℕ) (before rest : List Place) → faults.late_along y records r before rest ≡ None → EachTimely y records before rest
along_timely y records r before [] h = tt
along_timely y records r before (c ∷ rest) h =
    let o = faults.late_need y (audited y records) c before ((audited y records).before c) in (
      late_none y records c before ((audited y records).before c) (late_by_none r (length before + 1) o (none_first (faults.late_by r (length before + 1) o) _ h)),
      along_timely y records r (before ++ c ∷ []) rest (none_second (faults.late_by r (length before + 1) o) _ h),
    )

pub each_timely : (y : Setting) (records : List (List Logged)) → faults.need_fault y records ≡ None → (r : ℕ) → EachTimely y records [] (places (log_of records r))
each_timely y records h r = elim (replica_or_empty records r) [
  | inl k ↦ along_timely y records r [] (places (log_of records r))
      (among_none (λ q. faults.late_along y records q [] (places (log_of records q))) (replicas records) h r k)
  | inr q ↦ subst (λ l. EachTimely y records [] (places l)) (sym q) tt
]
