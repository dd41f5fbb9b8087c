-- The logs of a run have no fault.
use Rattle.std.proofs.Common.{◌≡◌, ◌++◌, ℕ, ◌+◌, ◌≤◌, ◌<◌, Bool, true, false, cond, not, List, [], ◌∷◌, map, length, refl, sym, subst, ap, ◌∙◌, inl, inr, Some, None, Option, arith}
use Rattle.std.proofs.lemmas.Bool.{eq-eqb, eqb-true, and_from, and_left, and_right, or_cases, lt-ltb, le-leb, not_from_true, false_from_ne_true}
use Rattle.std.proofs.lemmas.List.{append_assoc}
use Rattle.std.specs.Prelude.{◌==◌, ◌&&◌, count_by, nat_eq, IsTrue}
use Rattle.std.specs.Cmp.Lexicographic.{pointwise}
use Rattle.ham_syntax.specs.declared.act.Place.{Place}
use Rattle.ham_syntax.specs.declared.act.Act.{Act}
use Rattle.ham_state.specs.Content.{State}
use Rattle.ham_meaning.specs.declared.outcome.Outcome.TheVariants.{Yes}
use Rattle.ham_meaning.specs.Relations.{Meaning}
use Rattle.ham_plan.specs.Lists.{In, Within}
use Rattle.ham_laws.specs.Executions.{Execution, Needs, IsClosedAfter, state_after, end_of}
use Rattle.ham_plan.proofs.Lists.{true_or_false, in_last, in_front, in_back}
use Rattle.ham_laws.proofs.Bridge.{calls_after}
use Rattle.ham_turns.specs.Settings.{Rules, Setting, meaning_by}
use Rattle.ham_turns.specs.Words.{in_lane}
use Rattle.ham_turns.specs.Work.{first_of_two}
use Rattle.ham_turns.specs.Refusals.{same_act}
use Rattle.ham_runs.specs.Facts.{constraints}
use Rattle.ham_runs.specs.Facts.{IsGiven}
use Rattle.ham_runs.specs.Runs as runs
use Rattle.ham_runs.specs.Runs.{Note, Decision, execution, decisions, calls_of_lane, IsRun}
use Rattle.ham_records.specs.declared.records.Logged.{Logged}
use Rattle.ham_audit.specs.declared.fault.AuditFault.{AuditFault}
use Rattle.ham_audit.specs.Records.{log_of, replicas, places, stands, front_of, act_at, deciding_log}
use Rattle.ham_audit.specs.Order.{order, audited}
use Rattle.ham_audit.specs.Faults as faults
use Rattle.ham_audit.specs.Claims.{IsRecorded, RunsHaveNoFault, logs_of_run}
use Rattle.ham_audit.proofs.Standing.{in_stands, stands_in, place_in}
use Rattle.ham_audit.proofs.Ordering.{after_ordered, front}
use Rattle.ham_audit.proofs.Placed.{IsPlaced}
use Rattle.ham_audit.proofs.Taking.{all_taken}
use Rattle.ham_runs.proofs.Room.{lanes_have_room}
use Rattle.ham_audit.proofs.Recorded.{entry_of, every_has, places_entry, in_order_same, kept, well, size, log_is, places_is, replica_is, logged_at, own, decided_in, there, own_logged, deciding_is, preceded, before_is, act_is}

numbers_alike : (xs : List ℕ) → pointwise nat_eq xs xs ≡ true
numbers_alike [] = refl
numbers_alike (n ∷ ns) = rw (eq-eqb n n refl) (numbers_alike ns)

acts_alike : (a b : Act) → a ≡ b → same_act a b ≡ true
acts_alike a b q = subst (λ z. same_act a z ≡ true) q (rw (eq-eqb a.method a.method refl, numbers_alike a.args) refl)

-- ---- tests in a row that find nothing
goes_by : {X : Type 0} (b : Bool) (f : X) (rest : Option X) → b ≡ false → rest ≡ None → cond b (Some f) rest ≡ None
goes_by b f rest h k = rw h k

both_none : {X : Type 0} (a b : Option X) → a ≡ None → b ≡ None → first_of_two a b ≡ None
both_none a b h k = rw h k

all_none : (test : ℕ → Option AuditFault) (rs : List ℕ) → ((r : ℕ) → In r rs → test r ≡ None) → faults.first_among test rs ≡ None
all_none test [] h = refl
all_none test (r ∷ rs) h = both_none (test r) (faults.first_among test rs) (h r (inl refl)) (all_none test rs (λ q k. h q (inr k)))

unplaced : (x : Rules) (y : Setting) (records : List (List Logged)) (r : ℕ) (before : List Logged) (e : Logged) →
    IsPlaced x y records r before e → faults.fault_at x y records r before e ≡ None
unplaced x y records r before e p =
    goes_by (not (faults.has_place x.lane_limit y e)) _ _ (not_from_true _ p.place)
    (goes_by (stands e.place (places before)) _ _ p.new
    (goes_by (not (stands e.place (places (deciding_log y records e.place)))) _ _ (not_from_true _ p.decided)
    (goes_by (not (same_act e.act (act_at e.place (deciding_log y records e.place)))) _ _ (not_from_true _ p.act)
    (goes_by (not (faults.is_next y r (faults.lane_count before e.place.lane) e)) _ _ (not_from_true _ p.next) refl))))

all_left : (y : Setting) (taken : List Place) (r index : ℕ) (log : List Logged) →
    ((e : Logged) → In e log → y.decider e.place.lane ≡ r → In e.place taken) → faults.left_along y taken r index log ≡ None
all_left y taken r index [] h = refl
all_left y taken r index (e ∷ log) h =
    goes_by ((y.decider e.place.lane == r) && not (stands e.place taken)) _ _
    (elim (true_or_false (y.decider e.place.lane == r)) [
      | inr f ↦ and_left _ _ f
      | inl t ↦ and_right (y.decider e.place.lane == r) _ (not_from_true _ (in_stands e.place taken (h e (inl refl) (eqb-true (y.decider e.place.lane) r t))))
    ])
    (all_left y taken r (index + 1) log (λ d k. h d (inr k)))

all_early : (y : Setting) (e : Execution Place Act) (c : Place) (seen ns : List Place) →
    ((n : Place) → In n ns → faults.is_need y e c n ≡ true → In n seen) → faults.late_need y e c seen ns ≡ None
all_early y e c seen [] h = refl
all_early y e c seen (n ∷ ns) h =
    goes_by (faults.is_need y e c n && not (stands n seen)) _ _
    (elim (true_or_false (faults.is_need y e c n)) [
      | inr f ↦ and_left _ _ f
      | inl t ↦ and_right (faults.is_need y e c n) _ (not_from_true _ (in_stands n seen (h n (inl refl) t)))
    ])
    (all_early y e c seen ns (λ z k. h z (inr k)))

state_same : (m : Meaning) (e later : Execution Place m.Act) (s : m.State) (xs : List Place) → ((c : Place) → In c xs → later.act c ≡ e.act c) →
    state_after m later s xs ≡ state_after m e s xs
state_same m e later s [] h = refl
state_same m e later s (c ∷ xs) h =
    ap (λ a. state_after m later (m.update a s) xs) (h c (inl refl)) ∙ state_same m e later (m.update (e.act c) s) xs (λ z k. h z (inr k))

entry_in : (notes : List Note) (xs : List Place) (e : Logged) → In e (map (entry_of notes) xs) → In e.place xs × (e ≡ entry_of notes e.place)
entry_in notes [] e k = absurd k
entry_in notes (c ∷ xs) e (inl q) =
    let p : e.place ≡ c = ap (λ (z : Logged). z.place) q in (inl p, q ∙ ap (entry_of notes) (sym p))
entry_in notes (c ∷ xs) e (inr k) = let w = entry_in notes xs e k in (inr w.0, w.1)

module _ (x : Rules) (y : Setting) (given : IsGiven x y) (decides : (s : State) (a : Act) → x.Permissible s a → x.outcome s a ≡ Yes) (notes : List Note) (run : IsRun x y notes) where
  abbrev records : List (List Logged)
  records = logs_of_run y notes

  -- ---- the order has the decided calls of the run
  front_is : (c : Place) → In c (execution notes).decided → (execution notes).before c ≡ front y records c
  front_is c k = sym (before_is x y given notes run c k)

  own_there : (c : Place) → In c (execution notes).decided → In c (places (deciding_log y records c))
  own_there c k = subst (λ l. In c l) (sym (deciding_is x y given notes run c k)) (own_logged x y given notes run c k)

  taken : Within (execution notes).decided (order y records)
  taken = all_taken y records (execution notes).decided
      (in_order_same (execution notes).before (front y records) [] (execution notes).decided front_is (well x y given notes run).in_order)
      own_there (λ c k. every_has records (y.decider c.lane) c k)

  order_decided : (c : Place) → In c (order y records) → In c (execution notes).decided
  order_decided c k =
      let w = logged_at x y given notes run (y.decider c.lane) c ((after_ordered y records _).own c k) in
      decided_in x y given notes run (y.decider c.lane) c w.1

  no_cycle : faults.cycle_fault y records ≡ None
  no_cycle = all_none (λ r. faults.left_along y (order y records) r 1 (log_of records r)) (replicas records)
      (λ r k. all_left y (order y records) r 1 (log_of records r) (λ e j here.
      let here_r = replica_is x y given notes run r k in
      let i = (entry_in notes (runs.log_of notes r) e (subst (λ l. In e l) (log_is x y given notes run r here_r) j)).0 in
      taken e.place (decided_in x y given notes run r e.place i)))

  -- ---- outcomes
  outcome_is : (c : Place) → In c (execution notes).decided → faults.outcome_at x y records c ≡ Yes
  outcome_is c k =
      let m = meaning_by x in
      let before = (execution notes).before c in
      let w = well x y given notes run in
      let states : end_of m (audited y records) before ≡ end_of m (execution notes) before =
      state_same m (execution notes) (audited y records) x.opening before
      (λ n j. act_is x y given notes run n (calls_after m (constraints y) (execution notes) [] before (w.before_closed c k) n j)) in
      subst (λ l. x.outcome (end_of m (audited y records) l) ((audited y records).act c) ≡ Yes) (front_is c k)
      (subst (λ s. x.outcome s ((audited y records).act c) ≡ Yes) (sym states)
      (subst (λ a. x.outcome (end_of m (execution notes) before) a ≡ Yes) (sym (act_is x y given notes run c k)) (decides _ _ (w.permissible_at c k))))

  allowed : (cs : List Place) → Within cs (execution notes).decided → faults.forbidden_among x y records cs ≡ None
  allowed [] h = refl
  allowed (c ∷ cs) h =
      both_none (faults.forbidden_by y records c (faults.outcome_at x y records c)) (faults.forbidden_among x y records cs)
      (subst (λ u. faults.forbidden_by y records c u ≡ None) (sym (outcome_is c (h c (inl refl)))) refl) (allowed cs (λ z k. h z (inr k)))

  -- ---- needs
  needed : (c n : Place) → In c (execution notes).decided → In n (front y records c) → faults.is_need y (audited y records) c n ≡ true →
      Needs (meaning_by x) (constraints y) (execution notes) c n
  needed c n k j t =
      let i : In n ((execution notes).before c) = subst (λ l. In n l) (sym (front_is c k)) j in
      let dn = calls_after (meaning_by x) (constraints y) (execution notes) [] ((execution notes).before c) ((well x y given notes run).before_closed c k) n i in
      let an = act_is x y given notes run n dn in
      let ac = act_is x y given notes run c k in (
        i,
        elim (or_cases (n.lane == c.lane) _ t) [
          | inl q ↦ inl (eqb-true n.lane c.lane q)
          | inr r ↦ inr (elim (or_cases (y.conflict (act_at n (deciding_log y records n)).method (act_at c (deciding_log y records c)).method) _ r) [
            | inl s ↦ inl (subst (λ (a : Act). y.conflict a.method ((execution notes).act c).method ≡ true) an
                (subst (λ (a : Act). y.conflict (act_at n (deciding_log y records n)).method a.method ≡ true) ac s))
            | inr s ↦ inr (subst (λ (a : Act). y.depends ((execution notes).act c).method a.method ≡ true) an
                (subst (λ (a : Act). y.depends a.method (act_at n (deciding_log y records n)).method ≡ true) ac s))
          ])
        ],
      )

  early : (r : ℕ) (seen before rest : List Place) → Within seen before → IsClosedAfter (meaning_by x) (constraints y) (execution notes) seen rest →
      faults.late_along y records r before rest ≡ None
  early r seen before [] there h = refl
  early r seen before (c ∷ rest) there h =
      both_none (faults.late_by r (length before + 1) (faults.late_need y (audited y records) c before (front y records c))) _
      (ap (faults.late_by r (length before + 1))
      (all_early y (audited y records) c before (front y records c) (λ n j t. there n (h.2 n (needed c n h.0 j t)))))
      (early r (c ∷ seen) (before ++ c ∷ []) rest
      (λ z k. elim k [ inl q ↦ in_back z before (c ∷ []) (inl q) | inr j ↦ in_front z before (c ∷ []) (there z j) ]) h.3)

  -- ---- positions
  room : (c : Place) → In c (execution notes).decided → c.number ≤ x.lane_limit
  room c k =
      let counted = (kept x y given notes run).kept.counted c k in
      let few = lanes_have_room x y given notes run c.lane in
      omega arith

  has_place : (c : Place) → In c (execution notes).decided → faults.has_place x.lane_limit y (entry_of notes c) ≡ true
  has_place c k =
      let o = own x y given notes run c k in
      let n = (kept x y given notes run).kept.numbers c k in
      let a = (execution notes).act c in
      let lane : c.lane < y.lanes = subst (λ l. l < y.lanes) o.lane (given.setting.lane_exists a.method (y.decider c.lane) (given.setting.fits_exist a o.fits) o.replica) in
      let few = room c k in
      and_from _ _ (and_from _ _ (lt-ltb c.lane y.lanes lane) (eq-eqb _ _ o.lane)) (and_from _ _ (lt-ltb 0 c.number (omega arith)) (le-leb c.number x.lane_limit few))

  is_next : (r : ℕ) (c : Place) (before rest : List Place) → runs.log_of notes r ≡ before ++ c ∷ rest → In c (execution notes).decided →
      faults.is_next y r (faults.lane_count (map (entry_of notes) before) c.lane) (entry_of notes c) ≡ true
  is_next r c before rest q k = elim (true_or_false (y.decider c.lane == r)) [
    | inr f ↦ rw f refl
    | inl t ↦
        let here : y.decider c.lane ≡ r = eqb-true (y.decider c.lane) r t in
        let w = there x y given notes run c k in
        let same : before ≡ (execution notes).before c =
        sym (preceded x y given notes run r c before rest q) ∙ ap (λ z. front_of c (runs.log_of notes z)) (sym here)
        ∙ preceded x y given notes run (y.decider c.lane) c ((execution notes).before c) w.0 w.1 in
        let n : c.number ≡ count_by (in_lane c.lane) ((execution notes).before c) + 1 = (kept x y given notes run).kept.numbers c k in
        rw t (eq-eqb _ _ (n ∙ ap (λ l. count_by (in_lane c.lane) l + 1) (sym (places_entry notes before ∙ same))))
  ]

  placed : (r : ℕ) (c : Place) (before rest : List Place) → runs.log_of notes r ≡ before ++ c ∷ rest → (In c before → ⊥) → In c (execution notes).decided →
      IsPlaced x y records r (map (entry_of notes) before) (entry_of notes c)
  placed r c before rest q new k = record {
    place = has_place c k;
    new = false_from_ne_true _ (λ t. new (stands_in c before (subst (λ l. stands c l ≡ true) (places_entry notes before) t)));
    decided = in_stands c (places (deciding_log y records c)) (own_there c k);
    act = acts_alike _ _ (sym (act_is x y given notes run c k));
    next = is_next r c before rest q k;
  }

  entries_push : (before : List Place) (c : Place) → map (entry_of notes) (before ++ c ∷ []) ≡ map (entry_of notes) before ++ entry_of notes c ∷ []
  entries_push [] c = refl
  entries_push (z ∷ before) c = ap (λ l. entry_of notes z ∷ l) (entries_push before c)

  in_place_all : (r : ℕ) (seen before rest : List Place) → runs.log_of notes r ≡ before ++ rest → Within before seen →
      IsClosedAfter (meaning_by x) (constraints y) (execution notes) seen rest →
      faults.fault_along x y records r (map (entry_of notes) before) (map (entry_of notes) rest) ≡ None
  in_place_all r seen before [] q there h = refl
  in_place_all r seen before (c ∷ rest) q there h =
      both_none (faults.fault_at x y records r (map (entry_of notes) before) (entry_of notes c)) _
      (unplaced x y records r (map (entry_of notes) before) (entry_of notes c) (placed r c before rest q (λ k. h.1 (there c k)) h.0))
      (subst (λ l. faults.fault_along x y records r l (map (entry_of notes) rest) ≡ None) (entries_push before c)
      (in_place_all r (c ∷ seen) (before ++ c ∷ []) rest (q ∙ sym (append_assoc before (c ∷ []) rest))
      (λ z k. elim (in_last z c before k) [ inl j ↦ inr (there z j) | inr e ↦ inl e ]) h.3))

  pub no_fault : faults.fault_of x y records ≡ None
  no_fault =
      let closed = (well x y given notes run).logs_closed in
      both_none (faults.place_fault x y records) _
      (all_none (λ r. faults.fault_along x y records r [] (log_of records r)) (replicas records)
      (λ r k. subst (λ l. faults.fault_along x y records r [] l ≡ None) (sym (log_is x y given notes run r (replica_is x y given notes run r k)))
      (in_place_all r [] [] (runs.log_of notes r) refl (λ z j. j) (closed r))))
      (both_none (first_of_two (faults.cycle_fault y records) (faults.outcome_fault x y records)) _ (both_none (faults.cycle_fault y records) _ no_cycle (allowed (order y records) order_decided))
      (all_none (λ r. faults.late_along y records r [] (places (log_of records r))) (replicas records)
      (λ r k. subst (λ l. faults.late_along y records r [] l ≡ None) (sym (places_is x y given notes run r (replica_is x y given notes run r k)))
      (early r [] [] (runs.log_of notes r) (λ z j. j) (closed r)))))

  pub is_recorded : IsRecorded x y records
  is_recorded = record {
    replicas = size x y given notes run;
    fits = λ r e k.
        let w = logged_at x y given notes run r e.place (place_in e (log_of records r) k) in
        let i = entry_in notes (runs.log_of notes r) e (subst (λ l. In e l) (log_is x y given notes run r w.0) k) in
        subst (λ (z : Logged). IsTrue (x.fits z.act)) (sym i.1) (own x y given notes run e.place (decided_in x y given notes run r e.place i.0)).fits;
  }

pub runs_have_no_fault : (x : Rules) (y : Setting) → IsGiven x y → ((s : State) (a : Act) → x.Permissible s a → x.outcome s a ≡ Yes) → RunsHaveNoFault x y
runs_have_no_fault x y given decides notes run = (is_recorded x y given decides notes run, no_fault x y given decides notes run)
