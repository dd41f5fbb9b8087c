-- What the decisions and logs of a run keep: a decision keeps it, and so does a drain. The laws of coordination come in as `laws`.
use Rattle.std.proofs.Common.{◌≡◌, ◌≢◌, ◌⊎◌, ◌++◌, ℕ, ◌+◌, ◌≤◌, Bool, true, false, cond, List, [], ◌∷◌, map, length, length-append, refl, sym, subst, ap, ◌∙◌, inl, inr, arith}
use Rattle.std.specs.Prelude.{◌==◌, count_by, IsTrue}
use Rattle.std.proofs.lemmas.Bool.{eq-eqb, ne_eqb}
use Rattle.ham_syntax.specs.declared.act.Place.{Place}
use Rattle.ham_syntax.specs.declared.act.Act.{Act}
use Rattle.ham_plan.specs.Lists.{In, Within}
use Rattle.ham_laws.specs.Executions.{IsSound, IsWellCoordinated, end_of, method_of}
use Rattle.ham_laws.specs.Turns.{IsDecision, IsDrain}
use Rattle.ham_laws.specs.Drain.{Drains, LanesOrdered}
use Rattle.ham_laws.specs.Counts.{ConflictsShareLanes, IsNumbered}
use Rattle.ham_laws.specs.Lanes.{IsNextInLane}
use Rattle.ham_runs.specs.Facts.{constraints, IsSetting, Laws}
use Rattle.ham_plan.proofs.Lists.{in_front, in_back, in_last}
use Rattle.ham_laws.proofs.Bridge.{calls_after}
use Rattle.ham_laws.proofs.Lanes.{count_by-same}
use Rattle.ham_turns.specs.Settings.{Rules, Setting, meaning_by, IsReplica}
use Rattle.ham_turns.specs.Words.{in_lane, place_of}
use Rattle.ham_runs.specs.Runs.{Decision, no_act, of_place, calls_of_lane, execution_of, pushed, in_slot}
use Rattle.ham_runs.proofs.Decisions.{places_of, places_push, place_in, say_old, say_new, found, lane_push, lane_length}

-- what is kept of a decided call: its decider decides its lane; its counts are those in `before`
pub record Own (x : Rules) (y : Setting) (ds : List Decision) (log : ℕ → List Place) (d : Decision) : Type 0 where
  pub replica : IsReplica y d.by
  pub decides : y.decider d.call.lane ≡ d.by
  pub lane : y.lane d.call.act.method d.by ≡ d.call.lane
  pub fits : IsTrue (x.fits d.call.act)
  pub deps : d.call.deps ≡ map (λ s. count_by (in_slot y (execution_of ds log) s) d.before) (y.needs d.call.act.method)

pub record Kept (x : Rules) (y : Setting) (ds : List Decision) (log : ℕ → List Place) : Type 0 where
  pub well : IsWellCoordinated (meaning_by x) (constraints y) (execution_of ds log)
  pub ordered : LanesOrdered (execution_of ds log)
  pub numbers : IsNumbered (execution_of ds log) (λ c. c.number)
  pub counted : (c : Place) → In c (places_of ds) → c.number ≤ length (calls_of_lane c.lane ds)
  -- a place was decided once
  pub unique : (d f : Decision) → In d ds → In f ds → place_of d.call ≡ place_of f.call → d ≡ f
  pub own : (d : Decision) → In d ds → Own x y ds log d

-- what a turn shows of the call that it decides
pub record IsMade (x : Rules) (y : Setting) (ds : List Decision) (log : ℕ → List Place) (d : Decision) : Type 0 where
  pub before : d.before ≡ log d.by
  pub number : d.call.number ≡ length (calls_of_lane d.call.lane ds) + 1
  pub replica : IsReplica y d.by
  pub decides : y.decider d.call.lane ≡ d.by
  pub lane : y.lane d.call.act.method d.by ≡ d.call.lane
  pub fits : IsTrue (x.fits d.call.act)
  pub deps : d.call.deps ≡ map (λ s. count_by (in_slot y (execution_of ds log) s) (log d.by)) (y.needs d.call.act.method)
  pub permissible : x.Permissible (end_of (meaning_by x) (execution_of ds log) (log d.by)) d.call.act

pub pushed_same : (log : ℕ → List Place) (r : ℕ) (xs : List Place) → pushed log r xs r ≡ log r ++ xs
pushed_same log r xs = rw (eq-eqb r r refl) refl

pub pushed_other : (log : ℕ → List Place) (r : ℕ) (xs : List Place) (q : ℕ) → q ≢ r → pushed log r xs q ≡ log q
pushed_other log r xs q ne = rw (ne_eqb r q (λ e. ne (sym e))) refl

map_same : {X Y : Type 0} (f g : X → Y) (xs : List X) → ((x : X) → f x ≡ g x) → map f xs ≡ map g xs
map_same f g [] h = refl
map_same f g (x ∷ xs) h = rw (h x, map_same f g xs h) refl

module _ (x : Rules) (y : Setting) (setting : IsSetting x y) (sound : IsSound (meaning_by x) (constraints y)) (laws : Laws (meaning_by x)) (ds : List Decision) (log : ℕ → List Place) (kept : Kept x y ds log) where
  own_of : (c : Place) → (k : In c (places_of ds)) → Own x y ds log (found ds c k).decision
  own_of c k = kept.own (found ds c k).decision (found ds c k).stands

  -- the replica that decided a call has it in its log
  logged_there : (c : Place) → (k : In c (places_of ds)) → In c (log (found ds c k).decision.by)
  logged_there c k =
      let w = found ds c k in
      let there = kept.well.decided_there c k in
      subst (λ q. In c (log q)) w.by
      (subst (λ l. In c l) (sym there.1) (in_front c _ there.0 (in_back c _ (c ∷ []) (inl refl))))

  -- the decider of a lane has logged each call of it
  pub lane_logged : (r : ℕ) (lane : ℕ) → y.decider lane ≡ r → (c : Place) → In c (places_of ds) → c.lane ≡ lane → In c (log r)
  lane_logged r lane decides c k q =
      let w = found ds c k in
      let own = own_of c k in
      let by : w.decision.by ≡ r = sym own.decides ∙ ap (λ (z : Place). y.decider z.lane) w.place ∙ ap y.decider q ∙ decides in
      subst (λ z. In c (log z)) by (logged_there c k)

  -- calls whose methods conflict are in one lane
  pub conflict_lane : (c : Place) (m r : ℕ) → IsReplica y r → In c (places_of ds) → y.conflict m (method_of (meaning_by x) (execution_of ds log) c) ≡ true → c.lane ≡ y.lane m r
  conflict_lane c m r here k t =
      let w = found ds c k in
      let own = own_of c k in
      sym (ap (λ (z : Place). z.lane) w.place) ∙ sym own.lane
      ∙ sym (setting.share m w.decision.call.act.method r w.decision.by here own.replica (subst (λ (z : Act). y.conflict m z.method ≡ true) w.act t))

  pub shares : ConflictsShareLanes (meaning_by x) (constraints y) (execution_of ds log)
  shares c d kc kd t =
      let w = found ds d kd in
      let own = own_of d kd in
      conflict_lane c (method_of (meaning_by x) (execution_of ds log) d) w.decision.by own.replica kc (sound.symmetric _ _ ∙ t)
      ∙ ap (λ (a : Act). y.lane a.method w.decision.by) w.act ∙ own.lane ∙ ap (λ (z : Place). z.lane) w.place

  module _ (d : Decision) (made : IsMade x y ds log d) where
    new : In (place_of d.call) (places_of ds) → ⊥
    new k =
        let below : d.call.number ≤ length (calls_of_lane d.call.lane ds) = kept.counted (place_of d.call) k in
        let is = made.number in
        omega arith

    split : (c : Place) → In c (places_of (ds ++ d ∷ [])) → In c (places_of ds) ⊎ (c ≡ place_of d.call)
    split c k = in_last c (place_of d.call) (places_of ds) (subst (λ l. In c l) (places_push ds d) k)

    pub act_new : of_place no_act (λ z. z.call.act) (ds ++ d ∷ []) (place_of d.call) ≡ d.call.act
    act_new = say_new no_act (λ z. z.call.act) ds d new

    pub decision : IsDecision (meaning_by x) (constraints y) (execution_of ds log) (execution_of (ds ++ d ∷ []) (pushed log d.by (place_of d.call ∷ []))) d.by (place_of d.call)
    decision = record {
      extends = record {
        act = λ c k. say_old no_act (λ z. z.call.act) ds d c k;
        lane = λ c k. refl;
        decider = λ c k. say_old 0 (λ z. z.by) ds d c k;
        before = λ c k. say_old [] (λ z. z.before) ds d c k;
      };
      decided = places_push ds d;
      new = new;
      decider = say_new 0 (λ z. z.by) ds d new;
      before = say_new [] (λ z. z.before) ds d new ∙ made.before;
      fits = subst (λ (a : Act). IsTrue (x.fits a)) (sym act_new) made.fits;
      permissible = subst (λ (a : Act). x.Permissible (end_of (meaning_by x) (execution_of ds log) (log d.by)) a) (sym act_new) made.permissible;
      conflicting = λ c k t.
          lane_logged d.by d.call.lane made.decides c k
          (conflict_lane c d.call.act.method d.by made.replica k
          (subst (λ (a : Act). y.conflict a.method (method_of (meaning_by x) (execution_of ds log) c) ≡ true) act_new t) ∙ made.lane);
      own_log = pushed_same log d.by (place_of d.call ∷ []);
      other_logs = λ q ne. pushed_other log d.by (place_of d.call ∷ []) q ne;
    }

    next_in_lane : IsNextInLane (execution_of ds log) (execution_of (ds ++ d ∷ []) (pushed log d.by (place_of d.call ∷ []))) d.by (place_of d.call) (λ c. c.number)
    next_in_lane = record {
      logged = λ c k q. lane_logged d.by d.call.lane made.decides c k q;
      next = made.number ∙ ap (λ n. n + 1) (lane_length d.call.lane ds);
    }

    count_later : (xs : List Place) (s : ℕ) → Within xs (places_of ds) →
        count_by (in_slot y (execution_of ds log) s) xs ≡ count_by (in_slot y (execution_of (ds ++ d ∷ []) (pushed log d.by (place_of d.call ∷ []))) s) xs
    count_later xs s known =
        count_by-same (in_slot y (execution_of ds log) s) (in_slot y (execution_of (ds ++ d ∷ []) (pushed log d.by (place_of d.call ∷ []))) s) xs
        (λ c k. ap (λ (a : Act). y.slot a.method (y.decider c.lane) == s) (sym (say_old no_act (λ z. z.call.act) ds d c (known c k))))

    log_known : (r : ℕ) → Within (log r) (places_of ds)
    log_known r = calls_after (meaning_by x) (constraints y) (execution_of ds log) [] (log r) (kept.well.logs_closed r)

    before_known : (f : Decision) → In f ds → Within f.before (places_of ds)
    before_known f k c j =
        let p = place_in ds f k in
        let w = found ds (place_of f.call) p in
        let same : w.decision ≡ f = kept.unique w.decision f w.stands k w.place in
        calls_after (meaning_by x) (constraints y) (execution_of ds log) [] _ (kept.well.before_closed (place_of f.call) p) c
        (subst (λ l. In c l) (sym (w.before ∙ ap (λ (z : Decision). z.before) same)) j)

    decided_own : (f : Decision) → In f (ds ++ d ∷ []) → Own x y (ds ++ d ∷ []) (pushed log d.by (place_of d.call ∷ [])) f
    decided_own f k = elim (in_last f d ds k) [
      | inl j ↦
          let own = kept.own f j in
          record {
            replica = own.replica;
            decides = own.decides;
            lane = own.lane;
            fits = own.fits;
            deps = own.deps ∙ map_same _ _ (y.needs f.call.act.method) (λ s. count_later f.before s (before_known f j));
          }
      | inr q ↦ subst (λ z. Own x y (ds ++ d ∷ []) (pushed log d.by (place_of d.call ∷ [])) z) (sym q) (record {
        replica = made.replica;
        decides = made.decides;
        lane = made.lane;
        fits = made.fits;
        deps = made.deps ∙ map_same _ _ (y.needs d.call.act.method)
            (λ s. count_later (log d.by) s (log_known d.by) ∙ ap (λ l. count_by (in_slot y (execution_of (ds ++ d ∷ []) (pushed log d.by (place_of d.call ∷ []))) s) l) (sym made.before));
      })
    ]

    lane_grown : (lane : ℕ) → length (calls_of_lane lane (ds ++ d ∷ [])) ≡ cond (in_lane lane (place_of d.call)) (length (calls_of_lane lane ds) + 1) (length (calls_of_lane lane ds))
    lane_grown lane = rw (lane_push lane ds d, length-append (calls_of_lane lane ds) (cond (in_lane lane (place_of d.call)) (d.call ∷ []) []))
        (by_test (in_lane lane (place_of d.call)))
      where
        by_test : (b : Bool) → length (calls_of_lane lane ds) + length (cond b (d.call ∷ []) []) ≡ cond b (length (calls_of_lane lane ds) + 1) (length (calls_of_lane lane ds))
        by_test true = refl
        by_test false = omega arith

    pub decision_kept : Kept x y (ds ++ d ∷ []) (pushed log d.by (place_of d.call ∷ []))
    decision_kept =
        let e = execution_of ds log in
        let later = execution_of (ds ++ d ∷ []) (pushed log d.by (place_of d.call ∷ [])) in
        let lanes = laws.decisions_keep_lanes (constraints y) e later d.by (place_of d.call) (λ c. c.number) kept.well decision next_in_lane kept.ordered kept.numbers in
        record {
          well = laws.decisions_keep (constraints y) e later d.by (place_of d.call) sound kept.well decision;
          ordered = lanes.0;
          numbers = lanes.1;
          counted = λ c k. rw (lane_grown c.lane) (elim (split c k) [
            | inl j ↦ more (in_lane c.lane (place_of d.call)) c.number (length (calls_of_lane c.lane ds)) (kept.counted c j)
            | inr q ↦ subst (λ (z : Place). z.number ≤ cond (in_lane z.lane (place_of d.call)) (length (calls_of_lane z.lane ds) + 1) (length (calls_of_lane z.lane ds))) (sym q)
                (rw (eq-eqb d.call.lane d.call.lane refl) (let is = made.number in omega arith))
          ]);
          unique = λ f g kf kg q. elim (in_last f d ds kf) [
            | inl jf ↦ elim (in_last g d ds kg) [
              | inl jg ↦ kept.unique f g jf jg q
              | inr eg ↦ absurd (new (subst (λ z. In z (places_of ds)) (q ∙ ap (λ (z : Decision). place_of z.call) eg) (place_in ds f jf)))
            ]
            | inr ef ↦ elim (in_last g d ds kg) [
              | inl jg ↦ absurd (new (subst (λ z. In z (places_of ds)) (sym q ∙ ap (λ (z : Decision). place_of z.call) ef) (place_in ds g jg)))
              | inr eg ↦ ef ∙ sym eg
            ]
          ];
          own = decided_own;
        }
      where
        more : (b : Bool) (v n : ℕ) → v ≤ n → v ≤ cond b (n + 1) n
        more true v n h = omega arith
        more false v n h = h

  -- a drain at r, from the log after the decision on; `base` are the logs before the turn
  pub drain_kept : (r : ℕ) (base : ℕ → List Place) (first all delivered : List Place) → ((q : ℕ) → log q ≡ pushed base r first q) → Within delivered (places_of ds) →
      Drains (meaning_by x) (constraints y) (execution_of ds log) delivered (base r ++ first) (base r ++ all) → Kept x y ds (pushed base r all)
  drain_kept r base first all delivered is known drains =
      let e = execution_of ds log in
      let later = execution_of ds (pushed base r all) in
      let from : log r ≡ base r ++ first = is r ∙ pushed_same base r first in
      let drain : IsDrain (meaning_by x) (constraints y) e later r delivered = record {
        extends = record { act = λ c k. refl; lane = λ c k. refl; decider = λ c k. refl; before = λ c k. refl };
        decided = refl;
        known = known;
        own_log = subst (λ l. Drains (meaning_by x) (constraints y) e delivered l (pushed base r all r)) (sym from)
            (subst (λ l. Drains (meaning_by x) (constraints y) e delivered (base r ++ first) l) (sym (pushed_same base r all)) drains);
        other_logs = λ q ne. pushed_other base r all q ne ∙ sym (is q ∙ pushed_other base r first q ne);
      } in
      let lanes = laws.drains_keep_lanes (constraints y) e later r delivered (λ c. c.number) kept.well drain kept.ordered kept.numbers in
      record {
        well = laws.drains_keep (constraints y) e later r delivered kept.well drain;
        ordered = lanes.0;
        numbers = lanes.1;
        counted = kept.counted;
        unique = kept.unique;
        own = λ d k. let own = kept.own d k in record { replica = own.replica; decides = own.decides; lane = own.lane; fits = own.fits; deps = own.deps };
      }
