-- A drain by numbers and counts is the drain by needs.
use Rattle.std.proofs.Common.{◌≡◌, ◌++◌, ◌↔◌, ℕ, ◌+◌, ◌≤◌, ◌<◌, Bool, true, false, cond, List, [], ◌∷◌, map, append_assoc, refl, sym, subst, ap, ◌∙◌, arith}
use Rattle.std.specs.Prelude.{Some, count_by, ◌==◌}
use Rattle.std.proofs.lemmas.List.{append-nil}
use Rattle.ham_state.specs.Content.{State}
use Rattle.ham_syntax.specs.declared.act.Act.{Act}
use Rattle.ham_syntax.specs.declared.act.Place.{Place}
use Rattle.ham_syntax.specs.declared.act.Call.{Call}
use Rattle.ham_plan.specs.Lists.{In, Within}
use Rattle.ham_laws.specs.Executions.{IsSound, Execution, Needs, IsClosed, state_after, end_of, method_of}
use Rattle.ham_laws.specs.Drain.{Drains, IsWaiting}
use Rattle.ham_laws.specs.Drain.Drains.{Settled, Next}
use Rattle.ham_laws.specs.Counts.{IsReadyByCounts}
use Rattle.ham_runs.specs.Facts.{constraints, IsSetting, Laws}
use Rattle.ham_turns.specs.Settings.{Rules, Setting, meaning_by}
use Rattle.ham_turns.specs.Words.{ReplicaWords, place_of, in_lane}
use Rattle.ham_turns.specs.Work.{at_place, logged_one}
use Rattle.ham_turns.specs.Ready.{IsWithin, IsReadyHere, LogsReady, IsSettled}
use Rattle.ham_turns.specs.Ready.LogsReady.{Stop, Log}
use Rattle.ham_runs.specs.Runs.{Decision, execution_of, in_slot, places}
use Rattle.ham_laws.proofs.Counts.{count_by-cons}
use Rattle.ham_laws.proofs.Bridge.{calls_after}
use Rattle.ham_laws.proofs.Keeping.{ready_closed}
use Rattle.ham_runs.proofs.Decisions.{places_of, place_in, found}
use Rattle.ham_runs.proofs.Kept.{Kept, shares}
use Rattle.ham_runs.proofs.Slots.{within_counts, counts_within}
use Rattle.ham_runs.proofs.Listed.{in_map, at_place_in, at_place_finds, place_of_call}

pub count_one : {X : Type 0} (t : X → Bool) (xs : List X) (z : X) → count_by t (xs ++ z ∷ []) ≡ cond (t z) (count_by t xs + 1) (count_by t xs)
count_one t [] z = count_by-cons t z [] ∙ by_test (t z)
  where
    by_test : (b : Bool) → cond b 1 0 + 0 ≡ cond b 1 0
    by_test true = refl
    by_test false = refl
count_one t (v ∷ vs) z = count_by-cons t v (vs ++ z ∷ []) ∙ rw (count_one t vs z, count_by-cons t v vs) (by_tests (cond (t v) 1 0) (t z) (count_by t vs))
  where
    by_tests : (a : ℕ) (b : Bool) (n : ℕ) → a + cond b (n + 1) n ≡ cond b (a + n + 1) (a + n)
    by_tests a true n = omega arith
    by_tests a false n = refl

pub state_one : (x : Rules) (e : Execution Place Act) (s : State) (xs : List Place) (z : Place) →
    state_after (meaning_by x) e s (xs ++ z ∷ []) ≡ x.update (e.act z) (state_after (meaning_by x) e s xs)
state_one x e s [] z = refl
state_one x e s (v ∷ vs) z = state_one x e (x.update (e.act v) s) vs z

-- over decisions and logs that keep what a run keeps, and the calls that came to a replica
module _ (x : Rules) (y : Setting) (setting : IsSetting x y) (sound : IsSound (meaning_by x) (constraints y)) (laws : Laws (meaning_by x)) (ds : List Decision) (logs : ℕ → List Place)
    (kept : Kept x y ds logs) (arrivals : List Call) (came : (c : Call) → In c arrivals → (d : Decision) × In d ds × (d.call ≡ c)) where
  -- the execution that the drain speaks of
  abbrev pub now : Execution Place Act
  now = execution_of ds logs

  -- the words of a replica while it drains, where it has logged `log`
  pub record IsMid (w : ReplicaWords) (log : List Place) : Type 0 where
    pub log_is : w.log ≡ log
    pub counts : (s : ℕ) → w.count_of s ≡ count_by (in_slot y now s) log
    pub state_is : w.state ≡ end_of (meaning_by x) now log
    pub kept_is : (c : Place) → w.kept c ≡ at_place arrivals c

  -- what is known of a call that came
  record IsKnown (c : Call) : Type 0 where
    decision : Decision
    stands : In decision ds
    call : decision.call ≡ c
    act : now.act (place_of c) ≡ c.act
    before : now.before (place_of c) ≡ decision.before
    delivered : In (place_of c) (places arrivals)
    decided : In (place_of c) (places_of ds)

  known : (c : Call) → at_place arrivals (place_of c) ≡ Some c → IsKnown c
  known c h =
      let k = (at_place_in arrivals (place_of c) c h).0 in
      let d = came c k in
      let dc : In (place_of c) (places_of ds) = subst (λ z. In (place_of z) (places_of ds)) d.2 (place_in ds d.0 d.1) in
      let w = found ds (place_of c) dc in
      let same : w.decision ≡ d.0 = kept.unique w.decision d.0 w.stands d.1 (w.place ∙ sym (ap place_of d.2)) in
      record {
        decision = d.0;
        stands = d.1;
        call = d.2;
        act = w.act ∙ ap (λ (z : Decision). z.call.act) same ∙ ap (λ (z : Call). z.act) d.2;
        before = w.before ∙ ap (λ (z : Decision). z.before) same;
        delivered = place_of_call arrivals c k;
        decided = dc;
      }

  exactly : (log : List Place) (p : Place) → IsClosed (meaning_by x) (constraints y) now log → In p (places_of ds) →
      IsReadyByCounts (meaning_by x) (constraints y) now (λ c. c.number) log p ↔ IsWaiting (meaning_by x) (constraints y) now log (places_of ds) p
  exactly log p closed decided =
      laws.ready_exactly (constraints y) now (λ c. c.number) kept.well kept.ordered (shares x y setting sound laws ds logs kept) kept.numbers log p closed decided

  -- the array of a known call: the counts in `before`
  array_of : (c : Call) → (k : IsKnown c) → c.deps ≡ map (λ s. count_by (in_slot y now s) (now.before (place_of c))) (y.needs c.act.method)
  array_of c k =
      let own = kept.own k.decision k.stands in
      sym (ap (λ (z : Call). z.deps) k.call) ∙ own.deps
      ∙ ap (λ (z : Call). map (λ s. count_by (in_slot y now s) k.decision.before) (y.needs z.act.method)) k.call
      ∙ ap (λ (l : List Place). map (λ s. count_by (in_slot y now s) l) (y.needs c.act.method)) (sym k.before)

  log_known : (log : List Place) → IsClosed (meaning_by x) (constraints y) now log → Within log (places_of ds)
  log_known log closed = calls_after (meaning_by x) (constraints y) now [] log closed

  before_known : (c : Call) → (k : IsKnown c) → Within (now.before (place_of c)) (places_of ds)
  before_known c k = calls_after (meaning_by x) (constraints y) now [] (now.before (place_of c)) (kept.well.before_closed (place_of c) k.decided)

  lane_there : (c : Call) → (k : IsKnown c) → c.lane < y.lanes
  lane_there c k =
      let own = kept.own k.decision k.stands in
      subst (λ l. l < y.lanes) (own.lane ∙ ap (λ (z : Call). z.lane) k.call)
      (setting.lane_exists k.decision.call.act.method k.decision.by (setting.fits_exist k.decision.call.act own.fits) own.replica)

  method_there : (c : Call) → (k : IsKnown c) → c.act.method < y.methods
  method_there c k = subst (λ (z : Call). z.act.method < y.methods) k.call (setting.fits_exist k.decision.call.act (kept.own k.decision k.stands).fits)

  pub ready_waits : (w : ReplicaWords) (log : List Place) (c : Call) → IsMid w log → IsClosed (meaning_by x) (constraints y) now log → IsReadyHere y w c →
      IsWaiting (meaning_by x) (constraints y) now log (places arrivals) (place_of c)
  ready_waits w log c at closed ready =
      let k = known c (sym (at.kept_is (place_of c)) ∙ ready.kept) in
      let method : method_of (meaning_by x) now (place_of c) ≡ c.act.method = ap (λ (a : Act). a.method) k.act in
      let within : IsWithin w (map (λ s. count_by (in_slot y now s) (now.before (place_of c))) (y.needs c.act.method)) (y.needs c.act.method) =
      subst (λ d. IsWithin w d (y.needs c.act.method)) (array_of c k) ready.counts in
      let both = (exactly log (place_of c) closed k.decided).0 (record {
        next = subst (λ l. c.number ≡ count_by (in_lane c.lane) l + 1) at.log_is ready.next;
        counts = λ m l dep.
            within_counts x y setting ds logs kept w log (now.before (place_of c)) c.act.method at.counts (log_known log closed) (before_known c k) within m l
            (subst (λ z. y.depends z m ≡ true) method dep);
      }) in
      record { came = k.delivered; new = both.new; needs = both.needs }

  pub waits_ready : (w : ReplicaWords) (log : List Place) (p : Place) → IsMid w log → IsClosed (meaning_by x) (constraints y) now log →
      IsWaiting (meaning_by x) (constraints y) now log (places arrivals) p → (c : Call) × (place_of c ≡ p) × IsReadyHere y w c
  waits_ready w log p at closed waits =
      let there = in_map place_of arrivals p waits.came in
      let f = at_place_finds arrivals there.0 there.1 in
      let c = f.0 in
      let place : place_of c ≡ p = f.2 ∙ sym there.2 in
      let found_here : at_place arrivals (place_of c) ≡ Some c = ap (λ z. at_place arrivals z) f.2 ∙ f.1 in
      let k = known c found_here in
      let method : method_of (meaning_by x) now (place_of c) ≡ c.act.method = ap (λ (a : Act). a.method) k.act in
      let counts = (exactly log (place_of c) closed k.decided).1
      (record {
        came = k.decided;
        new = λ j. waits.new (subst (λ z. In z log) place j);
        needs = λ u need. waits.needs u (subst (λ z. Needs (meaning_by x) (constraints y) now z u) place need);
      }) in (
        c,
        place,
        record {
          lane = lane_there c k;
          kept = at.kept_is (place_of c) ∙ found_here;
          next = subst (λ l. c.number ≡ count_by (in_lane c.lane) l + 1) (sym at.log_is) counts.next;
          counts = subst (λ d. IsWithin w d (y.needs c.act.method)) (sym (array_of c k))
              (counts_within x y setting ds logs kept w log (now.before (place_of c)) c.act.method
              (method_there c k) (λ m dep. (setting.depends_exist c.act.method m dep).1) at.counts (log_known log closed) (before_known c k)
              (λ m l dep. counts.counts m l (subst (λ z. y.depends z m ≡ true) (sym method) dep)));
        },
      )

  pub mid_one : (w : ReplicaWords) (log : List Place) (c : Call) → now.act (place_of c) ≡ c.act → IsMid w log → IsMid (logged_one x y w c) (log ++ place_of c ∷ [])
  mid_one w log c act at = record {
    log_is = ap (λ l. l ++ place_of c ∷ []) at.log_is;
    counts = λ s.
        ap (λ (a : Act). cond (y.slot a.method (y.decider c.lane) == s) (w.count_of s + 1) (w.count_of s)) (sym act)
        ∙ ap (λ k. cond (in_slot y now s (place_of c)) (k + 1) k) (at.counts s) ∙ sym (count_one (in_slot y now s) log (place_of c));
    state_is = ap (λ s. x.update c.act s) at.state_is ∙ ap (λ (a : Act). x.update a (end_of (meaning_by x) now log)) (sym act) ∙ sym (state_one x now x.opening log (place_of c));
    kept_is = at.kept_is;
  }

  pub drained : {w after : ReplicaWords} {calls : List Call} → LogsReady x y w calls after → IsSettled y after → (log : List Place) → IsMid w log → IsClosed (meaning_by x) (constraints y) now log →
      Drains (meaning_by x) (constraints y) now (places arrivals) log (log ++ places calls) × IsMid after (log ++ places calls)
  drained (Stop {w = w}) settled log at closed =
      rw (append-nil log) (Settled (λ p waits. let r = waits_ready w log p at closed waits in settled r.0 r.2), at)
  drained (Log {w = w} {after = after} {rest = rest} c ready least more) settled log at closed =
      let waits = ready_waits w log c at closed ready in
      let k = known c (sym (at.kept_is (place_of c)) ∙ ready.kept) in
      let closed' : IsClosed (meaning_by x) (constraints y) now (log ++ place_of c ∷ []) =
      ready_closed (meaning_by x) (constraints y) now log (place_of c) closed (record { came = k.decided; new = waits.new; needs = waits.needs }) in
      let r = drained more settled (log ++ place_of c ∷ []) (mid_one w log c k.act at) closed' in
      let r' = subst (λ l. Drains (meaning_by x) (constraints y) now (places arrivals) (log ++ place_of c ∷ []) l × IsMid after l) (append_assoc log (place_of c ∷ []) (places rest)) r in (
        Next (place_of c) waits (λ p waits'. let d = waits_ready w log p at closed waits' in subst (λ (z : Place). c.lane ≤ z.lane) d.1 (least d.0 d.2)) r'.0,
        r'.1,
      )

-- one call more: for a loop that drains
pub logs_push : (x : Rules) (y : Setting) {w v : ReplicaWords} {calls : List Call} → LogsReady x y w calls v → (c : Call) → IsReadyHere y v c →
    ((d : Call) → IsReadyHere y v d → c.lane ≤ d.lane) → LogsReady x y w (calls ++ c ∷ []) (logged_one x y v c)
logs_push x y Stop c ready least = Log c ready least Stop
logs_push x y (Log d rd ld more) c ready least = Log d rd ld (logs_push x y more c ready least)
