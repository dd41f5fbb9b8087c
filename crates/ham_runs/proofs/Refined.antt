-- A turn of a replica that keeps the words is the next note of the run.
use Rattle.std.proofs.Common.{◌≡◌, ◌≢◌, ◌++◌, ℕ, false, eqb, List, [], ◌∷◌, append_assoc, refl, sym, subst, ap, ◌∙◌, inl, inr}
use Rattle.std.specs.Prelude.{Option, Some, None, count_by, ◌==◌}
use Rattle.std.proofs.lemmas.List.{append-nil}
use Rattle.std.proofs.lemmas.Bool.{eqb-true, eq-eqb, ne_eqb}
use Rattle.ham_state.specs.Content.{State}
use Rattle.ham_syntax.specs.declared.act.Act.{Act}
use Rattle.ham_syntax.specs.declared.act.Place.{Place}
use Rattle.ham_syntax.specs.declared.act.Call.{Call}
use Rattle.ham_plan.specs.Lists.{In, Within}
use Rattle.ham_laws.specs.Executions.{IsSound, IsClosed, state_after}
use Rattle.ham_laws.specs.Drain.{Drains, IsWaiting}
use Rattle.ham_runs.specs.Facts.{constraints, IsSetting, Laws, IsGiven}
use Rattle.ham_turns.specs.Settings.{Rules, Setting, meaning_by, IsReplica}
use Rattle.ham_turns.specs.Words.{ReplicaWords, Intake, place_of}
use Rattle.ham_turns.specs.Work.{call_in, place_made, decided_after, logged_one, logged_made, taken, own_work}
use Rattle.ham_turns.specs.Ready.{IsReadyHere, LogsReady, DrainsHere}
use Rattle.ham_turns.specs.Ready.LogsReady.{Stop, Log}
use Rattle.ham_runs.specs.Runs.{Note, Decision, no_act, of_place, decision_of, decided_here, calls_of_lane, execution, decided_execution, in_slot, log_of, decisions, arrived, pushed, places, words_of, MayTake, IsNext, IsRun}
use Rattle.ham_runs.specs.Next.{note_by}
use Rattle.ham_runs.specs.Claims.{GoesOn, TurnsRefine}
use Rattle.ham_plan.proofs.Lists.{true_or_false}
use Rattle.ham_laws.proofs.Bridge.{calls_after}
use Rattle.ham_laws.proofs.Lanes.{count_by-same}
use Rattle.ham_runs.proofs.Decisions.{places_of, say_old, lane_push}
use Rattle.ham_runs.proofs.Kept.{pushed_same, act_new}
use Rattle.ham_runs.proofs.Listed.{at_place_push}
use Rattle.ham_runs.proofs.Links.{RunKept}
use Rattle.ham_runs.proofs.Begun.{IsBegun, came_later, made_so, mid_kept}
use Rattle.ham_runs.proofs.Steps.{run_kept}
use Rattle.ham_runs.proofs.Drained.{IsMid, mid_one, ready_waits, drained}

-- ---- what the decisions so far say stays
module _ (earlier : List Note) (n : Note) where
  say_same : {B : Type 0} (none : B) (say : Decision → B) (c : Place) → In c (places_of (decisions earlier)) → of_place none say (decisions (n ∷ earlier)) c ≡ of_place none say (decisions earlier) c
  say_same {B} none say c k = by_made n.made refl
    where
      by_made : (m : Option Call) → n.made ≡ m → of_place none say (decisions (n ∷ earlier)) c ≡ of_place none say (decisions earlier) c
      by_made None e = rw e (rw (append-nil (decisions earlier)) refl)
      by_made (Some d) e = rw e (say_old none say (decisions earlier) (record { call = d; by = n.at; before = log_of earlier n.at }) c k)

  pub act_same : (c : Place) → In c (places_of (decisions earlier)) → (execution (n ∷ earlier)).act c ≡ (execution earlier).act c
  act_same c k = say_same no_act (λ d. d.call.act) c k

  pub before_same : (c : Place) → In c (places_of (decisions earlier)) → (execution (n ∷ earlier)).before c ≡ (execution earlier).before c
  before_same c k = say_same [] (λ d. d.before) c k

module _ (x : Rules) (y : Setting) (setting : IsSetting x y) (sound : IsSound (meaning_by x) (constraints y)) (laws : Laws (meaning_by x)) (earlier : List Note) (n : Note)
    (kept : RunKept x y earlier) (begun : IsBegun x y earlier n) where
  -- the drain of the note, at a log
  abbrev pub IsAt : ReplicaWords → List Place → Type 0
  IsAt w log = IsMid x y setting sound laws (decisions (n ∷ earlier)) (pushed (log_of earlier) n.at (place_made n.made)) (mid_kept x y setting sound laws earlier n kept begun) (arrived (n ∷ earlier) n.at) (came_later x y setting sound laws earlier n kept begun n.at) w log

  one_at : (w : ReplicaWords) (log : List Place) (c : Call) → (execution (n ∷ earlier)).act (place_of c) ≡ c.act → IsAt w log → IsAt (logged_one x y w c) (log ++ place_of c ∷ [])
  one_at w log c act at = mid_one x y setting sound laws (decisions (n ∷ earlier)) (pushed (log_of earlier) n.at (place_made n.made)) (mid_kept x y setting sound laws earlier n kept begun) (arrived (n ∷ earlier) n.at) (came_later x y setting sound laws earlier n kept begun n.at) w log c act at

  pub drained_at : {w after : ReplicaWords} {calls : List Call} → DrainsHere x y w calls after → (log : List Place) → IsAt w log → IsClosed (meaning_by x) (constraints y) (decided_execution n earlier) log →
      Drains (meaning_by x) (constraints y) (decided_execution n earlier) (places (arrived (n ∷ earlier) n.at)) log (log ++ places calls) × IsAt after (log ++ places calls)
  drained_at drains log at closed = drained x y setting sound laws (decisions (n ∷ earlier)) (pushed (log_of earlier) n.at (place_made n.made)) (mid_kept x y setting sound laws earlier n kept begun) (arrived (n ∷ earlier) n.at) (came_later x y setting sound laws earlier n kept begun n.at) drains.0 drains.1 log at closed

  pub waits_at : (w : ReplicaWords) (log : List Place) (c : Call) → IsAt w log → IsClosed (meaning_by x) (constraints y) (decided_execution n earlier) log → IsReadyHere y w c →
      IsWaiting (meaning_by x) (constraints y) (decided_execution n earlier) log (places (arrived (n ∷ earlier) n.at)) (place_of c)
  waits_at w log c at closed ready = ready_waits x y setting sound laws (decisions (n ∷ earlier)) (pushed (log_of earlier) n.at (place_made n.made)) (mid_kept x y setting sound laws earlier n kept begun) (arrived (n ∷ earlier) n.at) (came_later x y setting sound laws earlier n kept begun n.at) w log c at closed ready

  log_known : (r : ℕ) → Within (log_of earlier r) (places_of (decisions earlier))
  log_known r = calls_after (meaning_by x) (constraints y) (execution earlier) [] (log_of earlier r) (kept.kept.well.logs_closed r)

  state_same : (s : State) (xs : List Place) → Within xs (places_of (decisions earlier)) → state_after (meaning_by x) (execution (n ∷ earlier)) s xs ≡ state_after (meaning_by x) (execution earlier) s xs
  state_same s [] h = refl
  state_same s (it ∷ xs) h =
      ap (λ (a : Act). state_after (meaning_by x) (execution (n ∷ earlier)) (x.update a s) xs) (act_same earlier n it (h it (inl refl)))
      ∙ state_same (x.update ((execution earlier).act it) s) xs (λ z k. h z (inr k))

  counts_same : (s : ℕ) (xs : List Place) → Within xs (places_of (decisions earlier)) → count_by (in_slot y (execution (n ∷ earlier)) s) xs ≡ count_by (in_slot y (execution earlier) s) xs
  counts_same s xs h =
      count_by-same (in_slot y (execution (n ∷ earlier)) s) (in_slot y (execution earlier) s) xs
      (λ z k. ap (λ (a : Act). y.slot a.method (y.decider z.lane) == s) (act_same earlier n z (h z k)))

  -- the calls of a lane, where another replica decides it
  decided_elsewhere : (q l : ℕ) → q ≢ n.at → decided_here y q l (calls_of_lane l (decisions (n ∷ earlier))) ≡ decided_here y q l (calls_of_lane l (decisions earlier))
  decided_elsewhere q l ne = by_made n.made refl
    where
      by_made : (m : Option Call) → n.made ≡ m → decided_here y q l (calls_of_lane l (decisions (n ∷ earlier))) ≡ decided_here y q l (calls_of_lane l (decisions earlier))
      by_made None e = rw e (rw (append-nil (decisions earlier)) refl)
      by_made (Some c) e =
          let made = made_so x y setting sound laws earlier n kept begun c e in
          rw (e, lane_push l (decisions earlier) (record { call = c; by = n.at; before = log_of earlier n.at }))
          (elim (true_or_false (eqb c.lane l)) [
            | inl t ↦
                let other : y.decider l ≢ q = λ k. ne (sym k ∙ ap y.decider (sym (eqb-true c.lane l t)) ∙ made.decides) in
                rw (ne_eqb (y.decider l) q other) refl
            | inr f ↦ rw (f, append-nil (calls_of_lane l (decisions earlier))) refl
          ])

  decided_now : (l : ℕ) → decided_after l (decided_here y n.at l (calls_of_lane l (decisions earlier))) n.made ≡ decided_here y n.at l (calls_of_lane l (decisions (n ∷ earlier)))
  decided_now l = by_made n.made refl
    where
      by_made : (m : Option Call) → n.made ≡ m → decided_after l (decided_here y n.at l (calls_of_lane l (decisions earlier))) n.made ≡ decided_here y n.at l (calls_of_lane l (decisions (n ∷ earlier)))
      by_made None e = rw e (rw (append-nil (decisions earlier)) refl)
      by_made (Some c) e =
          let made = made_so x y setting sound laws earlier n kept begun c e in
          rw (e, lane_push l (decisions earlier) (record { call = c; by = n.at; before = log_of earlier n.at }))
          (elim (true_or_false (eqb c.lane l)) [
            | inl t ↦ rw (t, eq-eqb (y.decider l) n.at (ap y.decider (sym (eqb-true c.lane l t)) ∙ made.decides)) refl
            | inr f ↦ rw (f, append-nil (calls_of_lane l (decisions earlier))) refl
          ])

  pub others_same : (q : ℕ) → q ≢ n.at → words_of x y earlier q ≡ words_of x y (n ∷ earlier) q
  others_same q ne =
      let off : eqb n.at q ≡ false = ne_eqb n.at q (λ k. ne (sym k)) in
      let log : log_of earlier q ≡ log_of (n ∷ earlier) q = rw off refl in
      λ i. record {
        state = (sym (state_same x.opening (log_of earlier q) (log_known q)) ∙ ap (λ l. state_after (meaning_by x) (execution (n ∷ earlier)) x.opening l) log) i;
        log = log i;
        count_of = λ s. (sym (counts_same s (log_of earlier q) (log_known q)) ∙ ap (λ z. count_by (in_slot y (execution (n ∷ earlier)) s) z) log) i;
        decided = λ l. sym (decided_elsewhere q l ne) i;
        kept = λ c. by_test c off i;
        requests = λ g. by_requests g off i;
        verdict = λ g k. by_verdict g k off i;
        rulings = λ f g. by_rulings f g off i;
        acked = λ l p. by_acked l p off i;
      }
    where
      by_test : (c : Place) → eqb n.at q ≡ false → (words_of x y earlier q).kept c ≡ (words_of x y (n ∷ earlier) q).kept c
      by_test c off = rw off refl

      by_requests : (g : ℕ) → eqb n.at q ≡ false → (words_of x y earlier q).requests g ≡ (words_of x y (n ∷ earlier) q).requests g
      by_requests g off = rw off refl

      by_verdict : (g k : ℕ) → eqb n.at q ≡ false → (words_of x y earlier q).verdict g k ≡ (words_of x y (n ∷ earlier) q).verdict g k
      by_verdict g k off = rw off refl

      by_rulings : (f g : ℕ) → eqb n.at q ≡ false → (words_of x y earlier q).rulings f g ≡ (words_of x y (n ∷ earlier) q).rulings f g
      by_rulings f g off = rw off refl

      by_acked : (l p : ℕ) → eqb n.at q ≡ false → (words_of x y earlier q).acked l p ≡ (words_of x y (n ∷ earlier) q).acked l p
      by_acked l p off = rw off refl

  -- the words after the replica's own work
  abbrev base : ReplicaWords
  base = taken (words_of x y earlier n.at) n.took n.answer n.ruled n.made

  base_mid : IsAt base (log_of earlier n.at)
  base_mid = record {
    log_is = refl;
    counts = λ s. sym (counts_same s (log_of earlier n.at) (log_known n.at));
    state_is = sym (state_same x.opening (log_of earlier n.at) (log_known n.at));
    kept_is = λ c. rw (eq-eqb n.at n.at refl, at_place_push (arrived earlier n.at) (call_in n.took) c) refl;
  }

  own_mid : IsAt (logged_made x y base n.made) (log_of earlier n.at ++ place_made n.made)
  own_mid = by_made n.made refl
    where
      by_made : (m : Option Call) → n.made ≡ m → IsAt (logged_made x y base n.made) (log_of earlier n.at ++ place_made n.made)
      by_made None e =
          subst (λ m. IsAt (logged_made x y base m) (log_of earlier n.at ++ place_made m)) (sym e)
          (rw (append-nil (log_of earlier n.at)) base_mid)
      by_made (Some c) e =
          let made = made_so x y setting sound laws earlier n kept begun c e in
          let act : (execution (n ∷ earlier)).act (place_of c) ≡ c.act =
          subst (λ m. of_place no_act (λ z. z.call.act) (decisions earlier ++ decision_of n.at (log_of earlier n.at) m) (place_of c) ≡ c.act) (sym e)
          (act_new x y setting sound laws (decisions earlier) (log_of earlier) kept.kept (record { call = c; by = n.at; before = log_of earlier n.at }) made) in
          subst (λ m. IsAt (logged_made x y base m) (log_of earlier n.at ++ place_made m)) (sym e)
          (one_at base (log_of earlier n.at) c act base_mid)

  own_closed : IsClosed (meaning_by x) (constraints y) (decided_execution n earlier) (log_of earlier n.at ++ place_made n.made)
  own_closed =
      let mid = mid_kept x y setting sound laws earlier n kept begun in
      subst (λ l. IsClosed (meaning_by x) (constraints y) (decided_execution n earlier) l) (pushed_same (log_of earlier) n.at (place_made n.made)) (mid.well.logs_closed n.at)

  -- the words after a drain
  pub after_same : (after : ReplicaWords) (calls : List Call) → n.logged ≡ place_made n.made ++ places calls → DrainsHere x y (logged_made x y base n.made) calls after →
      after ≡ words_of x y (n ∷ earlier) n.at
  after_same after calls logged drains =
      let at = (drained_at drains (log_of earlier n.at ++ place_made n.made) own_mid own_closed).1 in
      let log : (log_of earlier n.at ++ place_made n.made) ++ places calls ≡ log_of (n ∷ earlier) n.at =
      append_assoc (log_of earlier n.at) (place_made n.made) (places calls) ∙ ap (λ l. log_of earlier n.at ++ l) (sym logged) ∙ sym (pushed_same (log_of earlier) n.at n.logged) in
      λ i. record {
        state = (at.state_is ∙ ap (λ l. state_after (meaning_by x) (execution (n ∷ earlier)) x.opening l) log) i;
        log = (at.log_is ∙ log) i;
        count_of = λ s. (at.counts s ∙ ap (λ z. count_by (in_slot y (execution (n ∷ earlier)) s) z) log) i;
        decided = λ l. (ap (λ f. f l) (drain_decided drains.0 ∙ made_decided base n.made) ∙ decided_now l) i;
        kept = λ c. at.kept_is c i;
        requests = λ g. (ap (λ f. f g) (drain_requests drains.0 ∙ made_requests base n.made) ∙ now_requests g) i;
        verdict = λ g k. (ap (λ f. f g k) (drain_verdict drains.0 ∙ made_verdict base n.made) ∙ now_verdict g k) i;
        rulings = λ f g. (ap (λ h. h f g) (drain_rulings drains.0 ∙ made_rulings base n.made) ∙ now_rulings f g) i;
        acked = λ l p. (ap (λ f. f l p) (drain_acked drains.0 ∙ made_acked base n.made) ∙ now_acked l p) i;
      }
    where
      drain_decided : {w u : ReplicaWords} {cs : List Call} → LogsReady x y w cs u → u.decided ≡ w.decided
      drain_decided Stop = refl
      drain_decided (Log c ready least more) = drain_decided more

      made_decided : (w : ReplicaWords) (m : Option Call) → (logged_made x y w m).decided ≡ w.decided
      made_decided w None = refl
      made_decided w (Some c) = refl

      drain_requests : {w u : ReplicaWords} {cs : List Call} → LogsReady x y w cs u → u.requests ≡ w.requests
      drain_requests Stop = refl
      drain_requests (Log c ready least more) = drain_requests more

      made_requests : (w : ReplicaWords) (m : Option Call) → (logged_made x y w m).requests ≡ w.requests
      made_requests w None = refl
      made_requests w (Some c) = refl

      drain_verdict : {w u : ReplicaWords} {cs : List Call} → LogsReady x y w cs u → u.verdict ≡ w.verdict
      drain_verdict Stop = refl
      drain_verdict (Log c ready least more) = drain_verdict more

      made_verdict : (w : ReplicaWords) (m : Option Call) → (logged_made x y w m).verdict ≡ w.verdict
      made_verdict w None = refl
      made_verdict w (Some c) = refl

      drain_rulings : {w u : ReplicaWords} {cs : List Call} → LogsReady x y w cs u → u.rulings ≡ w.rulings
      drain_rulings Stop = refl
      drain_rulings (Log c ready least more) = drain_rulings more

      made_rulings : (w : ReplicaWords) (m : Option Call) → (logged_made x y w m).rulings ≡ w.rulings
      made_rulings w None = refl
      made_rulings w (Some c) = refl

      drain_acked : {w u : ReplicaWords} {cs : List Call} → LogsReady x y w cs u → u.acked ≡ w.acked
      drain_acked Stop = refl
      drain_acked (Log c ready least more) = drain_acked more

      made_acked : (w : ReplicaWords) (m : Option Call) → (logged_made x y w m).acked ≡ w.acked
      made_acked w None = refl
      made_acked w (Some c) = refl

      now_requests : (g : ℕ) → base.requests g ≡ (words_of x y (n ∷ earlier) n.at).requests g
      now_requests g = rw (eq-eqb n.at n.at refl) refl

      now_verdict : (g k : ℕ) → base.verdict g k ≡ (words_of x y (n ∷ earlier) n.at).verdict g k
      now_verdict g k = rw (eq-eqb n.at n.at refl) refl

      now_rulings : (f g : ℕ) → base.rulings f g ≡ (words_of x y (n ∷ earlier) n.at).rulings f g
      now_rulings f g = rw (eq-eqb n.at n.at refl) refl

      now_acked : (l p : ℕ) → base.acked l p ≡ (words_of x y (n ∷ earlier) n.at).acked l p
      now_acked l p = rw (eq-eqb n.at n.at refl) refl

-- a turn that keeps the words
module _ (x : Rules) (y : Setting) (setting : IsSetting x y) (sound : IsSound (meaning_by x) (constraints y)) (laws : Laws (meaning_by x)) where
  turn_refined : (earlier : List Note) (r : ℕ) (took : Intake) (calls : List Call) (after : ReplicaWords) → IsRun x y earlier → IsReplica y r → MayTake x y earlier r took →
      DrainsHere x y (own_work x y (words_of x y earlier r) r took) calls after → GoesOn x y earlier (note_by x y (words_of x y earlier r) r took calls) after
  turn_refined earlier r took calls after run here may drains =
      let n : Note = note_by x y (words_of x y earlier r) r took calls in
      let kept = run_kept x y setting sound laws earlier run in
      let begun : IsBegun x y earlier n = record { replica = here; may = may; made = refl } in
      let d = (drained_at x y setting sound laws earlier n kept begun drains (log_of earlier r ++ place_made n.made) (own_mid x y setting sound laws earlier n kept begun) (own_closed x y setting sound laws earlier n kept begun)).0 in
      let next : IsNext x y earlier n = record {
        replica = here;
        may = may;
        answer = refl;
        ruled = refl;
        made = refl;
        logged = subst (λ l. Drains (meaning_by x) (constraints y) (decided_execution n earlier) (places (arrived (n ∷ earlier) r)) (log_of earlier r ++ place_made n.made) l)
            (append_assoc (log_of earlier r) (place_made n.made) (places calls)) d;
        sent = refl;
      } in
      record {
        run = (next, run);
        own = after_same x y setting sound laws earlier n kept begun after calls refl drains;
        others = others_same x y setting sound laws earlier n kept begun;
      }

  pub refined : (earlier : List Note) (r : ℕ) (took : Intake) (calls : List Call) (w after : ReplicaWords) → IsRun x y earlier → IsReplica y r → MayTake x y earlier r took →
      w ≡ words_of x y earlier r → DrainsHere x y (own_work x y w r took) calls after → GoesOn x y earlier (note_by x y w r took calls) after
  refined earlier r took calls w after run here may same =
      subst (λ z. DrainsHere x y (own_work x y z r took) calls after → GoesOn x y earlier (note_by x y z r took calls) after) (sym same)
      (λ drains. turn_refined earlier r took calls after run here may drains)

pub turns_refine : (x : Rules) (y : Setting) → IsGiven x y → TurnsRefine x y
turns_refine x y given = refined x y given.setting given.sound given.laws
