-- Each note keeps what a run keeps.
use Rattle.std.proofs.Common.{◌≡◌, ◌≢◌, ◌⊎◌, ◌++◌, ℕ, zero, suc, ◌+◌, ◌≤◌, ◌<◌, Bool, true, false, cond, eqb, ◌&&◌, List, [], ◌∷◌, map, take, drop, length, refl, sym, subst, ap, ◌∙◌, inl, inr}
use Rattle.std.specs.Prelude.{Option, Some, None, count_by}
use Rattle.std.proofs.lemmas.List.{append-nil}
use Rattle.std.proofs.lemmas.Bool.{eqb-true, eq-eqb, eqb-false, and_parts}
use Rattle.ham_syntax.specs.declared.act.Act.{Act}
use Rattle.ham_syntax.specs.declared.act.Place.{Place}
use Rattle.ham_syntax.specs.declared.act.Call.{Call}
use Rattle.ham_meaning.specs.declared.outcome.Outcome.{Outcome}
use Rattle.ham_meaning.specs.declared.outcome.Outcome.TheVariants.{Yes, Guard, Invariant}
use Rattle.ham_frame.specs.declared.frame.Ruling.{Ruling}
use Rattle.ham_frame.specs.declared.frame.Ruled.{Ruled}
use Rattle.ham_turns.specs.declared.turn.Out.{Out}
use Rattle.ham_turns.specs.declared.turn.Issued.TheVariants as issued
use Rattle.ham_turns.specs.declared.turn.Delivered.{Delivered}
use Rattle.ham_turns.specs.declared.turn.Delivered.TheVariants.{Fresh, Repeat, Noted, Early}
use Rattle.ham_turns.specs.declared.turn.What.TheVariants as whats
use Rattle.ham_frame.specs.declared.frame.Frame.{Frame}
use Rattle.ham_frame.specs.declared.frame.Frame.TheVariants as frames
use Rattle.ham_frame.specs.declared.frame.Frame.TheVariants.{Hello, Ack, Request, Verdict, Bye}
use Rattle.ham_plan.specs.Lists.{In}
use Rattle.ham_laws.specs.Executions.{IsSound, IsClosed, IsWellCoordinated}
use Rattle.ham_runs.specs.Facts.{constraints, IsSetting, Laws}
use Rattle.ham_turns.specs.Settings.{Rules, Setting, meaning_by}
use Rattle.ham_turns.specs.Words.{ReplicaWords, Intake, ActComes, FrameComes, PartComes, Beat, place_of, in_lane, numbered}
use Rattle.ham_turns.specs.Work.{lane_here, new_call, ruling_of, issued_by, answer_of, ruled_to, ruled_of, place_made, asked_by, request_in, ruled_as, ruling_in, verdict_in, first_of_two}
use Rattle.ham_turns.specs.Sends.{peers, decided_by, to_peers, back, due_calls, due_requests, due_to, sent_back, sent_issued, sent_by}
use Rattle.ham_turns.specs.Sends.{kept_ruling as ruling_kept}
use Rattle.ham_runs.specs.Runs.{Note, Decision, log_of, decision_of, decisions, execution, pushed, addressed, on_link, calls_of_lane, arrived, requests_of, rulings_of, verdict_of, decided_here, words_of, MayTake, places, IsNext, IsRun}
use Rattle.ham_plan.proofs.Lists.{in_back, in_parts, true_or_false}
use Rattle.ham_laws.proofs.Bridge.{calls_after}
use Rattle.ham_laws.proofs.Counts.{count_within, distinct}
use Rattle.ham_runs.proofs.Decisions.{places_of, lane_length, lane_in, numbered_last, numbered_split}
use Rattle.ham_runs.proofs.Kept.{pushed_same, Kept, drain_kept}
use Rattle.ham_runs.proofs.Listed.{some_inj, none_some, in_map, in_flat_map, in_take, in_drop, in_addressed, in_decided_by, in_open}
use Rattle.ham_runs.proofs.Links.{IsSo, IsForwarded, RunKept, issue_passed, requests_grow, rulings_grow, so_later}
use Rattle.ham_runs.proofs.Begun.{IsBegun, frame_so, came_later, delivered_known, mid_kept, start_kept}

-- ---- what the table says, by its tests

-- an issue is asked of another replica, or sends its call to the peers
issue_sent : (y : Setting) (r : ℕ) (a : Act) (made : Option Call) (here : Bool) (p : Place) (u : Outcome) (g k : ℕ) (it : Out) →
    In it (sent_issued y r a made (cond here (issued_by p u) (issued.Forwarded g k))) →
    In it (to_peers y r made) ⊎ ((here ≡ false) × (it ≡ record { to = y.decider g; frame = Request g k a }))
issue_sent y r a made true p Yes g k it j = inl j
issue_sent y r a made true p (Guard i) g k it j = absurd j
issue_sent y r a made true p (Invariant i) g k it j = absurd j
issue_sent y r a made false p u g k it (inl q) = inr (refl, q)
issue_sent y r a made false p u g k it (inr j) = absurd j

request_sent : (y : Setting) (w : ReplicaWords) (r from g i : ℕ) (a : Act) (d : Delivered) (ruled : Option Ruling) (made : Option Call) (log : List Place) (it : Out) →
    In it (sent_back y w r from (Request g i a) (whats.Delivered d) ruled made log) →
    In it (back from g i (ruling_kept (numbered (w.rulings from g) i))) ⊎ In it (to_peers y r made ++ back from g i ruled)
request_sent y w r from g i a Repeat ruled made log it j = inl j
request_sent y w r from g i a Fresh ruled made log it j = inr j
request_sent y w r from g i a Noted ruled made log it j = inr j
request_sent y w r from g i a Early ruled made log it j = inr j

back_ruled : (next : Bool) (from g i : ℕ) (v : Ruling) (it : Out) → In it (back from g i (cond next (Some v) None)) →
    (next ≡ true) × (it ≡ record { to = from; frame = Verdict g i v })
back_ruled true from g i v it (inl q) = (refl, q)
back_ruled true from g i v it (inr j) = absurd j
back_ruled false from g i v it j = absurd j

issue_asks : (here : Bool) (p : Place) (u : Outcome) (h k g : ℕ) (a : Act) →
    (asked_by g a (whats.Issued (cond here (issued_by p u) (issued.Forwarded h k))) ≡ []) ⊎
    ((here ≡ false) × (eqb h g ≡ true) × (asked_by g a (whats.Issued (cond here (issued_by p u) (issued.Forwarded h k))) ≡ a ∷ []))
issue_asks true p Yes h k g a = inl refl
issue_asks true p (Guard i) h k g a = inl refl
issue_asks true p (Invariant i) h k g a = inl refl
issue_asks false p u h k g a = elim (true_or_false (eqb h g)) [ inl t ↦ inr (refl, t, rw t refl) | inr f ↦ inl (rw f refl) ]

request_rules : (same next : Bool) (a : Act) (v : Ruling) →
    (cond same (ruled_as a (cond next (Some v) None)) [] ≡ []) ⊎
    ((same ≡ true) × (next ≡ true) × (cond same (ruled_as a (cond next (Some v) None)) [] ≡ record { act = a; ruling = v } ∷ []))
request_rules true true a v = inr (refl, refl, refl)
request_rules true false a v = inl refl
request_rules false next a v = inl refl

module _ (x : Rules) (y : Setting) (setting : IsSetting x y) (sound : IsSound (meaning_by x) (constraints y)) (laws : Laws (meaning_by x)) (earlier : List Note) (n : Note)
    (kept : RunKept x y earlier) (next : IsNext x y earlier n) where
  begun : IsBegun x y earlier n
  begun = record { replica = next.replica; may = next.may; made = next.made }

  pub decided_kept : Kept x y (decisions (n ∷ earlier)) (log_of (n ∷ earlier))
  decided_kept =
      drain_kept x y setting sound laws (decisions (n ∷ earlier)) (pushed (log_of earlier) n.at (place_made n.made)) (mid_kept x y setting sound laws earlier n kept begun)
      n.at (log_of earlier) (place_made n.made) n.logged (places (arrived (n ∷ earlier) n.at)) (λ q. refl)
      (delivered_known x y setting sound laws earlier n kept begun) next.logged

  -- a request that is ruled on now was the next, and has its ruling
  ruled_now : (from k g i : ℕ) (a : Act) (v : Ruling) → n.took ≡ FrameComes from k (Request g i a) → n.ruled ≡ Some v → i ≡ length (rulings_of earlier n.at from g) + 1 →
      numbered (rulings_of (n ∷ earlier) n.at from g) i ≡ Some (record { act = a; ruling = v })
  ruled_now from k g i a v te re q =
      rw (eq-eqb n.at n.at refl, te, re, eq-eqb from from refl, eq-eqb g g refl)
      (subst (λ z. numbered (rulings_of earlier n.at from g ++ record { act = a; ruling = v } ∷ []) z ≡ Some (record { act = a; ruling = v })) (sym q)
      (numbered_last (rulings_of earlier n.at from g) (record { act = a; ruling = v })))

  -- ---- a frame that is sent
  call_sent : (c : Call) → n.made ≡ Some c → IsSo y (n ∷ earlier) n.at 0 (frames.Call c)
  call_sent c e =
      let d : Decision = record { call = c; by = n.at; before = log_of earlier n.at } in
      (d, subst (λ m. In d (decisions earlier ++ decision_of n.at (log_of earlier n.at) m)) (sym e) (in_back d (decisions earlier) (d ∷ []) (inl refl)), refl, refl)

  peers_sent : (m : Option Call) → n.made ≡ m → (it : Out) → In it (to_peers y n.at m) → IsSo y (n ∷ earlier) n.at it.to it.frame
  peers_sent None e it k = absurd k
  peers_sent (Some c) e it k =
      let w = in_map (λ q. record { to = q; frame = frames.Call c }) (peers n.at y.replicas) it k in
      subst (λ z. IsSo y (n ∷ earlier) n.at z.to z.frame) (sym w.2) (call_sent c e)

  ack_sent : (c : Call) (from k : ℕ) → n.took ≡ FrameComes from k (frames.Call c) →
      IsSo y (n ∷ earlier) n.at from (Ack c.lane (count_by (in_lane c.lane) (log_of earlier n.at ++ n.logged)))
  ack_sent c from k te =
      let so = frame_so x y setting sound laws earlier n kept begun from k (frames.Call c) te in
      let own = kept.kept.own so.0 so.1 in
      let lane : so.0.call.lane ≡ c.lane = ap (λ z. z.lane) so.2 in
      let later = decided_kept in
      let closed : IsClosed (meaning_by x) (constraints y) (execution (n ∷ earlier)) (log_of earlier n.at ++ n.logged) =
      subst (λ l. IsClosed (meaning_by x) (constraints y) (execution (n ∷ earlier)) l) (pushed_same (log_of earlier) n.at n.logged) (later.well.logs_closed n.at) in (
        subst (λ l. l < y.lanes) (own.lane ∙ lane) (setting.lane_exists so.0.call.act.method so.0.by (setting.fits_exist so.0.call.act own.fits) own.replica),
        ap y.decider (sym lane) ∙ own.decides ∙ so.3,
        subst (λ z. count_by (in_lane c.lane) (log_of earlier n.at ++ n.logged) ≤ z) (sym (lane_length c.lane (decisions (n ∷ earlier))))
            (count_within (in_lane c.lane) (log_of earlier n.at ++ n.logged) (places_of (decisions (n ∷ earlier)))
            (distinct (meaning_by x) (constraints y) (execution (n ∷ earlier)) [] (log_of earlier n.at ++ n.logged) closed)
            (λ z j t. calls_after (meaning_by x) (constraints y) (execution (n ∷ earlier)) [] (log_of earlier n.at ++ n.logged) closed z j)),
      )

  again_sent : (from g i : ℕ) → y.decider g ≡ n.at → (m : Option Ruled) → numbered (rulings_of earlier n.at from g) i ≡ m → (it : Out) →
      In it (back from g i (ruling_kept m)) → IsSo y (n ∷ earlier) n.at it.to it.frame
  again_sent from g i leads None e it k = absurd k
  again_sent from g i leads (Some d) e it k = elim k [
    | inl q ↦ subst (λ z. IsSo y (n ∷ earlier) n.at z.to z.frame) (sym q)
        (so_later earlier n y n.at from (Verdict g i d.ruling) (leads, d, e, refl))
    | inr j ↦ absurd j
  ]

  -- a call of a lane that is decided here was decided here
  call_due : (lane : ℕ) (c : Call) (to : ℕ) → y.decider lane ≡ n.at → In c (calls_of_lane lane (decisions earlier)) → IsSo y earlier n.at to (frames.Call c)
  call_due lane c to leads k =
      let d = lane_in lane (decisions earlier) c k in
      let own = kept.kept.own d.0 d.1 in
      (d.0, d.1, sym d.2, sym own.decides ∙ ap y.decider (ap (λ (z : Call). z.lane) (sym d.2) ∙ d.3) ∙ leads)

  -- what is due of such a lane
  lane_due : (lane from : ℕ) (c : Call) → y.decider lane ≡ n.at → In c (take 16 (drop from (decided_here y n.at lane (calls_of_lane lane (decisions earlier))))) → In c (calls_of_lane lane (decisions earlier))
  lane_due lane from c leads k =
      subst (λ b. In c (cond b (calls_of_lane lane (decisions earlier)) [])) (eq-eqb (y.decider lane) n.at leads)
      (in_drop from (decided_here y n.at lane (calls_of_lane lane (decisions earlier))) c (in_take 16 (drop from (decided_here y n.at lane (calls_of_lane lane (decisions earlier)))) c k))

  -- a frame that a tick sends was so before
  tick_sent : (to : ℕ) (f : Frame) → In f (due_to y (words_of x y earlier n.at) n.at to) → IsSo y earlier n.at to f
  tick_sent to f k = elim (in_parts f _ _ k) [
    | inl j ↦
        let w = in_flat_map (due_calls (words_of x y earlier n.at) to) (decided_by y n.at y.lanes) f j in
        let lane = in_decided_by y n.at y.lanes w.0 w.1 in
        let c = in_map frames.Call _ f w.2 in
        subst (λ z. IsSo y earlier n.at to z) (sym c.2) (call_due w.0 c.0 to lane.1 (lane_due w.0 _ c.0 lane.1 c.1))
    | inr j ↦
        let w = in_flat_map (due_requests (words_of x y earlier n.at)) (decided_by y to y.groups) f j in
        let g = in_decided_by y to y.groups w.0 w.1 in
        let r = in_open w.0 (verdict_of earlier n.at w.0) [] (requests_of earlier n.at w.0) f (in_take 16 _ f w.2) in
        subst (λ z. IsSo y earlier n.at to z) (sym r.2) (g.1, r.3)
  ]

  -- ---- what is new
  answered : (took : Intake) → n.took ≡ took → n.answer ≡ answer_of x y (words_of x y earlier n.at) n.at took
  answered took te = next.answer ∙ ap (λ t. answer_of x y (words_of x y earlier n.at) n.at t) te

  request_now : (g i : ℕ) (a : Act) → n.took ≡ ActComes a → n.answer ≡ whats.Issued (issued.Forwarded g i) →
      numbered (requests_of (n ∷ earlier) n.at g) (length (requests_of earlier n.at g) + 1) ≡ Some a
  request_now g i a te ae =
      rw (eq-eqb n.at n.at refl, te, ae, eq-eqb g g refl) (numbered_last (requests_of earlier n.at g) a)

  -- the verdict that is sent with a ruling
  ruling_sent : (from k g i : ℕ) (a : Act) → n.took ≡ FrameComes from k (Request g i a) → y.decider g ≡ n.at →
      (it : Out) → In it (back from g i (ruled_to x (words_of x y earlier n.at) from (Request g i a))) → IsSo y (n ∷ earlier) n.at it.to it.frame
  ruling_sent from k g i a te leads it j =
      let w = words_of x y earlier n.at in
      let re : n.ruled ≡ ruled_to x w from (Request g i a) = next.ruled ∙ ap (λ t. ruled_of x w t) te in
      let new = back_ruled (eqb i (length (rulings_of earlier n.at from g) + 1)) from g i (ruling_of x w g a) it j in
      let is = eqb-true i (length (rulings_of earlier n.at from g) + 1) new.0 in
      subst (λ z. IsSo y (n ∷ earlier) n.at z.to z.frame) (sym new.1)
      (leads, record { act = a; ruling = ruling_of x w g a }, ruled_now from k g i a _ te (re ∙ ap (λ b. cond b (Some (ruling_of x w g a)) None) new.0) is, refl)

  sent_so : (took : Intake) → n.took ≡ took → (it : Out) →
      In it (sent_by y (words_of x y earlier n.at) n.at took (answer_of x y (words_of x y earlier n.at) n.at took) (ruled_of x (words_of x y earlier n.at) took) n.made (log_of earlier n.at ++ n.logged)) →
      IsSo y (n ∷ earlier) n.at it.to it.frame
  sent_so (ActComes a) te it k =
      let w = words_of x y earlier n.at in
      let l = lane_here y n.at a in
      elim (issue_sent y n.at a n.made (eqb (y.decider l) n.at) _ (x.outcome w.state a) l (length (w.requests l) + 1) it k) [
        | inl j ↦ peers_sent n.made refl it j
        | inr f ↦
            let ae : n.answer ≡ whats.Issued (issued.Forwarded l (length (w.requests l) + 1)) = rw f.0 at (answered (ActComes a) te) in
            subst (λ z. IsSo y (n ∷ earlier) n.at z.to z.frame) (sym f.1) (refl, request_now l (length (w.requests l) + 1) a te ae)
      ]
  sent_so (FrameComes from k (Request g i a)) te it j =
      let w = words_of x y earlier n.at in
      let so = frame_so x y setting sound laws earlier n kept begun from k (Request g i a) te in
      elim (request_sent y w n.at from g i a _ (ruled_to x w from (Request g i a)) n.made (log_of earlier n.at ++ n.logged) it j) [
        | inl z ↦ again_sent from g i so.0 (numbered (rulings_of earlier n.at from g) i) refl it z
        | inr z ↦ elim (in_parts it (to_peers y n.at n.made) _ z) [
          | inl u ↦ peers_sent n.made refl it u
          | inr u ↦ ruling_sent from k g i a te so.0 it u
        ]
      ]
  sent_so (FrameComes from k (frames.Call c)) te it j = elim j [
    | inl q ↦ subst (λ z. IsSo y (n ∷ earlier) n.at z.to z.frame) (sym q) (ack_sent c from k te)
    | inr z ↦ absurd z
  ]
  sent_so (FrameComes from k (Ack l i)) te it j = absurd j
  sent_so (FrameComes from k (Verdict g i v)) te it j = absurd j
  sent_so (FrameComes from k (Hello version digest sender of)) te it j = absurd j
  sent_so (FrameComes from k Bye) te it j = absurd j
  sent_so (PartComes from k f) te it j = absurd j
  sent_so Beat te it j =
      let w = in_flat_map (λ q. map (λ f. record { to = q; frame = f }) (due_to y (words_of x y earlier n.at) n.at q)) (peers n.at y.replicas) it j in
      let f = in_map (λ f. record { to = w.0; frame = f }) (due_to y (words_of x y earlier n.at) n.at w.0) it w.2 in
      subst (λ z. IsSo y (n ∷ earlier) n.at z.to z.frame) (sym f.2) (so_later earlier n y n.at w.0 f.0 (tick_sent w.0 f.0 f.1))

  links_later : (from to : ℕ) (f : Frame) → In f (on_link (n ∷ earlier) from to) → IsSo y (n ∷ earlier) from to f
  links_later from to f k = elim (true_or_false (eqb n.at from)) [
    | inl t ↦ elim (in_parts f (on_link earlier from to) (addressed to n.sent) (rw t at k)) [
      | inl j ↦ old j
      | inr j ↦
          let w = in_addressed to n.sent f j in
          let ws = words_of x y earlier n.at in
          let log = log_of earlier n.at ++ n.logged in
          let sent : n.sent ≡ sent_by y ws n.at n.took (answer_of x y ws n.at n.took) (ruled_of x ws n.took) n.made log =
          next.sent ∙ ap (λ z. sent_by y ws n.at n.took z n.ruled n.made log) next.answer ∙ ap (λ z. sent_by y ws n.at n.took (answer_of x y ws n.at n.took) z n.made log) next.ruled in
          let so : IsSo y (n ∷ earlier) n.at w.0.to w.0.frame = sent_so n.took refl w.0 (subst (λ l. In w.0 l) sent w.1) in
          subst (λ z. IsSo y (n ∷ earlier) z to f) (eqb-true n.at from t)
          (subst (λ z. IsSo y (n ∷ earlier) n.at z f) w.2 (subst (λ z. IsSo y (n ∷ earlier) n.at w.0.to z) (sym w.3) so))
    ]
    | inr t ↦ old (rw t at k)
  ]
    where
      old : In f (on_link earlier from to) → IsSo y (n ∷ earlier) from to f
      old j = so_later earlier n y from to f (kept.links from to f j)

  -- at most one request is made in a turn, and it may be made
  new_request : (g : ℕ) (took : Intake) → n.took ≡ took →
      (request_in g took (answer_of x y (words_of x y earlier n.at) n.at took) ≡ []) ⊎
      ((a : Act) × (request_in g took (answer_of x y (words_of x y earlier n.at) n.at took) ≡ a ∷ []) × IsForwarded x y n.at g a)
  new_request g (ActComes a) te =
      let w = words_of x y earlier n.at in
      let l = lane_here y n.at a in
      elim (issue_asks (eqb (y.decider l) n.at) (place_of (new_call y w l a)) (x.outcome w.state a) l (length (w.requests l) + 1) g a) [
        | inl none ↦ inl none
        | inr new ↦ inr (
          a,
          new.2,
          let q = eqb-true l g new.1 in
              let other : y.decider l ≢ n.at = eqb-false (y.decider l) n.at new.0 in
              record {
                replica = next.replica;
                exists = subst (λ z. z < y.groups) q (setting.group_exists a.method n.at next.replica other);
                elsewhere = subst (λ z. y.decider z ≢ n.at) q other;
                fits = (issue_passed x y w n.at a (subst (λ t. MayTake x y earlier n.at t) te next.may)).fits;
                lane = q;
              },
        )
      ]
  new_request g (FrameComes from k f) te = inl refl
  new_request g (PartComes from k f) te = inl refl
  new_request g Beat te = inl refl

  asked_later : (r g k : ℕ) (a : Act) → numbered (requests_of (n ∷ earlier) r g) k ≡ Some a → IsForwarded x y r g a
  asked_later r g k a h = elim (true_or_false (eqb n.at r)) [
    | inl t ↦
        let h' = subst (λ z. numbered (requests_of earlier r g ++ request_in g n.took z) k ≡ Some a) next.answer (rw t at h) in
        elim (new_request g n.took refl) [
          | inl e ↦ kept.asked r g k a (rw (append-nil (requests_of earlier r g)) at (rw e at h'))
          | inr w ↦ elim (numbered_split (requests_of earlier r g) w.0 k a (rw w.1 at h')) [
            | inl old ↦ kept.asked r g k a old
            | inr new ↦ subst (λ z. IsForwarded x y z g a) (eqb-true n.at r t) (subst (λ z. IsForwarded x y n.at g z) (sym new.0) w.2)
          ]
        ]
    | inr f ↦ kept.asked r g k a (rw f at h)
  ]

  -- at most one request is decided in a turn: the next
  new_ruling : (from g : ℕ) (took : Intake) → n.took ≡ took →
      (ruling_in from g took (ruled_of x (words_of x y earlier n.at) took) ≡ []) ⊎
      ((d : Ruled) × (ruling_in from g took (ruled_of x (words_of x y earlier n.at) took) ≡ d ∷ []) ×
      (numbered (requests_of earlier from g) (length (rulings_of earlier n.at from g) + 1) ≡ Some d.act))
  new_ruling from g (FrameComes q k (Request h i a)) te =
      let so = frame_so x y setting sound laws earlier n kept begun q k (Request h i a) te in
      elim (request_rules ((eqb q from) && (eqb h g)) (eqb i (length (rulings_of earlier n.at q h) + 1)) a (ruling_of x (words_of x y earlier n.at) h a)) [
        | inl none ↦ inl none
        | inr new ↦
            let w = and_parts (eqb q from) (eqb h g) new.0 in
            let is = eqb-true i (length (rulings_of earlier n.at q h) + 1) new.1 in
            inr (
              record { act = a; ruling = ruling_of x (words_of x y earlier n.at) h a },
              new.2,
              subst (λ z. numbered (requests_of earlier z g) (length (rulings_of earlier n.at z g) + 1) ≡ Some a) (eqb-true q from w.0)
                  (subst (λ z. numbered (requests_of earlier q z) (length (rulings_of earlier n.at q z) + 1) ≡ Some a) (eqb-true h g w.1)
                  (subst (λ z. numbered (requests_of earlier q h) z ≡ Some a) is so.1)),
            )
      ]
  new_ruling from g (ActComes a) te = inl refl
  new_ruling from g (FrameComes q k (frames.Call c)) te = inl refl
  new_ruling from g (FrameComes q k (Ack l i)) te = inl refl
  new_ruling from g (FrameComes q k (Verdict h i v)) te = inl refl
  new_ruling from g (FrameComes q k (Hello version digest sender of)) te = inl refl
  new_ruling from g (FrameComes q k Bye) te = inl refl
  new_ruling from g (PartComes q k f) te = inl refl
  new_ruling from g Beat te = inl refl

  ruled_later : (r from g k : ℕ) (d : Ruled) → numbered (rulings_of (n ∷ earlier) r from g) k ≡ Some d → numbered (requests_of (n ∷ earlier) from g) k ≡ Some d.act
  ruled_later r from g k d h = requests_grow earlier n from g k d.act (elim (true_or_false (eqb n.at r)) [
    | inl t ↦
        let h' = subst (λ z. numbered (rulings_of earlier r from g ++ ruling_in from g n.took z) k ≡ Some d) next.ruled (rw t at h) in
        elim (new_ruling from g n.took refl) [
          | inl e ↦ kept.ruled r from g k d (rw (append-nil (rulings_of earlier r from g)) at (rw e at h'))
          | inr w ↦ elim (numbered_split (rulings_of earlier r from g) w.0 k d (rw w.1 at h')) [
            | inl old ↦ kept.ruled r from g k d old
            | inr new ↦
                subst (λ z. numbered (requests_of earlier from g) k ≡ Some z.act) (sym new.0)
                (subst (λ z. numbered (requests_of earlier from g) z ≡ Some w.0.act) (ap (λ z. length (rulings_of earlier z from g) + 1) (eqb-true n.at r t) ∙ sym new.1) w.2)
          ]
        ]
    | inr f ↦ kept.ruled r from g k d (rw f at h)
  ])

  told_later : (r g k : ℕ) (v : Ruling) → verdict_of (n ∷ earlier) r g k ≡ Some v →
      (d : Ruled) × (numbered (rulings_of (n ∷ earlier) (y.decider g) r g) k ≡ Some d) × (d.ruling ≡ v)
  told_later r g k v h = elim (true_or_false (eqb n.at r)) [
    | inl t ↦ by_old (verdict_of earlier r g k) refl t (rw t at h)
    | inr f ↦ old (rw f at h)
  ]
    where
      old : verdict_of earlier r g k ≡ Some v → (d : Ruled) × (numbered (rulings_of (n ∷ earlier) (y.decider g) r g) k ≡ Some d) × (d.ruling ≡ v)
      old h = let w = kept.told r g k v h in (w.0, rulings_grow earlier n (y.decider g) r g k w.0 w.1, w.2)

      by_took : (took : Intake) → n.took ≡ took → n.at ≡ r → verdict_in g k took ≡ Some v →
          (d : Ruled) × (numbered (rulings_of (n ∷ earlier) (y.decider g) r g) k ≡ Some d) × (d.ruling ≡ v)
      by_took (FrameComes q j (Verdict p m u)) te here h = elim (true_or_false ((eqb p g) && (eqb m k))) [
        | inl t ↦
            let so = frame_so x y setting sound laws earlier n kept begun q j (Verdict p m u) te in
            let w = and_parts (eqb p g) (eqb m k) t in
            let pg = eqb-true p g w.0 in
            let mk = eqb-true m k w.1 in
            let same : u ≡ v = some_inj u v (rw t at h) in
            let at : numbered (rulings_of earlier (y.decider g) r g) k ≡ Some so.1 =
            subst (λ z. numbered (rulings_of earlier (y.decider g) r g) z ≡ Some so.1) mk
            (subst (λ z. numbered (rulings_of earlier (y.decider g) z g) m ≡ Some so.1) here
            (subst (λ z. numbered (rulings_of earlier (y.decider z) n.at z) m ≡ Some so.1) pg
            (subst (λ z. numbered (rulings_of earlier z n.at p) m ≡ Some so.1) (sym so.0) so.2))) in
            (so.1, rulings_grow earlier n (y.decider g) r g k so.1 at, so.3 ∙ same)
        | inr f ↦ absurd (none_some v (rw f at h))
      ]
      by_took (FrameComes q j (frames.Call c)) te here h = absurd (none_some v h)
      by_took (FrameComes q j (Ack l i)) te here h = absurd (none_some v h)
      by_took (FrameComes q j (Request p i a)) te here h = absurd (none_some v h)
      by_took (FrameComes q j (Hello version digest sender of)) te here h = absurd (none_some v h)
      by_took (FrameComes q j Bye) te here h = absurd (none_some v h)
      by_took (ActComes a) te here h = absurd (none_some v h)
      by_took (PartComes q j f) te here h = absurd (none_some v h)
      by_took Beat te here h = absurd (none_some v h)

      by_old : (u : Option Ruling) → verdict_of earlier r g k ≡ u → eqb n.at r ≡ true → first_of_two u (verdict_in g k n.took) ≡ Some v →
          (d : Ruled) × (numbered (rulings_of (n ∷ earlier) (y.decider g) r g) k ≡ Some d) × (d.ruling ≡ v)
      by_old (Some u) e t h = old (e ∙ h)
      by_old None e t h = by_took n.took refl (eqb-true n.at r t) h

  pub next_kept : RunKept x y (n ∷ earlier)
  next_kept = record { kept = decided_kept; links = links_later; came = came_later x y setting sound laws earlier n kept begun; asked = asked_later; ruled = ruled_later; told = told_later }

pub run_kept : (x : Rules) (y : Setting) (setting : IsSetting x y) (sound : IsSound (meaning_by x) (constraints y)) (laws : Laws (meaning_by x)) (notes : List Note) →
    IsRun x y notes → RunKept x y notes
run_kept x y setting sound laws [] run = record {
  kept = start_kept x y;
  links = λ from to f k. absurd k;
  came = λ r c k. absurd k;
  asked = λ r g n a h. absurd (none_numbered n a h);
  ruled = λ r from g n d h. absurd (none_numbered n d h);
  told = λ r g n v h. absurd (none_some v h);
}
  where
    none_numbered : {X : Type 0} (n : ℕ) (it : X) → numbered [] n ≡ Some it → ⊥
    none_numbered zero it h = none_some it h
    none_numbered (suc n) it h = none_some it h
run_kept x y setting sound laws (n ∷ earlier) run =
    next_kept x y setting sound laws earlier n (run_kept x y setting sound laws earlier run.1) run.0

-- every run is well-coordinated
pub run_coordinated : (x : Rules) (y : Setting) (notes : List Note) → IsSetting x y → IsSound (meaning_by x) (constraints y) → Laws (meaning_by x) → IsRun x y notes →
    IsWellCoordinated (meaning_by x) (constraints y) (execution notes)
run_coordinated x y notes setting sound laws run = (run_kept x y setting sound laws notes run).kept.well
