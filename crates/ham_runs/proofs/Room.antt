-- In a run no lane has more calls than it takes.
use Rattle.std.proofs.Common.{◌≡◌, ◌++◌, ℕ, ◌≤◌, ◌<◌, Bool, true, false, cond, eqb, List, [], ◌∷◌, length, length-append, append-nil, refl, sym, subst, ap, ◌∙◌, inl, inr, arith}
use Rattle.std.specs.Prelude.{Option, Some, None, nat_lt, nat_le, ◌&&◌, not}
use Rattle.std.proofs.lemmas.Bool.{eqb-true, eq-eqb, ltb-true, leb-false, and_cases}
use Rattle.ham_syntax.specs.declared.act.Act.{Act}
use Rattle.ham_syntax.specs.declared.act.Call.{Call}
use Rattle.ham_meaning.specs.declared.outcome.Outcome.{Outcome}
use Rattle.ham_meaning.specs.declared.outcome.Outcome.TheVariants.{Yes, Guard, Invariant}
use Rattle.ham_frame.specs.declared.frame.Ruling.TheVariants as rulings
use Rattle.ham_frame.specs.declared.frame.Frame.TheVariants as frames
use Rattle.ham_frame.specs.declared.frame.Frame.TheVariants.{Hello, Ack, Request, Verdict, Bye}
use Rattle.ham_turns.specs.Settings.{Rules, Setting}
use Rattle.ham_turns.specs.Words.{Intake, ActComes, FrameComes, PartComes, Beat, in_lane, place_of}
use Rattle.ham_turns.specs.Work.{lane_here, new_call, ruling_by, made_ruled, made_of}
use Rattle.ham_turns.specs.Refusals.{issue_refusal}
use Rattle.ham_plan.proofs.Lists.{true_or_false, in_front, in_back}
use Rattle.ham_plan.specs.Lists.{In}
use Rattle.ham_runs.specs.Facts.{IsGiven}
use Rattle.ham_runs.specs.Runs.{Note, Decision, log_of, decision_of, decisions, calls_of_lane, words_of, MayTake, IsNext, IsRun}
use Rattle.ham_runs.specs.Claims.{LanesHaveRoom}
use Rattle.ham_runs.proofs.Decisions.{lane_push}
use Rattle.ham_runs.proofs.Listed.{some_inj, none_some}
use Rattle.ham_runs.proofs.Links.{passes, made_issue}
use Rattle.ham_runs.proofs.Steps.{run_kept}

-- a request that decides a call finds room
made_room : (next room : Bool) (new : Call) (number : ℕ) (u : Outcome) (c : Call) →
    made_ruled new (cond next (Some (cond room (ruling_by number u) rulings.Full)) None) ≡ Some c → (room ≡ true) × (new ≡ c)
made_room true true new number Yes c h = (refl, some_inj new c h)
made_room true true new number (Guard i) c h = absurd (none_some c h)
made_room true true new number (Invariant i) c h = absurd (none_some c h)
made_room true false new number u c h = absurd (none_some c h)
made_room false room new number u c h = absurd (none_some c h)

module _ (x : Rules) (y : Setting) (earlier : List Note) (r : ℕ) where
  decided_length : (lane : ℕ) → y.decider lane ≡ r → length ((words_of x y earlier r).decided lane) ≡ length (calls_of_lane lane (decisions earlier))
  decided_length lane q = ap (λ b. length (cond b (calls_of_lane lane (decisions earlier)) [])) (eq-eqb (y.decider lane) r q)

  issue_room : (a : Act) → issue_refusal x y (words_of x y earlier r) r a ≡ None → eqb (y.decider (lane_here y r a)) r ≡ true →
      length ((words_of x y earlier r).decided (lane_here y r a)) < x.lane_limit
  issue_room a h here =
      let w = words_of x y earlier r in
      let one = passes (not (nat_lt a.method y.methods)) _ _ h in
      let two = passes (not (x.fits a)) _ _ one.1 in
      let three = passes (eqb (y.decider (lane_here y r a)) r && nat_le x.lane_limit (length (w.decided (lane_here y r a)))) _ _ two.1 in
      elim (and_cases (eqb (y.decider (lane_here y r a)) r) (nat_le x.lane_limit (length (w.decided (lane_here y r a)))) three.0) [
        | inl f ↦ absurd (differ (sym here ∙ f))
        | inr f ↦ leb-false x.lane_limit (length (w.decided (lane_here y r a))) f
      ]
    where
      differ : true ≡ false → ⊥
      differ q = cc

  -- a call that a turn decides finds room in its lane
  made_finds_room : (took : Intake) (c : Call) → MayTake x y earlier r took → made_of x y (words_of x y earlier r) r took ≡ Some c →
      y.decider c.lane ≡ r → length (calls_of_lane c.lane (decisions earlier)) < x.lane_limit
  made_finds_room (ActComes a) c may h own =
      let w = words_of x y earlier r in
      let l = lane_here y r a in
      let m = made_issue (eqb (y.decider l) r) (new_call y w l a) _ (x.outcome w.state a) _ _ c h in
      let there : l ≡ c.lane = ap (λ (z : Call). z.lane) m.2 in
      subst (λ k. k < x.lane_limit) (decided_length c.lane own) (subst (λ k. length (w.decided k) < x.lane_limit) there (issue_room a may m.0))
  made_finds_room (FrameComes from k (Request g i a)) c may h own =
      let w = words_of x y earlier r in
      let m = made_room _ (nat_lt (length (w.decided g)) x.lane_limit) (new_call y w g a) _ (x.outcome w.state a) c h in
      let there : g ≡ c.lane = ap (λ (z : Call). z.lane) m.1 in
      subst (λ k. k < x.lane_limit) (decided_length c.lane own) (subst (λ k. length (w.decided k) < x.lane_limit) there (ltb-true (length (w.decided g)) x.lane_limit m.0))
  made_finds_room (FrameComes from k (frames.Call d)) c may h own = absurd (none_some c h)
  made_finds_room (FrameComes from k (Verdict g i v)) c may h own = absurd (none_some c h)
  made_finds_room (FrameComes from k (Ack l i)) c may h own = absurd (none_some c h)
  made_finds_room (FrameComes from k (Hello version digest sender of)) c may h own = absurd (none_some c h)
  made_finds_room (FrameComes from k Bye) c may h own = absurd (none_some c h)
  made_finds_room (PartComes from k f) c may h own = absurd (none_some c h)
  made_finds_room Beat c may h own = absurd (none_some c h)

one_more : (room lane : ℕ) (ds : List Decision) (d : Decision) → length (calls_of_lane lane ds) ≤ room →
    (d.call.lane ≡ lane → length (calls_of_lane lane ds) < room) → length (calls_of_lane lane (ds ++ d ∷ [])) ≤ room
one_more room lane ds d h more = elim (true_or_false (in_lane lane (place_of d.call))) [
  | inl t ↦
      let q : calls_of_lane lane (ds ++ d ∷ []) ≡ calls_of_lane lane ds ++ d.call ∷ [] =
      lane_push lane ds d ∙ ap (λ b. calls_of_lane lane ds ++ cond b (d.call ∷ []) []) t in
      let less = more (eqb-true d.call.lane lane t) in
      let n = ap (λ (l : List Call). length l) q ∙ length-append (calls_of_lane lane ds) (d.call ∷ []) in
      omega arith
  | inr f ↦
      let q : calls_of_lane lane (ds ++ d ∷ []) ≡ calls_of_lane lane ds =
      lane_push lane ds d ∙ ap (λ b. calls_of_lane lane ds ++ cond b (d.call ∷ []) []) f ∙ append-nil (calls_of_lane lane ds) in
      subst (λ (l : List Call). length l ≤ room) (sym q) h
]

abbrev pub AreOwn : Setting → List Decision → Type 0
AreOwn y ds = (d : Decision) → In d ds → y.decider d.call.lane ≡ d.by

noted : (x : Rules) (y : Setting) (earlier : List Note) (n : Note) → IsNext x y earlier n →
    (AreOwn y (decisions earlier) → (lane : ℕ) → length (calls_of_lane lane (decisions earlier)) ≤ x.lane_limit) →
    (made : Option Call) → made ≡ made_of x y (words_of x y earlier n.at) n.at n.took →
    AreOwn y (decisions earlier ++ decision_of n.at (log_of earlier n.at) made) → (lane : ℕ) →
    length (calls_of_lane lane (decisions earlier ++ decision_of n.at (log_of earlier n.at) made)) ≤ x.lane_limit
noted x y earlier n next before None q mine lane = subst (λ l. length (calls_of_lane lane l) ≤ x.lane_limit) (sym (append-nil (decisions earlier)))
    (before (λ d k. mine d (in_front d (decisions earlier) [] k)) lane)
noted x y earlier n next before (Some c) q mine lane =
    let d : Decision = record { call = c; by = n.at; before = log_of earlier n.at } in
    one_more x.lane_limit lane (decisions earlier) d (before (λ z k. mine z (in_front z (decisions earlier) (d ∷ []) k)) lane)
    (λ at. subst (λ k. length (calls_of_lane k (decisions earlier)) < x.lane_limit) at
    (made_finds_room x y earlier n.at n.took c next.may (sym q) (mine d (in_back d (decisions earlier) (d ∷ []) (inl refl)))))

-- each lane has at most its room of calls, where each call is decided by the lane's decider
within_room : (x : Rules) (y : Setting) (notes : List Note) → IsRun x y notes →
    AreOwn y (decisions notes) → (lane : ℕ) → length (calls_of_lane lane (decisions notes)) ≤ x.lane_limit
within_room x y [] run own lane = omega arith
within_room x y (n ∷ earlier) run own lane =
    noted x y earlier n run.0 (λ mine k. within_room x y earlier run.1 mine k) n.made run.0.made own lane

pub lanes_have_room : (x : Rules) (y : Setting) → IsGiven x y → LanesHaveRoom x y
lanes_have_room x y given notes run lane =
    let kept = run_kept x y given.setting given.sound given.laws notes run in
    within_room x y notes run (λ d k. (kept.kept.own d k).decides) lane
