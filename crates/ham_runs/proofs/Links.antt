-- What the frames of a run tell is so; and the call that a turn decides has all that a decision owes.
use Rattle.std.proofs.Common.{◌≡◌, ◌≢◌, ℕ, ◌+◌, ◌≤◌, ◌<◌, Bool, true, false, cond, eqb, List, [], ◌∷◌, length, refl, sym, subst, ap, ◌∙◌, inl, inr, arith}
use Rattle.std.specs.Prelude.{Option, Some, None, IsTrue, not, nat_lt}
use Rattle.std.proofs.lemmas.Bool.{eqb-true, eq-eqb}
use Rattle.ham_syntax.specs.declared.act.Act.{Act}
use Rattle.ham_syntax.specs.declared.act.Place.{Place}
use Rattle.ham_syntax.specs.declared.act.Call.{Call}
use Rattle.ham_meaning.specs.declared.outcome.Outcome.{Outcome}
use Rattle.ham_meaning.specs.declared.outcome.Outcome.TheVariants.{Yes, Guard, Invariant}
use Rattle.ham_frame.specs.declared.frame.Ruling.{Ruling}
use Rattle.ham_frame.specs.declared.frame.Ruling.TheVariants as rulings
use Rattle.ham_turns.specs.declared.turn.Issued.TheVariants as issued
use Rattle.ham_frame.specs.declared.frame.Ruled.{Ruled}
use Rattle.ham_frame.specs.declared.frame.Frame.{Frame}
use Rattle.ham_frame.specs.declared.frame.Frame.TheVariants as frames
use Rattle.ham_frame.specs.declared.frame.Frame.TheVariants.{Hello, Ack, Request, Verdict, Bye}
use Rattle.ham_plan.specs.Lists.{In}
use Rattle.ham_turns.specs.Settings.{Rules, Setting, IsReplica}
use Rattle.ham_runs.specs.Facts.{IsSetting}
use Rattle.ham_turns.specs.Words.{ReplicaWords, Intake, ActComes, FrameComes, PartComes, Beat, numbered}
use Rattle.ham_turns.specs.Work.{lane_here, new_call, ruling_by, issued_by, made_issued, made_ruled, made_of, request_in, ruling_in}
use Rattle.ham_turns.specs.Refusals.{issue_refusal}
use Rattle.ham_runs.specs.Runs.{Note, Decision, log_of, decision_of, decisions, on_link, calls_of_lane, arrived, requests_of, rulings_of, verdict_of, words_of, MayTake}
use Rattle.ham_plan.proofs.Lists.{in_front, true_or_false}
use Rattle.ham_runs.proofs.Decisions.{numbered_in, numbered_push}
use Rattle.ham_runs.proofs.Kept.{Kept, IsMade}
use Rattle.ham_runs.proofs.Listed.{some_inj, none_some, lane_more}

-- what a frame on the link from one replica to another tells is so
abbrev pub IsSo : Setting → List Note → ℕ → ℕ → Frame → Type 0
IsSo y notes from to (Hello version digest sender of) = ⊥
IsSo y notes from to Bye = ⊥
IsSo y notes from to (frames.Call c) = (d : Decision) × In d (decisions notes) × (d.call ≡ c) × (d.by ≡ from)
IsSo y notes from to (Ack lane n) = (lane < y.lanes) × (y.decider lane ≡ to) × (n ≤ length (calls_of_lane lane (decisions notes)))
IsSo y notes from to (Request g n a) = (y.decider g ≡ to) × (numbered (requests_of notes from g) n ≡ Some a)
IsSo y notes from to (Verdict g n v) =
    (y.decider g ≡ from) × (d : Ruled) × (numbered (rulings_of notes from to g) n ≡ Some d) × (d.ruling ≡ v)

-- a request that the replica r may make to the group g
pub record IsForwarded (x : Rules) (y : Setting) (r g : ℕ) (a : Act) : Type 0 where
  pub replica : IsReplica y r
  pub exists : g < y.groups
  pub elsewhere : y.decider g ≢ r
  pub fits : IsTrue (x.fits a)
  pub lane : y.lane a.method r ≡ g

-- what the notes of a run keep
pub record RunKept (x : Rules) (y : Setting) (notes : List Note) : Type 0 where
  pub kept : Kept x y (decisions notes) (log_of notes)
  pub links : (from to : ℕ) (f : Frame) → In f (on_link notes from to) → IsSo y notes from to f
  pub came : (r : ℕ) (c : Call) → In c (arrived notes r) → (d : Decision) × In d (decisions notes) × (d.call ≡ c)
  pub asked : (r g n : ℕ) (a : Act) → numbered (requests_of notes r g) n ≡ Some a → IsForwarded x y r g a
  pub ruled : (r from g n : ℕ) (d : Ruled) → numbered (rulings_of notes r from g) n ≡ Some d → numbered (requests_of notes from g) n ≡ Some d.act
  pub told : (r g n : ℕ) (v : Ruling) → verdict_of notes r g n ≡ Some v →
      (d : Ruled) × (numbered (rulings_of notes (y.decider g) r g) n ≡ Some d) × (d.ruling ≡ v)

-- ---- an issue that is not refused

-- the refusals tested one after another
pub passes : {R : Type 0} (b : Bool) (why : R) (rest : Option R) → cond b (Some why) rest ≡ None → (b ≡ false) × (rest ≡ None)
passes true why rest h = absurd (none_some why (sym h))
passes false why rest h = (refl, h)

not_false : (b : Bool) → not b ≡ false → b ≡ true
not_false true h = refl
not_false false h = absurd (differ h)
  where
    differ : true ≡ false → ⊥
    differ h = cc

-- what the tests of an issue leave
pub record IsIssued (x : Rules) (y : Setting) (w : ReplicaWords) (r : ℕ) (a : Act) : Type 0 where
  pub exists : nat_lt a.method y.methods ≡ true
  pub fits : IsTrue (x.fits a)

pub issue_passed : (x : Rules) (y : Setting) (w : ReplicaWords) (r : ℕ) (a : Act) → issue_refusal x y w r a ≡ None → IsIssued x y w r a
issue_passed x y w r a h =
    let one = passes _ _ _ h in
    let two = passes _ _ _ one.1 in
    record { exists = not_false _ one.0; fits = not_false _ two.0 }

-- ---- what grows
module _ (earlier : List Note) (n : Note) where
  pub decisions_grow : (d : Decision) → In d (decisions earlier) → In d (decisions (n ∷ earlier))
  decisions_grow d k = in_front d (decisions earlier) (decision_of n.at (log_of earlier n.at) n.made) k

  pub requests_grow : (r g k : ℕ) (a : Act) → numbered (requests_of earlier r g) k ≡ Some a → numbered (requests_of (n ∷ earlier) r g) k ≡ Some a
  requests_grow r g k a h = elim (true_or_false (eqb n.at r)) [
    | inl t ↦ rw t (numbered_push (requests_of earlier r g) (request_in g n.took n.answer) k a h)
    | inr f ↦ rw f h
  ]

  pub rulings_grow : (r from g k : ℕ) (d : Ruled) → numbered (rulings_of earlier r from g) k ≡ Some d → numbered (rulings_of (n ∷ earlier) r from g) k ≡ Some d
  rulings_grow r from g k d h = elim (true_or_false (eqb n.at r)) [
    | inl t ↦ rw t (numbered_push (rulings_of earlier r from g) (ruling_in from g n.took n.ruled) k d h)
    | inr f ↦ rw f h
  ]

  pub so_later : (y : Setting) (from to : ℕ) (f : Frame) → IsSo y earlier from to f → IsSo y (n ∷ earlier) from to f
  so_later y from to (Hello version digest sender of) h = h
  so_later y from to Bye h = h
  so_later y from to (frames.Call c) h = (h.0, decisions_grow h.0 h.1, h.2, h.3)
  so_later y from to (Ack lane k) h =
      let more = lane_more lane (decisions earlier) (decision_of n.at (log_of earlier n.at) n.made) in
      let le = h.2 in
      (h.0, h.1, omega arith)
  so_later y from to (Request g k a) h = (h.0, requests_grow from g k a h.1)
  so_later y from to (Verdict g k v) h = (h.0, h.1, rulings_grow from to g k h.1 h.2, h.3)

-- ---- a call that is decided

-- an issue that decides a call is decided here, and allowed
pub made_issue : (here : Bool) (new : Call) (p : Place) (u : Outcome) (g n : ℕ) (c : Call) →
    made_issued new (cond here (issued_by p u) (issued.Forwarded g n)) ≡ Some c → (here ≡ true) × (u ≡ Yes) × (new ≡ c)
made_issue true new p Yes g n c h = (refl, refl, some_inj new c h)
made_issue true new p (Guard i) g n c h = absurd (none_some c h)
made_issue true new p (Invariant i) g n c h = absurd (none_some c h)
made_issue false new p u g n c h = absurd (none_some c h)

-- a request that decides a call is the next, and allowed
pub made_request : (next room : Bool) (new : Call) (number : ℕ) (u : Outcome) (c : Call) →
    made_ruled new (cond next (Some (cond room (ruling_by number u) rulings.Full)) None) ≡ Some c → (next ≡ true) × (u ≡ Yes) × (new ≡ c)
made_request true true new number Yes c h = (refl, refl, some_inj new c h)
made_request true true new number (Guard i) c h = absurd (none_some c h)
made_request true true new number (Invariant i) c h = absurd (none_some c h)
made_request true false new number u c h = absurd (none_some c h)
made_request false room new number u c h = absurd (none_some c h)

module _ (x : Rules) (y : Setting) (setting : IsSetting x y) (earlier : List Note) (kept : RunKept x y earlier) (r : ℕ) (here : IsReplica y r) where
  pub new_made : (lane : ℕ) (a : Act) → y.decider lane ≡ r → y.lane a.method r ≡ lane → IsTrue (x.fits a) → x.outcome (words_of x y earlier r).state a ≡ Yes →
      IsMade x y (decisions earlier) (log_of earlier) (record { call = new_call y (words_of x y earlier r) lane a; by = r; before = log_of earlier r })
  new_made lane a decides in_it fits allowed = record {
    before = refl;
    number = ap (λ b. length (cond b (calls_of_lane lane (decisions earlier)) []) + 1) (eq-eqb (y.decider lane) r decides);
    replica = here;
    decides = decides;
    lane = in_it;
    fits = fits;
    deps = refl;
    permissible = setting.permissible _ a allowed;
  }

  -- a request that came is for a lane that is decided here
  pub request_lane : (from g i : ℕ) (a : Act) → IsSo y earlier from r (Request g i a) → IsForwarded x y from g a × (y.lane a.method r ≡ g)
  request_lane from g i a so =
      let w = kept.asked from g i a so.1 in
      (w, setting.group a.method from r w.replica here (λ q. w.elsewhere (sym (ap y.decider w.lane) ∙ q)) ∙ w.lane)

  pub made_is : (took : Intake) (c : Call) → MayTake x y earlier r took → made_of x y (words_of x y earlier r) r took ≡ Some c →
      IsMade x y (decisions earlier) (log_of earlier) (record { call = c; by = r; before = log_of earlier r })
  made_is (ActComes a) c may h =
      let w = words_of x y earlier r in
      let l = lane_here y r a in
      let m = made_issue (eqb (y.decider l) r) (new_call y w l a) _ (x.outcome w.state a) _ _ c h in
      subst (λ z. IsMade x y (decisions earlier) (log_of earlier) (record { call = z; by = r; before = log_of earlier r })) m.2
      (new_made l a (eqb-true (y.decider l) r m.0) refl (issue_passed x y w r a may).fits m.1)
  made_is (FrameComes from k (Request g i a)) c may h =
      let w = words_of x y earlier r in
      let so : IsSo y earlier from r (Request g i a) = kept.links from r (Request g i a) (numbered_in (on_link earlier from r) k (Request g i a) may) in
      let asked = request_lane from g i a so in
      let m = made_request (eqb i (length (rulings_of earlier r from g) + 1)) _ (new_call y w g a) _ (x.outcome w.state a) c h in
      subst (λ z. IsMade x y (decisions earlier) (log_of earlier) (record { call = z; by = r; before = log_of earlier r })) m.2
      (new_made g a so.0 asked.1 asked.0.fits m.1)
  made_is (FrameComes from k (frames.Call d)) c may h = absurd (none_some c h)
  made_is (FrameComes from k (Verdict g i v)) c may h = absurd (none_some c h)
  made_is (FrameComes from k (Ack l i)) c may h = absurd (none_some c h)
  made_is (FrameComes from k (Hello version digest sender of)) c may h = absurd (none_some c h)
  made_is (FrameComes from k Bye) c may h = absurd (none_some c h)
  made_is (PartComes from k f) c may h = absurd (none_some c h)
  made_is Beat c may h = absurd (none_some c h)
