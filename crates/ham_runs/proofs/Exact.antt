-- What is decided here is forbidden exactly where the state forbids it.
use Rattle.std.proofs.Common.{◌≡◌, ◌≢◌, ◌↔◌, ℕ, ◌+◌, ◌<◌, Bool, true, false, cond, eqb, List, length, refl, sym, subst, ap, ◌∙◌}
use Rattle.std.specs.Prelude.{Some, None}
use Rattle.std.proofs.lemmas.Bool.{eqb-true, eq-eqb, lt-ltb, le-ltb}
use Rattle.ham_syntax.specs.declared.act.Act.{Act}
use Rattle.ham_syntax.specs.declared.act.Place.{Place}
use Rattle.ham_meaning.specs.declared.outcome.Outcome.{Outcome}
use Rattle.ham_meaning.specs.declared.outcome.Outcome.TheVariants.{Yes, Guard, Invariant}
use Rattle.ham_frame.specs.declared.frame.Ruling.{Ruling}
use Rattle.ham_frame.specs.declared.frame.Ruling.TheVariants as rulings
use Rattle.ham_turns.specs.declared.turn.Issued.TheVariants as issued
use Rattle.ham_turns.specs.declared.turn.Delivered.{Delivered}
use Rattle.ham_turns.specs.declared.turn.What.TheVariants as whats
use Rattle.ham_frame.specs.declared.frame.Frame.TheVariants as frames
use Rattle.ham_frame.specs.declared.frame.Frame.TheVariants.{Hello, Ack, Request, Verdict, Bye}
use Rattle.ham_turns.specs.Settings.{Rules, Setting}
use Rattle.ham_runs.specs.Facts.{IsSetting}
use Rattle.ham_turns.specs.Words.{Intake, ActComes, FrameComes, PartComes, Beat, place_of}
use Rattle.ham_turns.specs.Work.{lane_here, new_call, ruling_by, ruling_of, issued_by, answer_of, ruled_of}
use Rattle.ham_runs.specs.Runs.{Note, on_link, rulings_of, words_of, MayTake, IsNext}
use Rattle.ham_runs.specs.Headline.{IsNextRequest, IsAsked, DecidesExactly}
use Rattle.ham_runs.proofs.Decisions.{numbered_in}
use Rattle.ham_runs.proofs.Listed.{none_some}
use Rattle.ham_runs.proofs.Links.{RunKept}

-- an issue here is impermissible for what its outcome says, where that isn't Yes
issue_exact : (p : Place) (v u : Outcome) → whats.Issued (issued_by p v) ≡ whats.Issued (issued.Impermissible u) ↔ ((v ≡ u) × (u ≢ Yes))
issue_exact p Yes u = (λ h. absurd (apart h), λ w. absurd (w.1 (sym w.0)))
  where
    apart : whats.Issued (issued.Applied p) ≡ whats.Issued (issued.Impermissible u) → ⊥
    apart h = cc
issue_exact p (Guard g) u = (λ h. (inner h, λ q. absurd (apart (inner h ∙ q))), λ w. ap (λ z. whats.Issued (issued.Impermissible z)) w.0)
  where
    inner : whats.Issued (issued.Impermissible (Guard g)) ≡ whats.Issued (issued.Impermissible u) → Guard g ≡ u
    inner h = cc

    apart : Guard g ≡ Yes → ⊥
    apart h = cc
issue_exact p (Invariant g) u = (λ h. (inner h, λ q. absurd (apart (inner h ∙ q))), λ w. ap (λ z. whats.Issued (issued.Impermissible z)) w.0)
  where
    inner : whats.Issued (issued.Impermissible (Invariant g)) ≡ whats.Issued (issued.Impermissible u) → Invariant g ≡ u
    inner h = cc

    apart : Invariant g ≡ Yes → ⊥
    apart h = cc

-- rulings tell outcomes apart
ruling_exact : (i : ℕ) (v u : Outcome) → Some (ruling_by i v) ≡ Some (ruling_by i u) → v ≡ u
ruling_exact i Yes Yes h = refl
ruling_exact i Yes (Guard h') h = cc
ruling_exact i Yes (Invariant h') h = cc
ruling_exact i (Guard g) Yes h = cc
ruling_exact i (Guard g) (Guard h') h = cc
ruling_exact i (Guard g) (Invariant h') h = cc
ruling_exact i (Invariant g) Yes h = cc
ruling_exact i (Invariant g) (Guard h') h = cc
ruling_exact i (Invariant g) (Invariant h') h = cc

issued_here : (here : Bool) (p : Place) (v u : Outcome) (g n : ℕ) → whats.Issued (cond here (issued_by p v) (issued.Forwarded g n)) ≡ whats.Issued (issued.Impermissible u) → here ≡ true
issued_here true p v u g n h = refl
issued_here false p v u g n h = absurd (apart h)
  where
    apart : whats.Issued (issued.Forwarded g n) ≡ whats.Issued (issued.Impermissible u) → ⊥
    apart h = cc

not_issued : (d : Delivered) (u : Outcome) → whats.Delivered d ≡ whats.Issued (issued.Impermissible u) → ⊥
not_issued d u h = cc

next_ruled : (next : Bool) (v u : Ruling) → cond next (Some v) None ≡ Some u → next ≡ true
next_ruled true v u h = refl
next_ruled false v u h = absurd (none_some u h)

module _ (x : Rules) (y : Setting) (setting : IsSetting x y) (earlier : List Note) (n : Note) (kept : RunKept x y earlier) (next : IsNext x y earlier n) where
  answered : (took : Intake) → n.took ≡ took → n.answer ≡ answer_of x y (words_of x y earlier n.at) n.at took
  answered took te = next.answer ∙ ap (λ t. answer_of x y (words_of x y earlier n.at) n.at t) te

  ruled : (took : Intake) → n.took ≡ took → n.ruled ≡ ruled_of x (words_of x y earlier n.at) took
  ruled took te = next.ruled ∙ ap (λ t. ruled_of x (words_of x y earlier n.at) t) te

  ruled_next : (q : IsNextRequest earlier n) → n.ruled ≡ Some (ruling_of x (words_of x y earlier n.at) q.group q.act)
  ruled_next q =
      ruled (FrameComes q.from q.which (Request q.group q.number q.act)) q.took
      ∙ ap (λ b. cond b (Some (ruling_of x (words_of x y earlier n.at) q.group q.act)) None) (eq-eqb q.number (length (rulings_of earlier n.at q.from q.group) + 1) q.next)

  only_here : (u : Outcome) → n.answer ≡ whats.Issued (issued.Impermissible u) → (took : Intake) → n.took ≡ took → (a : Act) × (n.took ≡ ActComes a) × (y.decider (lane_here y n.at a) ≡ n.at)
  only_here u h (ActComes a) te =
      (a, te, eqb-true (y.decider (lane_here y n.at a)) n.at (issued_here (eqb (y.decider (lane_here y n.at a)) n.at) _ (x.outcome (words_of x y earlier n.at).state a) u _ _ (sym (answered (ActComes a) te) ∙ h)))
  only_here u h (FrameComes from k (Request g i a)) te = absurd (not_issued _ u (sym (answered _ te) ∙ h))
  only_here u h (FrameComes from k (frames.Call c)) te = absurd (not_issued _ u (sym (answered _ te) ∙ h))
  only_here u h (FrameComes from k (Ack l i)) te = absurd (not_issued _ u (sym (answered _ te) ∙ h))
  only_here u h (FrameComes from k (Verdict g i v)) te = absurd (not_issued _ u (sym (answered _ te) ∙ h))
  only_here u h (FrameComes from k (Hello version digest sender of)) te = absurd (not_issued _ u (sym (answered _ te) ∙ h))
  only_here u h (FrameComes from k Bye) te = absurd (not_issued _ u (sym (answered _ te) ∙ h))
  only_here u h (PartComes from k f) te = absurd (torn (sym (answered _ te) ∙ h))
    where
      torn : whats.Torn ≡ whats.Issued (issued.Impermissible u) → ⊥
      torn h = cc
  only_here u h Beat te = absurd (ticked (sym (answered _ te) ∙ h))
    where
      ticked : whats.Ticked ≡ whats.Issued (issued.Impermissible u) → ⊥
      ticked h = cc

  only_next : (v : Ruling) → n.ruled ≡ Some v → (took : Intake) → n.took ≡ took → IsNextRequest earlier n
  only_next v h (FrameComes from k (Request g i a)) te = record {
    from = from;
    which = k;
    group = g;
    number = i;
    act = a;
    took = te;
    next = eqb-true i (length (rulings_of earlier n.at from g) + 1) (next_ruled (eqb i (length (rulings_of earlier n.at from g) + 1)) _ v (sym (ruled _ te) ∙ h));
  }
  only_next v h (FrameComes from k (frames.Call c)) te = absurd (none_some v (sym (ruled _ te) ∙ h))
  only_next v h (FrameComes from k (Ack l i)) te = absurd (none_some v (sym (ruled _ te) ∙ h))
  only_next v h (FrameComes from k (Verdict g i u)) te = absurd (none_some v (sym (ruled _ te) ∙ h))
  only_next v h (FrameComes from k (Hello version digest sender of)) te = absurd (none_some v (sym (ruled _ te) ∙ h))
  only_next v h (FrameComes from k Bye) te = absurd (none_some v (sym (ruled _ te) ∙ h))
  only_next v h (ActComes a) te = absurd (none_some v (sym (ruled _ te) ∙ h))
  only_next v h (PartComes from k f) te = absurd (none_some v (sym (ruled _ te) ∙ h))
  only_next v h Beat te = absurd (none_some v (sym (ruled _ te) ∙ h))

  asked : (q : IsNextRequest earlier n) → IsAsked y earlier n q
  asked q =
      let f = Request q.group q.number q.act in
      let so = kept.links q.from n.at f (numbered_in (on_link earlier q.from n.at) q.which f (subst (λ t. MayTake x y earlier n.at t) q.took next.may)) in
      record { asked = so.1; lane = (kept.asked q.from q.group q.number q.act so.1).lane; decides = so.0 }

  pub decides_exactly : DecidesExactly x y earlier n
  decides_exactly =
      let w = words_of x y earlier n.at in
      record {
        issue = λ a u te here.
            let l = lane_here y n.at a in
            let is : n.answer ≡ whats.Issued (issued_by (place_of (new_call y w l a)) (x.outcome w.state a)) =
            answered (ActComes a) te
            ∙ ap (λ b. whats.Issued (cond b (issued_by (place_of (new_call y w l a)) (x.outcome w.state a)) (issued.Forwarded l (length (w.requests l) + 1)))) (eq-eqb (y.decider l) n.at here) in
            let exact = issue_exact (place_of (new_call y w l a)) (x.outcome w.state a) u in
            let out = setting.outcome w.state a u in
            (λ h. let so = exact.0 (sym is ∙ h) in (out.0 so.0, so.1), λ so. is ∙ exact.1 (out.1 so.0, so.1));
        only_here = λ u h. only_here u h n.took refl;
        request = λ q calls u same room.
            let is : n.ruled ≡ Some (ruling_by (calls + 1) (x.outcome w.state q.act)) =
            ruled_next q
            ∙ ap (λ b. Some (cond b (ruling_by (length (w.decided q.group) + 1) (x.outcome w.state q.act)) rulings.Full))
            (lt-ltb (length (w.decided q.group)) x.lane_limit (subst (λ z. z < x.lane_limit) same room))
            ∙ ap (λ z. Some (ruling_by (z + 1) (x.outcome w.state q.act))) (sym same) in
            let out = setting.outcome w.state q.act u in
            (λ h. out.0 (ruling_exact (calls + 1) (x.outcome w.state q.act) u (sym is ∙ h)), λ so. is ∙ ap (λ z. Some (ruling_by (calls + 1) z)) (out.1 so));
        full = λ q room.
            ruled_next q
            ∙ ap (λ b. Some (cond b (ruling_by (length (w.decided q.group) + 1) (x.outcome w.state q.act)) rulings.Full)) (le-ltb (length (w.decided q.group)) x.lane_limit room);
        always = λ q. (ruling_of x w q.group q.act, ruled_next q);
        asked = asked;
        only_next = λ v h. only_next v h n.took refl;
      }
