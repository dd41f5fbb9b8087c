-- No delivery of a run is refused.
use Rattle.std.proofs.Common.{◌≡◌, ℕ, ◌≤◌, ◌<◌, Bool, true, cond, ◌&&◌, List, [], ◌∷◌, ◌++◌, length, refl, sym, subst, ap, ◌∙◌}
use Rattle.std.specs.Prelude.{Option, Some, None, IsTrue, nat_eq, nat_le}
use Rattle.std.specs.Cmp.Lexicographic.{pointwise}
use Rattle.std.proofs.lemmas.List.{length-map}
use Rattle.std.proofs.lemmas.Bool.{eq-eqb, lt-ltb, le-leb}
use Rattle.ham_syntax.specs.declared.act.Act.{Act}
use Rattle.ham_syntax.specs.declared.act.Call.{Call}
use Rattle.ham_frame.specs.declared.frame.Ruling.{Ruling}
use Rattle.ham_frame.specs.declared.frame.Ruling.TheVariants as rulings
use Rattle.ham_frame.specs.declared.frame.Ruled.{Ruled}
use Rattle.ham_frame.specs.declared.frame.Frame.{Frame}
use Rattle.ham_frame.specs.declared.frame.Frame.TheVariants as frames
use Rattle.ham_frame.specs.declared.frame.Frame.TheVariants.{Hello, Ack, Request, Verdict, Bye}
use Rattle.ham_turns.specs.declared.turn.DeliverRefusal.TheVariants as deliver
use Rattle.ham_turns.specs.Settings.{Rules, Setting, IsReplica}
use Rattle.ham_runs.specs.Facts.{IsSetting}
use Rattle.ham_turns.specs.Words.{place_of, numbered}
use Rattle.ham_turns.specs.Work.{at_place}
use Rattle.ham_turns.specs.Refusals.{same_act, same_call, same_ruling, first_of, calls_differ, requests_differ, verdicts_differ, deliver_refusal}
use Rattle.ham_runs.specs.Runs.{Note, Decision, on_link, arrived, requests_of, rulings_of, verdict_of, words_of}
use Rattle.ham_runs.proofs.Decisions.{numbered_in, numbered_within}
use Rattle.ham_runs.proofs.Listed.{some_inj, at_place_in}
use Rattle.ham_runs.proofs.Links.{IsSo, RunKept}

-- ---- what is equal passes the tests
numbers_alike : (xs : List ℕ) → pointwise nat_eq xs xs ≡ true
numbers_alike [] = refl
numbers_alike (n ∷ ns) = rw (eq-eqb n n refl) (numbers_alike ns)

acts_alike : (a b : Act) → a ≡ b → same_act a b ≡ true
acts_alike a b q = subst (λ z. same_act a z ≡ true) q (rw (eq-eqb a.method a.method refl, numbers_alike a.args) refl)

calls_alike : (c d : Call) → c ≡ d → same_call c d ≡ true
calls_alike c d q = subst (λ z. same_call c z ≡ true) q (rw (eq-eqb c.lane c.lane refl, eq-eqb c.number c.number refl, acts_alike c.act c.act refl, numbers_alike c.deps) refl)

rulings_alike : (v u : Ruling) → v ≡ u → same_ruling v u ≡ true
rulings_alike v u q = subst (λ z. same_ruling v z ≡ true) q (itself v)
  where
    itself : (z : Ruling) → same_ruling z z ≡ true
    itself (rulings.Applied n) = eq-eqb n n refl
    itself (rulings.Guard n) = eq-eqb n n refl
    itself (rulings.Invariant n) = eq-eqb n n refl
    itself rulings.Full = refl

both : (a b : Bool) → a ≡ true → b ≡ true → (a && b) ≡ true
both a b h k = rw (h, k) refl

-- a test that passes is no refusal
goes_on : {R : Type 0} (b : Bool) (why : R) (rest : Option R) → b ≡ true → rest ≡ None → cond b rest (Some why) ≡ None
goes_on b why rest h k = rw h k

module _ (x : Rules) (y : Setting) (setting : IsSetting x y) (notes : List Note) (kept : RunKept x y notes) (r from : ℕ) where
  -- what is known of a call that was sent
  record IsSent (c : Call) : Type 0 where
    replica : IsReplica y from
    decides : y.decider c.lane ≡ from
    lane : y.lane c.act.method from ≡ c.lane
    fits : IsTrue (x.fits c.act)
    deps : length c.deps ≡ length (y.needs c.act.method)

  sent_call : (c : Call) → IsSo y notes from r (frames.Call c) → IsSent c
  sent_call c so =
      let own = kept.kept.own so.0 so.1 in
      subst (λ z. IsSent z) so.2 (record {
        replica = subst (λ z. IsReplica y z) so.3 own.replica;
        decides = own.decides ∙ so.3;
        lane = subst (λ z. y.lane so.0.call.act.method z ≡ so.0.call.lane) so.3 own.lane;
        fits = own.fits;
        deps = ap length own.deps ∙ length-map (y.needs so.0.call.act.method) _;
      })

  call_kept : (c : Call) → IsSo y notes from r (frames.Call c) → (k : Option Call) → at_place (arrived notes r) (place_of c) ≡ k → first_of (calls_differ c k) ≡ None
  call_kept c so None h = refl
  call_kept c so (Some d) h =
      let w = at_place_in (arrived notes r) (place_of c) d h in
      let e = kept.came r d w.0 in
      let same = kept.kept.unique so.0 e.0 so.1 e.1 (ap place_of so.2 ∙ sym w.1 ∙ sym (ap place_of e.2)) in
      goes_on (same_call c d) _ None (calls_alike c d (sym so.2 ∙ ap (λ (z : Decision). z.call) same ∙ e.2)) refl

  request_kept : (g n : ℕ) (a : Act) → IsSo y notes from r (Request g n a) → (k : Option Ruled) → numbered (rulings_of notes r from g) n ≡ k → first_of (requests_differ g n a k) ≡ None
  request_kept g n a so None h = refl
  request_kept g n a so (Some d) h =
      goes_on (same_act a d.act) _ None (acts_alike a d.act (some_inj a d.act (sym so.1 ∙ kept.ruled r from g n d h))) refl

  verdict_alike : (g n : ℕ) (v u : Ruling) → IsSo y notes from r (Verdict g n v) → verdict_of notes r g n ≡ Some u → v ≡ u
  verdict_alike g n v u so h =
      let w = kept.told r g n u h in
      let same : so.1 ≡ w.0 = some_inj so.1 w.0 (sym so.2 ∙ subst (λ z. numbered (rulings_of notes z r g) n ≡ Some w.0) so.0 w.1) in
      sym so.3 ∙ ap (λ (z : Ruled). z.ruling) same ∙ w.2

  pub accepted : (f : Frame) → IsSo y notes from r f → deliver_refusal x y (words_of x y notes r) r from f ≡ None
  accepted (Hello version digest sender of) so = absurd so
  accepted Bye so = absurd so
  accepted (frames.Call c) so =
      let w = sent_call c so in
      let there = setting.fits_exist c.act w.fits in
      let lane : c.lane < y.lanes = subst (λ z. z < y.lanes) w.lane (setting.lane_exists c.act.method from there w.replica) in
      goes_on _ _ _ (both _ _ (lt-ltb c.lane y.lanes lane) (eq-eqb (y.decider c.lane) from w.decides))
      (goes_on _ _ _ (both _ _ (lt-ltb c.act.method y.methods there) (eq-eqb (y.lane c.act.method from) c.lane w.lane))
      (goes_on _ _ _ w.fits
      (goes_on _ _ _ (eq-eqb (length c.deps) (length (y.needs c.act.method)) w.deps)
      (call_kept c so (at_place (arrived notes r) (place_of c)) refl))))
  accepted (Ack lane n) so =
      goes_on _ _ _ (both _ _ (lt-ltb lane y.lanes so.0) (eq-eqb (y.decider lane) r so.1))
      (goes_on _ _ _ (le-leb n (length ((words_of x y notes r).decided lane)) (rw (eq-eqb (y.decider lane) r so.1) so.2)) refl)
  accepted (Request g n a) so =
      let w = kept.asked from g n a so.1 in
      goes_on _ _ _ (both _ _ (lt-ltb g y.groups w.exists) (eq-eqb (y.decider g) r so.0))
      (goes_on _ _ _ (both _ _ (lt-ltb a.method y.methods (setting.fits_exist a w.fits)) (eq-eqb (y.lane a.method from) g w.lane))
      (goes_on _ _ _ w.fits (request_kept g n a so (numbered (rulings_of notes r from g) n) refl)))
  accepted (Verdict g n v) so =
      let asked = kept.ruled from r g n so.1 so.2 in
      let known : n ≤ length (requests_of notes r g) = numbered_within (requests_of notes r g) n so.1.act asked in
      goes_on _ _ _ (both _ _ (lt-ltb g y.groups (kept.asked r g n so.1.act asked).exists) (eq-eqb (y.decider g) from so.0))
      (verdict_kept (verdict_of notes r g n) refl known)
    where
      verdict_kept : (k : Option Ruling) → verdict_of notes r g n ≡ k → n ≤ length (requests_of notes r g) →
          first_of (verdicts_differ g n v k ++ (nat_le n (length (requests_of notes r g)), deliver.UnknownRequest (length (requests_of notes r g))) ∷ []) ≡ None
      verdict_kept None h known = goes_on _ _ _ (le-leb n (length (requests_of notes r g)) known) refl
      verdict_kept (Some u) h known =
          goes_on _ _ _ (rulings_alike v u (verdict_alike g n v u so h)) (goes_on _ _ _ (le-leb n (length (requests_of notes r g)) known) refl)

  pub delivery_accepted : (k : ℕ) (f : Frame) → numbered (on_link notes from r) k ≡ Some f → deliver_refusal x y (words_of x y notes r) r from f ≡ None
  delivery_accepted k f h = accepted f (kept.links from r f (numbered_in (on_link notes from r) k f h))
