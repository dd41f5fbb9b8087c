-- The tests of a delivery, one after another.
use Rattle.std.proofs.Common.{◌≡◌, ℕ, ◌+◌, ◌≤◌, ◌<◌, Bool, true, false, length, refl, sym, subst, ap, ◌∙◌}
use Rattle.std.specs.Prelude.{Option, Some, None, ◌==◌, nat_lt, if◌then◌else◌, is_some, IsTrue}
use Rattle.std.proofs.lemmas.Bool.{eqb-true, eq-eqb, ltb-true, and_parts}
use Rattle.ham_syntax.specs.declared.act.Act.{Act}
use Rattle.ham_syntax.specs.declared.act.Call.{Call}
use Rattle.ham_frame.specs.declared.frame.Ruling.{Ruling}
use Rattle.ham_frame.specs.declared.frame.Ruling.TheVariants as rulings
use Rattle.ham_frame.specs.declared.frame.Frame.TheVariants as frames
use Rattle.ham_frame.specs.Spelling.{FitsAct}
use Rattle.ham_site.specs.Sites.{Site, rules_at, setting_at}
use Rattle.ham_turns.specs.Words.{place_of}
use Rattle.ham_turns.specs.Refusals.{deliver_refusal, same_ruling}
use Rattle.ham_replica.specs.Values.{Lists, words}
use Rattle.ham_replica.specs.Deliveries.{MayTake, MayDeliver, MayRule}
use Rattle.ham_replica.specs.declared.held.Request.{Request}

pub test_fails : {R : Type 0} (b : Bool) (o : Option R) (r : R) → b ≡ false → (if b then o else Some r) ≡ Some r
test_fails true o r e = cc
test_fails false o r e = refl

pub test_goes : {R : Type 0} (b : Bool) (o : Option R) (r : R) → b ≡ true → (if b then o else Some r) ≡ o
test_goes true o r e = refl
test_goes false o r e = cc

pub test_passes : {R : Type 0} (b : Bool) (o : Option R) (r : R) → (if b then o else Some r) ≡ None → (b ≡ true) × (o ≡ None)
test_passes true o r e = (refl, e)
test_passes false o r e = cc

-- what the tests of a call and of a request let pass
pub record HasPassed (site : Site) (from lane many : ℕ) (a : Act) : Type 0 where
  pub there : lane < many
  pub method : a.method < (setting_at site).methods
  pub lane_is : (setting_at site).lane a.method from ≡ lane
  pub fits : IsTrue ((rules_at site).fits a)

module _ (site : Site) (v : Lists) (from : ℕ) (may : MayDeliver site v from) where
  pub call_passed : (c : Call) → deliver_refusal (rules_at site) (setting_at site) (words v) site.me from (frames.Call c) ≡ None → HasPassed site from c.lane (setting_at site).lanes c.act × ((setting_at site).decider c.lane ≡ from) × (length c.deps ≡ length ((setting_at site).needs c.act.method))
  call_passed c e =
      let yours = test_passes _ _ _ e in
      let method = test_passes _ _ _ yours.1 in
      let args = test_passes _ _ _ method.1 in
      let deps = test_passes _ _ _ args.1 in
      let lane = and_parts (nat_lt c.lane (setting_at site).lanes) ((setting_at site).decider c.lane == from) yours.0 in
      let there = and_parts (nat_lt c.act.method (setting_at site).methods) ((setting_at site).lane c.act.method from == c.lane) method.0 in
      (record { there = ltb-true _ _ lane.0; method = ltb-true _ _ there.0; lane_is = eqb-true _ _ there.1; fits = args.0 }, eqb-true _ _ lane.1, eqb-true _ _ deps.0)

  pub call_may : (c : Call) → deliver_refusal (rules_at site) (setting_at site) (words v) site.me from (frames.Call c) ≡ None → 1 ≤ c.number → c.number ≤ 65536 → is_some ((words v).kept (place_of c)) ≡ false → MayTake site v c
  call_may c e some few fresh =
      let passed = call_passed c e in
      record {
        lane = passed.0.there;
        elsewhere = λ q. may.another (sym passed.1 ∙ q);
        method = passed.0.method;
        own = ap ((setting_at site).lane c.act.method) passed.1 ∙ passed.0.lane_is;
        fits = passed.0.fits;
        deps = sym passed.2;
        some = some;
        few = few;
        fresh = none_of ((words v).kept (place_of c)) fresh;
      }
    where
      none_of : {X : Type 0} (o : Option X) → is_some o ≡ false → o ≡ None
      none_of None q = refl
      none_of (Some d) q = cc

  pub request_passed : (g n : ℕ) (a : Act) → deliver_refusal (rules_at site) (setting_at site) (words v) site.me from (frames.Request g n a) ≡ None → HasPassed site from g (setting_at site).groups a × ((setting_at site).decider g ≡ site.me)
  request_passed g n a e =
      let yours = test_passes _ _ _ e in
      let method = test_passes _ _ _ yours.1 in
      let args = test_passes _ _ _ method.1 in
      let lane = and_parts (nat_lt g (setting_at site).groups) ((setting_at site).decider g == site.me) yours.0 in
      let there = and_parts (nat_lt a.method (setting_at site).methods) ((setting_at site).lane a.method from == g) method.0 in
      (record { there = ltb-true _ _ lane.0; method = ltb-true _ _ there.0; lane_is = eqb-true _ _ there.1; fits = args.0 }, eqb-true _ _ lane.1)

  pub request_may : (q : Request) → q.from ≡ from → deliver_refusal (rules_at site) (setting_at site) (words v) site.me from (frames.Request q.group q.number q.act) ≡ None → FitsAct q.act → q.number ≤ 65536 →
      q.number ≡ length ((words v).rulings q.from q.group) + 1 → MayRule site v q
  request_may q same e frame few next =
      let passed = request_passed q.group q.number q.act e in
      record {
        may = subst (MayDeliver site v) (sym same) may;
        group = passed.0.there;
        here = passed.1;
        method = passed.0.method;
        lane = ap ((setting_at site).lane q.act.method) same ∙ passed.0.lane_is;
        fits = passed.0.fits;
        frame = frame;
        next = next;
        few = few;
      }

-- ---- rulings that are the same

pub same_ruling_refl : (v : Ruling) → same_ruling v v ≡ true
same_ruling_refl (rulings.Applied n) = eq-eqb n n refl
same_ruling_refl (rulings.Guard n) = eq-eqb n n refl
same_ruling_refl (rulings.Invariant n) = eq-eqb n n refl
same_ruling_refl rulings.Full = refl

pub same_ruling_true : (v u : Ruling) → same_ruling v u ≡ true → v ≡ u
same_ruling_true (rulings.Applied n) (rulings.Applied m) e = ap rulings.Applied (eqb-true n m e)
same_ruling_true (rulings.Applied n) (rulings.Guard m) e = cc
same_ruling_true (rulings.Applied n) (rulings.Invariant m) e = cc
same_ruling_true (rulings.Applied n) rulings.Full e = cc
same_ruling_true (rulings.Guard n) (rulings.Applied m) e = cc
same_ruling_true (rulings.Guard n) (rulings.Guard m) e = ap rulings.Guard (eqb-true n m e)
same_ruling_true (rulings.Guard n) (rulings.Invariant m) e = cc
same_ruling_true (rulings.Guard n) rulings.Full e = cc
same_ruling_true (rulings.Invariant n) (rulings.Applied m) e = cc
same_ruling_true (rulings.Invariant n) (rulings.Guard m) e = cc
same_ruling_true (rulings.Invariant n) (rulings.Invariant m) e = ap rulings.Invariant (eqb-true n m e)
same_ruling_true (rulings.Invariant n) rulings.Full e = cc
same_ruling_true rulings.Full (rulings.Applied m) e = cc
same_ruling_true rulings.Full (rulings.Guard m) e = cc
same_ruling_true rulings.Full (rulings.Invariant m) e = cc
same_ruling_true rulings.Full rulings.Full e = refl

pub other_ruling : (v u : Ruling) → (v ≡ u → ⊥) → same_ruling v u ≡ false
other_ruling v u ne = not (same_ruling v u) (λ t. ne (same_ruling_true v u t))
  where
    not : (b : Bool) → (b ≡ true → ⊥) → b ≡ false
    not true n = absurd (n refl)
    not false n = refl
