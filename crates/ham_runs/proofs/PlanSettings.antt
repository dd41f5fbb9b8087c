-- A plan gives a setting, and one replica decides everything where the plan is single.
use Rattle.std.proofs.Common.{◌≡◌, ◌↔◌, ℕ, ◌%◌, ◌≤◌, ◌<◌, true, Option, Some, None, refl, sym, ap, subst, ◌∙◌, true≢false, arith}
use Rattle.std.specs.Prelude.{IsTrue}
use Rattle.std.proofs.lemmas.Bool.{lt-ltb}
use Rattle.ham_syntax.specs.declared.act.Act.{Act}
use Rattle.ham_state.specs.Content.{State}
use Rattle.ham_meaning.specs.declared.outcome.Outcome.{Outcome}
use Rattle.ham_meaning.specs.declared.outcome.Outcome.TheVariants.{Yes}
use Rattle.ham_plan.specs.Groups.{IsLeastOf}
use Rattle.ham_plan.specs.Plans.{Plan, IsPlan, conflicts, least_of, is_first, groups, lane_of, decider_of, count_below}
use Rattle.ham_turns.specs.Settings.{Rules, Setting, IsReplica, setting_of}
use Rattle.ham_runs.specs.Facts.{IsSetting}
use Rattle.ham_plan.proofs.Joining.{Joined-direct}
use Rattle.ham_plan.proofs.Labelling.{among-within}
use Rattle.ham_plan.proofs.PlanLanes.{group-within}
use Rattle.ham_plan.proofs.PlanFacts.{share, one_lane, group_exists, lane_exists, slot_method, slot_lane, lane_slot, needed, needed_only}

-- what rules owe, whatever the plan is
pub record KeepsRules (x : Rules) (methods : ℕ) : Type 0 where
  pub fits_exist : (a : Act) → IsTrue (x.fits a) → a.method < methods
  pub permissible : (s : State) (a : Act) → x.outcome s a ≡ Yes → x.Permissible s a
  pub outcome : (s : State) (a : Act) (u : Outcome) → (x.outcome s a ≡ u) ↔ x.IsOutcome s a u

-- all methods conflict, and replica 1 decides them
pub record DecidesAll (y : Setting) : Type 0 where
  pub conflict : (m n : ℕ) → m < y.methods → n < y.methods → y.conflict m n ≡ true
  pub first : (m r : ℕ) → m < y.methods → IsReplica y r → y.decider (y.lane m r) ≡ 1

pub plan_setting : (x : Rules) (p : Plan) → IsPlan p → KeepsRules x p.methods → IsSetting x (setting_of p)
unfolding setting_of
plan_setting x p is keeps = record {
  fits_exist = keeps.fits_exist;
  permissible = keeps.permissible;
  outcome = keeps.outcome;
  depends_exist = λ m n e. let w = among-within p.methods p.depends m n e in (w.0, w.1);
  share = λ m n r q hr hq e. share p is m n r q e;
  group = λ m r q hr hq ne. one_lane p is m r hr.0 hr.1 ne q;
  group_exists = λ m r hr ne. group_exists p is m r hr.0 hr.1 ne;
  lane_exists = λ m r there hr. lane_exists p is m r there hr.0 hr.1;
  slot_method = λ m n r q tm tn hr hq e. slot_method p m n r q hr.0 hr.1 hq.0 hq.1 e;
  slot_lane = λ m r q there hr hq e. slot_lane p m r q hr.0 hq.0 e;
  lane_slot = λ m r q there hr hq e. lane_slot p m r q hr.0 hq.0 e;
  needed = λ m n r hr e. needed p m n r hr.0 hr.1 e;
  needed_only = λ m s k. let w = needed_only p is m s k in record { method = w.0; replica = w.1; exists = (w.2, w.3); depends = w.4; slot = w.5 };
}

-- where all conflict, each method's lane is 0
single_lane : (p : Plan) → IsPlan p → ((m n : ℕ) → m < p.methods → n < p.methods → conflicts p m n ≡ true) → (m r : ℕ) → m < p.methods → decider_of p (lane_of p m r) ≡ 1
single_lane p is all m r there = by (least_of p m) refl
  where
    by : (a : Option ℕ) → least_of p m ≡ a → decider_of p (lane_of p m r) ≡ 1
    by None e = absurd (true≢false (sym (all m m there there) ∙ subst (IsLeastOf (conflicts p) m) e (is.least_is m) m))
    by (Some l) e =
        let least = subst (IsLeastOf (conflicts p) m) e (is.least_is m) in
        let low : l ≤ 0 = least.1 0 (Joined-direct (conflicts p) m 0 (all m 0 there (omega arith))) in
        let zero_is : l ≡ 0 = omega arith in
        let none_below : count_below (is_first p) l ≡ 0 = ap (count_below (is_first p)) zero_is in
        let within = group-within p is m l e in
        let some : 0 < groups p = omega arith in
        let replicas = is.some_replicas in
        let first : 0 % p.replicas ≡ 0 = omega arith in
        rw (e, none_below, lt-ltb 0 (groups p) some, first) refl

pub plan_single : (p : Plan) → IsPlan p → ((m n : ℕ) → m < p.methods → n < p.methods → conflicts p m n ≡ true) → DecidesAll (setting_of p)
unfolding setting_of
plan_single p is all = record { conflict = all; first = λ m r there hr. single_lane p is all m r there }
