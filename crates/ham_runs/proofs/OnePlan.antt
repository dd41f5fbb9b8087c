-- Plans with the same methods, replicas, conflicts and dependencies have one setting.
use Rattle.std.proofs.Common.{◌≡◌}
use Rattle.ham_turns.specs.Settings.{setting_of}
use Rattle.ham_plan.specs.Same.{SaysSame}
use Rattle.ham_plan.specs.Plans.{Plan, IsPlan}
use Rattle.ham_plan.proofs.OnePlan.{gives_same}

pub one_setting : (p q : Plan) → IsPlan p → IsPlan q → SaysSame p q → setting_of p ≡ setting_of q
unfolding setting_of
one_setting p q is_p is_q same =
    let h = gives_same p q is_p is_q same in
    λ i. record {
      methods = same.methods i;
      replicas = same.replicas i;
      groups = h.groups i;
      lanes = h.lanes i;
      conflict = λ m n. same.conflict m n i;
      depends = λ m n. same.depends m n i;
      lane = λ m r. h.lane m r i;
      decider = λ l. h.decider l i;
      slot = λ m r. h.slot m r i;
      needs = λ m. h.needs m i;
    }
