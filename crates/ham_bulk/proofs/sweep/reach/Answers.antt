use Rattle.std.proofs.Common.{◌≤◌, arith, subst}
use Rattle.std.proofs.Common.{ℕ}
use Rattle.ham_turns.specs.Settings.{IsReplica, setting_of}
use Rattle.ham_plan.specs.Plans.{Plan, IsPlan}
use Rattle.ham_syntax.specs.declared.limits.TheConstants.{MAX_REPLICAS}
use Rattle.ham_bulk.proofs.sweep.reach.Goals as goal

few : (p : Plan) (r : ℕ) → IsPlan p → IsReplica (setting_of p) r → r ≤ MAX_REPLICAS
unfolding setting_of
few p r plan is = omega (arith, plan.few_replicas, is.1)

pub reach-requires-clause-few_from : goal.reach-requires-clause-few_from
reach-requires-clause-few_from c = few _ _ c.object-planned.ensures.planned.plan c.requires.from

pub reach-requires-clause-few_to : goal.reach-requires-clause-few_to
reach-requires-clause-few_to c = few _ _ c.object-planned.ensures.planned.plan c.requires.to
