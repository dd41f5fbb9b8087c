use Rattle.std.proofs.Common.{◌≡◌, ◌∙◌, ◌+◌, ◌≤◌, ◌<◌, length, vec_len, ap, arith}
use Rattle.ham_plan.specs.Plans.{Plan}
use Rattle.ham_workers.proofs.others.replicas_of.Goals as goal

pub returns : goal.returns
returns g c = record {
  replicas = c.replicas.ensures.replicas ∙ ap (λ (p : Plan). p.replicas) c.requires;
  few = omega (arith, c.replicas.ensures.replicas, c.replicas.ensures.plan.few_replicas);
}
