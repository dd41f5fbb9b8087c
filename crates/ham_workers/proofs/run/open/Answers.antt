use Rattle.std.proofs.Common.{◌≡◌, ◌∙◌, ◌+◌, ◌≤◌, ◌<◌, length, vec_len, ap, arith}
use Rattle.ham_turns.specs.Settings.{setting_of}
use Rattle.ham_workers.proofs.run.open.Goals as goal

pub invariant_of-result : goal.invariant_of-result
unfolding setting_of
invariant_of-result g c =
    let few : vec_len c.in_ok-tasks.tasks ≤ 19 = omega (arith, c.in_ok-tasks.ensures.ok, c.replicas_of-replicas.ensures.replicas, c.replicas_of-replicas.ensures.few) in
    let least : 1 ≤ c.in-Ok-greeting_of.greeting.from = omega (arith, c.in-Ok-greeting_of.ensures, c.requires.replica.0) in
    let me : c.args.me ≤ g.L.Home.plan.replicas = c.requires.replica.1 in
    let most : c.in-Ok-greeting_of.greeting.from ≤ c.in-Ok-greeting_of.greeting.of = omega (arith, c.in-Ok-greeting_of.ensures, me, c.replicas_of-replicas.ensures.replicas) in
    let all : c.in-Ok-greeting_of.greeting.of ≤ 8 = omega (arith, c.in-Ok-greeting_of.ensures, c.replicas_of-replicas.ensures.few) in
    record {
      next = c.in-Ok.ensures.0;
      count = c.in-Ok.ensures.1;
      each = c.in_ok-tasks.ensures.ok ∙ c.requires.seats;
      few = few;
      greets = (least, most, all);
    }
