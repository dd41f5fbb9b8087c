use Rattle.std.proofs.Common.{◌≡◌, ◌∙◌, ◌+◌, ◌≤◌, ◌<◌, length, vec_len, ap, arith}
use Rattle.ham_turns.specs.Settings.{setting_of}
use Rattle.ham_workers.proofs.opening.open_tasks.Goals as goal

pub bounds-bases-from : goal.bounds-bases-from
unfolding setting_of
bounds-bases-from g c =
    let le : c.args.me ≤ g.L.Home.plan.replicas = c.requires.replica.1 in
    omega (arith, c.requires.replica.0, le, c.requires.bases, c.from.ensures)

pub add_feeding-requires-clause-few : goal.add_feeding-requires-clause-few
unfolding setting_of
add_feeding-requires-clause-few g c =
    let le : c.args.me ≤ g.L.Home.plan.replicas = c.requires.replica.1 in
    omega (arith, le, c.replicas_of-replicas.ensures.replicas, c.replicas_of-replicas.ensures.few)
