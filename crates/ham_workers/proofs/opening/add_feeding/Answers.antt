use Rattle.std.proofs.Common.{◌≡◌, ◌∙◌, ◌+◌, ◌≤◌, ◌<◌, length, vec_len, ap, arith}
use Rattle.ham_turns.specs.Settings.{setting_of}
use Rattle.ham_workers.proofs.opening.add_feeding.Goals as goal

pub bounds-bases-from : goal.bounds-bases-from
unfolding setting_of
bounds-bases-from g c =
    let le : c.in-Some.peer.number ≤ g.L.Home.plan.replicas = c.in-Some.peer.replica.1 in
    omega (arith, c.in-Some.peer.replica.0, le, c.requires.bases, c.from.ensures)
