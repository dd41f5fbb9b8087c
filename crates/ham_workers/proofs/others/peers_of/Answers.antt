use Rattle.std.proofs.Common.{◌≡◌, ◌∙◌, ◌+◌, ◌≤◌, ◌<◌, length, vec_len, ap, arith}
use Rattle.ham_turns.specs.Settings.{setting_of}
use Rattle.ham_workers.proofs.others.peers_of.Goals as goal

pub overflow_step-above : goal.overflow_step-above
unfolding setting_of
overflow_step-above g c =
    let le : c.args.me ≤ g.L.Home.plan.replicas = c.requires.replica.1 in
    omega (arith, le, c.replicas_of-replicas.ensures.replicas, c.replicas_of-replicas.ensures.few)

pub new-requires-in-loop-above-clause-replica : goal.new-requires-in-loop-above-clause-replica
unfolding setting_of
new-requires-in-loop-above-clause-replica g c =
    let least : 1 ≤ c.loop-above.above = omega (arith, c.loop-above.invariant) in
    let most : c.loop-above.above ≤ g.L.Home.plan.replicas = omega (arith, c.loop-above-test.true, c.replicas_of-replicas.ensures.replicas) in
    (least, most)

pub returns : goal.returns
unfolding setting_of
returns g c =
    let le : c.args.me ≤ g.L.Home.plan.replicas = c.requires.replica.1 in
    omega (arith, le, c.loop-above-test.false, c.loop-above.auto.above-end, c.loop-above.invariant, c.replicas_of-replicas.ensures.replicas)

pub new-requires-clause-few : goal.new-requires-clause-few
unfolding setting_of
new-requires-clause-few g c =
    let le : c.args.me ≤ g.L.Home.plan.replicas = c.requires.replica.1 in
    omega (arith, le, c.loop-below-test.true, c.replicas_of-replicas.ensures.replicas, c.replicas_of-replicas.ensures.few)
