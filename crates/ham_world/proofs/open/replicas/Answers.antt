use Rattle.std.proofs.Common.{◌≡◌, ◌+◌, ◌++◌, [], ◌∷◌, ap, ◌∙◌, arith}
use Rattle.std.proofs.lemmas.List.{length_push}
use Rattle.ham_world.specs.Opened.{opened}
use Rattle.ham_world.proofs.Opened.{setting_replicas, one_replica_more, is_opened}
use Rattle.ham_world.proofs.open.replicas.Goals as goal

pub new-requires : goal.new-requires
new-requires c = (omega arith, omega (arith, setting_replicas c.args.plan.now, c.loop-before-test.true, c.replicas-before-end.ensures.replicas))

pub loop-before-preserved : goal.loop-before-preserved
loop-before-preserved c =
    let more : c.push.new.self.items ≡ c.loop-before.replicas.items ++ c.in_ok-new.field-0 ∷ [] = c.in_ok-push.ensures.items in
    rw more (
      length_push c.loop-before.replicas.items c.in_ok-new.field-0 ∙ ap (λ n. n + 1) c.loop-before.invariant.0,
      one_replica_more c.loop-before.replicas.items c.in_ok-new.field-0 c.loop-before.before (opened c.args.object.now c.args.plan.now) c.loop-before.invariant.0 c.loop-before.invariant.1
          (is_opened c.args.object.now c.args.plan.now (c.loop-before.before + 1) c.in_ok-new.field-0 c.in_ok-new.ensures.site c.in_ok-new.ensures.lists),
    )

pub returns : goal.returns
returns c = λ r. λ rep. c.loop-before.invariant.1 r rep.0 (omega (arith, rep.1, setting_replicas c.args.plan.now, c.loop-before-test.false, c.replicas-before-end.ensures.replicas))
