use Rattle.std.proofs.Common.{◌≡◌, ◌+◌, ◌-◌, ◌++◌, ℕ, subst, arith}
use Rattle.std.specs.List.{flat_map, range_with_len}
use Rattle.ham_turns.specs.Settings.{setting_of}
use Rattle.ham_bulk.specs.Summaries.{compared_line}
use Rattle.ham_bulk.proofs.After.{is_next}
use Rattle.ham_bulk.proofs.Texts.{put_more, all_others}
use Rattle.ham_bulk.proofs.summary.push_compared.Goals as goal

pub push_compared_with-requires-clause-other : goal.push_compared_with-requires-clause-other
push_compared_with-requires-clause-other c = is_next c.args.world.now.plan _ c.loop-before.before c.replicas-before-end.ensures.replicas (omega arith)

pub loop-before-preserved : goal.loop-before-preserved
loop-before-preserved c =
    put_more (compared_line c.args.world.now.object (setting_of c.args.world.now.plan) c.args.world.now.notes) 2 (c.loop-before.before - 1) (c.loop-before.before + 1) (c.loop-before.before + 1 - 1) _ _ _
    c.loop-before.invariant c.in_ok-push_compared_with.ensures (omega arith) (omega arith)

pub returns : goal.returns
returns c = subst (λ (n : ℕ). c.loop-before.text ≡ c.args.text.now ++ flat_map (compared_line c.args.world.now.object (setting_of c.args.world.now.plan) c.args.world.now.notes) (range_with_len 2 n))
    (all_others c.args.world.now.plan _ c.loop-before.before c.replicas-before-end.ensures.replicas c.object-planned.ensures.planned.plan (omega arith) (omega arith) (λ h. omega (arith, h))) c.loop-before.invariant
