use Rattle.std.proofs.Common.{◌≡◌, ◌+◌, ◌++◌, ℕ, refl, subst, arith}
use Rattle.std.specs.List.{flat_map, range_with_len}
use Rattle.ham_bulk.specs.Summaries.{logged_line}
use Rattle.ham_bulk.proofs.After.{is_next, all_passed}
use Rattle.ham_bulk.proofs.Texts.{put_more}
use Rattle.ham_bulk.proofs.summary.push_logged.Goals as goal

pub push_logged_at-requires-clause-replica : goal.push_logged_at-requires-clause-replica
push_logged_at-requires-clause-replica c = is_next c.args.world.now.plan _ c.loop-before.before c.replicas-before-end.ensures.replicas (omega arith)

pub loop-before-preserved : goal.loop-before-preserved
loop-before-preserved c =
    put_more (logged_line c.args.world.now.notes) 1 c.loop-before.before (c.loop-before.before + 1) (c.loop-before.before + 1) _ _ _ c.loop-before.invariant c.in_ok-push_logged_at.ensures (omega arith) refl

pub returns : goal.returns
returns c = subst (λ (n : ℕ). c.loop-before.text ≡ c.args.text.now ++ flat_map (logged_line c.args.world.now.notes) (range_with_len 1 n))
    (all_passed c.args.world.now.plan _ c.loop-before.before c.replicas-before-end.ensures.replicas (omega arith) (omega arith)) c.loop-before.invariant
