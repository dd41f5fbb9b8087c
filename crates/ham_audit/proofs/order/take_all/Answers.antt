use Rattle.std.proofs.Common.{◌≡◌, ◌<◌, ◌≤◌, ℕ, length, sym, subst, ap, ◌∙◌, arith, false, Bool}
use Rattle.ham_site.specs.Sites.{setting_at}
use Rattle.ham_audit.specs.Records.{every_place}
use Rattle.ham_audit.specs.Order.{taken_after}
use Rattle.ham_audit.specs.Passing.{HasTaken}
use Rattle.ham_audit.proofs.Choosing.{taken_all}
use Rattle.ham_audit.proofs.order.take_all.Goals as goal

pub count_all-end-requires-clause-replicas : goal.count_all-end-requires-clause-replicas
count_all-end-requires-clause-replicas c =
    let n = c.requires.recorded.replicas in
    let few = c.me-me.ensures.site.tabled.few_replicas in
    omega arith

pub take_next-requires-clause-few : goal.take_next-requires-clause-few
take_next-requires-clause-few c =
    let n = c.loop.invariant.count in
    let few = c.count_all-end.ensures.few in
    let here = c.loop-test.true in
    omega arith

pub returns-then-not-branch-clause-all : goal.returns-then-not-branch-clause-all
returns-then-not-branch-clause-all c =
    let y = setting_at c.args.site.now in
    let records = c.args.logs.now in
    let done = subst (λ b. HasTaken y records c.loop.progress.count c.take_next.new.progress.count b) c.if-not-branch.true c.in_ok-take_next.ensures.took in
    let n = c.loop.invariant.count in
    let here = c.loop-test.true in
    let total = c.count_all-end.ensures.count in
    ap (taken_after y records) done.0 ∙ taken_all y records c.loop.progress.count (length (every_place records)) (omega arith) done.1
