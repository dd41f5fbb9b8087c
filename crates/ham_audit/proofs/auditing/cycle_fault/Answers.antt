use Rattle.std.proofs.Common.{sym, ap, ◌∙◌, arith}
use Rattle.ham_site.specs.Sites.{setting_at}
use Rattle.ham_audit.specs.Faults as faults
use Rattle.ham_audit.specs.Order.{order}
use Rattle.ham_audit.specs.Records.{log_of}
use Rattle.ham_audit.proofs.Looking.{goes_past, stops_at}
use Rattle.ham_audit.proofs.auditing.cycle_fault.Goals as goal

pub loop-replica-preserved : goal.loop-replica-preserved
loop-replica-preserved c =
    goes_past (λ r. faults.left_along (setting_at c.args.site.now) (order (setting_at c.args.site.now) c.args.logs.now) r 1 (log_of c.args.logs.now r))
    c.loop-replica.replica (setting_at c.args.site.now).replicas c.left_in-fault.result (omega arith)
    (c.left_in-fault.ensures ∙ ap (λ t. faults.left_along (setting_at c.args.site.now) t c.loop-replica.replica 1 (log_of c.args.logs.now c.loop-replica.replica)) c.requires.all)
    (sym c.is_some.ensures ∙ c.if-is_some.false)
    ∙ c.loop-replica.invariant

pub returns-then-is_some : goal.returns-then-is_some
returns-then-is_some c =
    let n = c.replicas-replica-end.ensures in
    let here = c.loop-replica-test.true in
    stops_at (λ r. faults.left_along (setting_at c.args.site.now) (order (setting_at c.args.site.now) c.args.logs.now) r 1 (log_of c.args.logs.now r))
    c.loop-replica.replica (setting_at c.args.site.now).replicas c.left_in-fault.result (omega arith)
    (c.left_in-fault.ensures ∙ ap (λ t. faults.left_along (setting_at c.args.site.now) t c.loop-replica.replica 1 (log_of c.args.logs.now c.loop-replica.replica)) c.requires.all)
    (sym c.is_some.ensures ∙ c.if-is_some.true)
    ∙ c.loop-replica.invariant
