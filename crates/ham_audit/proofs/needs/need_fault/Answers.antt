use Rattle.std.proofs.Common.{sym, ◌∙◌, arith, []}
use Rattle.ham_site.specs.Sites.{setting_at}
use Rattle.ham_audit.specs.Faults as faults
use Rattle.ham_audit.specs.Records.{log_of, places}
use Rattle.ham_audit.proofs.Looking.{goes_past, stops_at}
use Rattle.ham_audit.proofs.needs.need_fault.Goals as goal

pub overflow_add-replica-end : goal.overflow_add-replica-end
overflow_add-replica-end c =
    let few = c.me-me.ensures.site.tabled.few_replicas in
    let n = c.replicas-replica-end.ensures in
    omega arith

pub returns-then-is_some : goal.returns-then-is_some
returns-then-is_some c =
    let n = c.replicas-replica-end.ensures in
    let here = c.loop-replica-test.true in
    stops_at (λ r. faults.late_along (setting_at c.args.site.now) c.args.logs.now r [] (places (log_of c.args.logs.now r)))
    c.loop-replica.replica (setting_at c.args.site.now).replicas c.log_lateness-fault.result (omega arith) c.log_lateness-fault.ensures (sym c.is_some.ensures ∙ c.if-is_some.true)
    ∙ c.loop-replica.invariant

pub loop-replica-preserved : goal.loop-replica-preserved
loop-replica-preserved c =
    goes_past (λ r. faults.late_along (setting_at c.args.site.now) c.args.logs.now r [] (places (log_of c.args.logs.now r)))
    c.loop-replica.replica (setting_at c.args.site.now).replicas c.log_lateness-fault.result (omega arith) c.log_lateness-fault.ensures (sym c.is_some.ensures ∙ c.if-is_some.false)
    ∙ c.loop-replica.invariant
