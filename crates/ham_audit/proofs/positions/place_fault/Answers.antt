use Rattle.std.proofs.Common.{sym, ◌∙◌, arith, []}
use Rattle.ham_site.specs.Sites.{rules_at, setting_at}
use Rattle.ham_audit.specs.Faults as faults
use Rattle.ham_audit.specs.Records.{log_of}
use Rattle.ham_audit.proofs.Looking.{goes_past}
use Rattle.ham_audit.proofs.positions.place_fault.Goals as goal

pub overflow_add-replica-end : goal.overflow_add-replica-end
overflow_add-replica-end c =
    let few = c.me-me.ensures.site.tabled.few_replicas in
    let n = c.replicas-replica-end.ensures in
    omega arith

pub loop-replica-preserved : goal.loop-replica-preserved
loop-replica-preserved c =
    goes_past (λ r. faults.fault_along (rules_at c.args.site.now) (setting_at c.args.site.now) c.args.logs.now r [] (log_of c.args.logs.now r))
    c.loop-replica.replica (setting_at c.args.site.now).replicas c.log_fault-fault.result (omega arith) c.log_fault-fault.ensures (sym c.is_some.ensures ∙ c.if-is_some.false)
    ∙ c.loop-replica.invariant
