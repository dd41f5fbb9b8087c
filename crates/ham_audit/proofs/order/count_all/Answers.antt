use Rattle.std.proofs.Common.{◌≡◌, ◌+◌, ◌*◌, ◌^◌, ◌<◌, ◌≤◌, ℕ, length, length-append, get_or, List, drop, sym, subst, ap, ◌∙◌, arith}
use Rattle.ham_audit.specs.Records.{every_place, log_of}
use Rattle.ham_records.specs.declared.records.Logged.{Logged}
use Rattle.ham_audit.proofs.Counting.{every_here, log_few}
use Rattle.ham_audit.proofs.order.count_all.Goals as goal

pub loop-log-preserved : goal.loop-log-preserved
loop-log-preserved c =
    let here = every_here c.args.logs.now c.loop-log.log-index c.log-item.result c.loop-log-test.true c.log-item.is in
    let is = ap (λ (l : List Logged). length l) c.log.ensures in
    let size = log_few c.args.logs.now c.loop-log.log-index c.log-item.result c.requires.few c.loop-log-test.true c.log-item.is in
    let before = c.loop-log.invariant.count in
    let few = c.loop-log.invariant.few in
    record { count = omega (arith, here, is, before); few = omega (arith, is, size, few) }
