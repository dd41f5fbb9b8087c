use Rattle.std.proofs.Common.{◌≡◌, ◌<◌, ◌≤◌, ℕ, get_or, length, true, false, sym, subst, ap, ◌∙◌, arith}
use Rattle.ham_site.specs.Sites.{setting_at}
use Rattle.ham_records.specs.declared.records.Logged.{Logged}
use Rattle.ham_audit.specs.Records.{log_of}
use Rattle.std.specs.Prelude.{slice_get, Some}
use Rattle.ham_audit.specs.Passing.{at_of, next_in}
use Rattle.ham_audit.proofs.Held.{at_is}
use Rattle.ham_audit.proofs.Choosing.{at_inside, own_some, own_other}
use Rattle.ham_audit.proofs.Looking.{in_at}
use Rattle.ham_plan.specs.Lists.{In}
use Rattle.ham_audit.proofs.Indexing.{log_at}
use Rattle.ham_audit.proofs.Under.{lane_in}
use Rattle.ham_audit.proofs.order.own_next.Goals as goal

pub decider_of-requires : goal.decider_of-requires
decider_of-requires c =
    let logs = c.args.logs.now in
    let r = c.args.replica in
    let count = c.requires.under.recorded.replicas in
    let log = c.log-log.ensures ∙ log_at logs r c.index-logs-replica.result c.requires.replica.0 (let high = c.requires.replica.1 in omega arith) c.index-logs-replica.is in
    lane_in c.args.site.now logs c.requires.under r c.index-log-at.result
    (subst (λ l. In c.index-log-at.result l) log (in_at c.log-log.result.now c.index-at.result.now c.index-log-at.result c.if-at-log.false c.index-log-at.is))

pub returns-then-decider_of-replica : goal.returns-then-decider_of-replica
returns-then-decider_of-replica c =
    let logs = c.args.logs.now in
    let r = c.args.replica in
    let e = c.index-log-at.result in
    let count = c.requires.under.recorded.replicas in
    let many = c.requires.at.past.many_at in
    let high = c.requires.replica.1 in
    let log = c.log-log.ensures ∙ log_at logs r c.index-logs-replica.result c.requires.replica.0 (omega arith) c.index-logs-replica.is in
    let at = at_is c.args.progress.now.at.items r c.index-at.result.now c.requires.replica.0 (omega arith) c.index-at.ensures in
    own_some (setting_at c.args.site.now) r (next_in logs c.args.progress.now.at.items r) e
    (subst (λ l. slice_get l (at_of c.args.progress.now.at.items r) ≡ Some e) log (subst (λ n. slice_get c.log-log.result.now n ≡ Some e) at
    (at_inside c.log-log.result.now c.index-at.result.now e c.if-at-log.false c.index-log-at.is)))
    (sym c.decider_of.ensures ∙ c.if-decider_of-replica.true)

pub returns-else-decider_of-replica : goal.returns-else-decider_of-replica
returns-else-decider_of-replica c =
    let logs = c.args.logs.now in
    let r = c.args.replica in
    let e = c.index-log-at.result in
    let count = c.requires.under.recorded.replicas in
    let many = c.requires.at.past.many_at in
    let high = c.requires.replica.1 in
    let log = c.log-log.ensures ∙ log_at logs r c.index-logs-replica.result c.requires.replica.0 (omega arith) c.index-logs-replica.is in
    let at = at_is c.args.progress.now.at.items r c.index-at.result.now c.requires.replica.0 (omega arith) c.index-at.ensures in
    own_other (setting_at c.args.site.now) r (next_in logs c.args.progress.now.at.items r) e
    (subst (λ l. slice_get l (at_of c.args.progress.now.at.items r) ≡ Some e) log (subst (λ n. slice_get c.log-log.result.now n ≡ Some e) at
    (at_inside c.log-log.result.now c.index-at.result.now e c.if-at-log.false c.index-log-at.is)))
    (λ q. c.if-decider_of-replica.false (c.decider_of.ensures ∙ q))
