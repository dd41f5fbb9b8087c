use Rattle.std.proofs.Common.{◌≡◌, ◌<◌, true, false, sym, ap, subst, ◌∙◌, take, arith}
use Rattle.ham_site.specs.Sites.{rules_at, setting_at}
use Rattle.ham_audit.specs.Records.{log_of, places, stands}
use Rattle.ham_audit.specs.Indexed.{first_act}
use Rattle.ham_audit.specs.Faults as faults
use Rattle.ham_audit.proofs.Indexing.{log_at}
use Rattle.ham_audit.proofs.Looking.{fault_here, length_before}
use Rattle.ham_audit.proofs.Deciding.{lane_there, limited, bad_place, bad_twice}
use Rattle.ham_syntax.specs.declared.limits.TheConstants.{MAX_LANE_CALLS}
use Rattle.ham_audit.proofs.positions.fault_at.Goals as goal

pub returns-then-not-has_place : goal.returns-then-not-has_place
returns-then-not-has_place c =
    let logs = c.args.logs.now in
    let before = take c.args.index (log_of logs c.args.replica) in
    bad_place c.args.site.now logs c.args.replica c.args.index before c.args.logged.now (length_before (log_of logs c.args.replica) c.args.index c.requires.within)
    (sym c.has_place.ensures ∙ c.if-not-has_place.true)

pub returns-then-stands_before : goal.returns-then-stands_before
returns-then-stands_before c =
    let logs = c.args.logs.now in
    let r = c.args.replica in
    let e = c.args.logged.now in
    let before = take c.args.index (log_of logs r) in
    let own = log_at logs r c.index-logs-replica.result c.requires.first c.requires.last c.index-logs-replica.is in
    bad_twice c.args.site.now logs r c.args.index before e (length_before (log_of logs r) c.args.index c.requires.within)
    (sym c.has_place.ensures ∙ c.if-not-has_place.false)
    (ap (λ l. stands e.place (places (take c.args.index l))) (sym own) ∙ sym c.stands_before.ensures ∙ c.if-stands_before.true)

pub overflow_sub-decider : goal.overflow_sub-decider
overflow_sub-decider c =
    let h = lane_there MAX_LANE_CALLS (setting_at c.args.site.now) c.args.logged.now (sym c.has_place.ensures ∙ c.if-not-has_place.false) in
    let d = (c.me-me.ensures.site.tabled.decider_exists c.args.logged.now.place.lane h).0 in
    let by = c.decider_of-decider.ensures in
    omega arith

pub bounds-logs-decider : goal.bounds-logs-decider
bounds-logs-decider c =
    let h = lane_there MAX_LANE_CALLS (setting_at c.args.site.now) c.args.logged.now (sym c.has_place.ensures ∙ c.if-not-has_place.false) in
    let d = c.me-me.ensures.site.tabled.decider_exists c.args.logged.now.place.lane h in
    let low = d.0 in
    let high = d.1 in
    let by = c.decider_of-decider.ensures in
    let count = c.requires.replicas in
    omega arith

pub returns : goal.returns
returns c =
    let x = rules_at c.args.site.now in
    let y = setting_at c.args.site.now in
    let logs = c.args.logs.now in
    let r = c.args.replica in
    let e = c.args.logged.now in
    let own = log_at logs r c.index-logs-replica.result c.requires.first c.requires.last c.index-logs-replica.is in
    let before = take c.args.index (log_of logs r) in
    let new : stands e.place (places before) ≡ false =
    ap (λ l. stands e.place (places (take c.args.index l))) (sym own) ∙ sym c.stands_before.ensures ∙ c.if-stands_before.false in
    let good = sym c.has_place.ensures ∙ c.if-not-has_place.false in
    let by = c.decider_of-decider.ensures in
    let exists = c.me-me.ensures.site.tabled.decider_exists e.place.lane (lane_there MAX_LANE_CALLS y e good) in
    let low = exists.0 in
    let high = exists.1 in
    let count = c.requires.replicas in
    let deciding = log_at logs c.decider_of-decider.result c.index-logs-decider.result (omega arith) (omega arith) c.index-logs-decider.is in
    let act = c.act_of.ensures ∙ ap (first_act e.place) (deciding ∙ ap (log_of logs) by) in
    let next = c.is_next-next.ensures e.act ∙ ap (λ n. faults.is_next y r n e) c.requires.count in
    let size = length_before (log_of logs r) c.args.index c.requires.within in
    c.fault_by_act.ensures
    ∙ fault_here x y logs r c.args.index before e c.is_next-next.result c.act_of.result
    (limited c.args.site.now logs r c.args.index before e size true good) new size next act
