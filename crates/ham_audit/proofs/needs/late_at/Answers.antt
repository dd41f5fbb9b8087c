use Rattle.std.proofs.Common.{◌≡◌, ◌∙◌, ◌<◌, ◌≤◌, List, length, take, get_or, true, refl, sym, subst, ap, arith}
use Rattle.std.specs.Prelude.{slice_index, All}
use Rattle.ham_syntax.specs.declared.act.Place.{Place}
use Rattle.ham_site.specs.Sites.{setting_at}
use Rattle.ham_records.specs.declared.records.Logged.{Logged}
use Rattle.ham_audit.specs.Faults as faults
use Rattle.ham_audit.specs.Lateness.{IsIn}
use Rattle.ham_audit.specs.Order.{audited}
use Rattle.ham_audit.specs.Records.{log_of, places}
use Rattle.ham_audit.proofs.Deciders.{call_in, lane_low, index_small, exists, below, missing, first_is, at_low, front_size, front_in, found_late, fronts_below, front_low, none_late_here}
use Rattle.ham_audit.proofs.needs.late_at.Goals as goal

pub decider_of-requires : goal.decider_of-requires
decider_of-requires c = lane_low c.args.site.now c.args.logs.now c.requires.under c.me-me.ensures.site c.args.replica c.args.index c.args.call.now c.requires.call

pub overflow_sub-decider : goal.overflow_sub-decider
overflow_sub-decider c =
    (exists c.args.site.now c.args.logs.now c.requires.under c.me-me.ensures.site c.args.replica c.args.index c.args.call.now c.requires.call c.decider_of.result c.decider_of.ensures).0

pub bounds-logs-decider : goal.bounds-logs-decider
bounds-logs-decider c =
    below c.args.site.now c.args.logs.now c.requires.under c.me-me.ensures.site c.args.replica c.args.index c.args.call.now c.requires.call c.decider_of.result c.decider_of.ensures

pub unreachable-requires : goal.unreachable-requires
unreachable-requires c =
    missing c.args.site.now c.args.logs.now c.requires.under c.me-me.ensures.site c.args.replica c.args.index c.args.call.now c.requires.call c.decider_of.result c.decider_of.ensures
    c.index-logs-decider.result c.index_of.result c.index-logs-decider.is c.index_of.ensures c.in-None.is

pub bounds-fronts-decider : goal.bounds-fronts-decider
bounds-fronts-decider c =
    let first = first_is c.args.site.now c.args.logs.now c.requires.under c.me-me.ensures.site c.args.replica c.args.index c.args.call.now c.requires.call c.decider_of.result c.decider_of.ensures
    c.index-logs-decider.result c.index_of.result c.in-Some.at c.index-logs-decider.is c.index_of.ensures c.in-Some.is in
    fronts_below c.args.site.now c.args.logs.now c.requires.under c.me-me.ensures.site c.args.replica c.args.index c.args.call.now c.requires.call c.decider_of.result c.decider_of.ensures
    c.requires.planned c.in-Some.at first c.args.fronts.now c.requires.fronts

pub bounds-items-at : goal.bounds-items-at
bounds-items-at c =
    let first = first_is c.args.site.now c.args.logs.now c.requires.under c.me-me.ensures.site c.args.replica c.args.index c.args.call.now c.requires.call c.decider_of.result c.decider_of.ensures
    c.index-logs-decider.result c.index_of.result c.in-Some.at c.index-logs-decider.is c.index_of.ensures c.in-Some.is in
    let low = front_low c.args.site.now c.args.logs.now c.requires.under c.me-me.ensures.site c.args.replica c.args.index c.args.call.now c.requires.call c.decider_of.result c.decider_of.ensures
    c.requires.planned c.in-Some.at first c.args.fronts.now c.requires.fronts c.index-fronts-decider.result c.index-fronts-decider.is in
    subst (λ l. c.in-Some.at < length l) (sym c.items.ensures) low

pub offset_bounds-items-at : goal.offset_bounds-items-at
offset_bounds-items-at c =
    let first = first_is c.args.site.now c.args.logs.now c.requires.under c.me-me.ensures.site c.args.replica c.args.index c.args.call.now c.requires.call c.decider_of.result c.decider_of.ensures
    c.index-logs-decider.result c.index_of.result c.in-Some.at c.index-logs-decider.is c.index_of.ensures c.in-Some.is in
    let low = front_low c.args.site.now c.args.logs.now c.requires.under c.me-me.ensures.site c.args.replica c.args.index c.args.call.now c.requires.call c.decider_of.result c.decider_of.ensures
    c.requires.planned c.in-Some.at first c.args.fronts.now c.requires.fronts c.index-fronts-decider.result c.index-fronts-decider.is in
    let below : c.in-Some.at < length c.items.result.now = subst (λ l. c.in-Some.at < length l) (sym c.items.ensures) low in
    let size = c.items.type_inv in
    omega (arith, below, size)

pub returns-then-are_within : goal.returns-then-are_within
returns-then-are_within c =
    let first = first_is c.args.site.now c.args.logs.now c.requires.under c.me-me.ensures.site c.args.replica c.args.index c.args.call.now c.requires.call c.decider_of.result c.decider_of.ensures
    c.index-logs-decider.result c.index_of.result c.in-Some.at c.index-logs-decider.is c.index_of.ensures c.in-Some.is in
    none_late_here c.args.site.now c.args.logs.now c.requires.under c.me-me.ensures.site c.args.replica c.args.index c.args.call.now c.requires.call c.decider_of.result c.decider_of.ensures
    c.requires.planned c.in-Some.at first c.args.fronts.now c.requires.fronts
    c.index-fronts-decider.result c.index-items-at.result c.args.counts.now c.index-fronts-decider.is
    (c.index-items-at.is ∙ ap (λ (l : List (List Place)). get_or l c.in-Some.at c.index-items-at.result) c.items.ensures)
    (subst (All (λ (p : Place). p.number ≤ slice_index c.args.counts.now p.lane)) c.items-in-Some.ensures (c.are_within.ensures c.if-are_within.true)) c.requires.counts

pub bounds-logs-decider-in-Some : goal.bounds-logs-decider-in-Some
bounds-logs-decider-in-Some c =
    below c.args.site.now c.args.logs.now c.requires.under c.me-me.ensures.site c.args.replica c.args.index c.args.call.now c.requires.call c.decider_of.result c.decider_of.ensures

pub slice_bounds-first_late-end : goal.slice_bounds-first_late-end
slice_bounds-first_late-end c =
    let first = first_is c.args.site.now c.args.logs.now c.requires.under c.me-me.ensures.site c.args.replica c.args.index c.args.call.now c.requires.call c.decider_of.result c.decider_of.ensures
    c.index-logs-decider.result c.index_of.result c.in-Some.at c.index-logs-decider.is c.index_of.ensures c.in-Some.is in
    front_size c.args.site.now c.args.logs.now c.requires.under c.me-me.ensures.site c.args.replica c.args.index c.args.call.now c.requires.call c.decider_of.result c.decider_of.ensures
    c.requires.planned c.in-Some.at first c.index-logs-decider-in-Some.result c.index-logs-decider-in-Some.is
    ∙ ap (λ (l : List Logged). length (take c.in-Some.at l)) (sym c.log-log.ensures)

pub first_late-need-requires-clause-call : goal.first_late-need-requires-clause-call
first_late-need-requires-clause-call c =
    (c.args.replica, call_in c.args.site.now c.args.logs.now c.requires.under c.me-me.ensures.site c.args.replica c.args.index c.args.call.now c.requires.call)

pub first_late-need-requires-clause-front : goal.first_late-need-requires-clause-front
first_late-need-requires-clause-front c =
    let first = first_is c.args.site.now c.args.logs.now c.requires.under c.me-me.ensures.site c.args.replica c.args.index c.args.call.now c.requires.call c.decider_of.result c.decider_of.ensures
    c.index-logs-decider.result c.index_of.result c.in-Some.at c.index-logs-decider.is c.index_of.ensures c.in-Some.is in
    subst (λ (l : List Logged). All (IsIn c.args.logs.now) (take c.in-Some.at l)) (sym c.log-log.ensures)
    (front_in c.args.site.now c.args.logs.now c.requires.under c.me-me.ensures.site c.args.replica c.args.index c.args.call.now c.requires.call c.decider_of.result c.decider_of.ensures
    c.requires.planned c.in-Some.at first c.index-logs-decider-in-Some.result c.index-logs-decider-in-Some.is)

pub overflow_cast-index : goal.overflow_cast-index
overflow_cast-index c =
    let small = index_small c.args.site.now c.args.logs.now c.requires.under c.me-me.ensures.site c.args.replica c.args.index c.args.call.now c.requires.call in omega arith

pub overflow_add-index : goal.overflow_add-index
overflow_add-index c =
    let small = index_small c.args.site.now c.args.logs.now c.requires.under c.me-me.ensures.site c.args.replica c.args.index c.args.call.now c.requires.call in omega arith

pub returns : goal.returns
returns c =
    let first = first_is c.args.site.now c.args.logs.now c.requires.under c.me-me.ensures.site c.args.replica c.args.index c.args.call.now c.requires.call c.decider_of.result c.decider_of.ensures
    c.index-logs-decider.result c.index_of.result c.in-Some.at c.index-logs-decider.is c.index_of.ensures c.in-Some.is in
    found_late c.args.site.now c.args.logs.now c.requires.under c.me-me.ensures.site c.args.replica c.args.index c.args.call.now c.requires.call c.decider_of.result c.decider_of.ensures
    c.requires.planned c.in-Some.at first c.index-logs-decider-in-Some.result c.index-logs-decider-in-Some.is c.first_late-need.result c.late_by.result
    (c.first_late-need.ensures
    ∙ ap (λ (l : List Logged). faults.late_need (setting_at c.args.site.now) (audited (setting_at c.args.site.now) c.args.logs.now) c.args.call.now.place (places (take c.args.index (log_of c.args.logs.now c.args.replica))) (places (take c.in-Some.at l))) c.log-log.ensures)
    c.late_by.ensures
