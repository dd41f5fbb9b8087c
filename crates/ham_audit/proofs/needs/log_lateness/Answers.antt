use Rattle.std.proofs.Common.{◌≡◌, ◌++◌, ◌∷◌, [], ◌+◌, ◌<◌, ◌≤◌, ℕ, List, length, length-set, take, get_or, refl, sym, subst, ap, ◌∙◌, true, false, arith, rules}
use Rattle.std.specs.Prelude.{slice_get, slice_index, slice_set, ◌==◌, ◌-◌}
use Rattle.ham_site.specs.Sites.{setting_at}
use Rattle.ham_records.specs.declared.records.Logged.{Logged}
use Rattle.ham_audit.specs.Lateness.{HasFirst, counted}
use Rattle.ham_audit.specs.Records.{log_of, places}
use Rattle.ham_audit.proofs.Indexing.{log_at}
use Rattle.ham_audit.proofs.Looking.{take_push, places_push}
use Rattle.ham_audit.proofs.Reaching.{number_in}
use Rattle.ham_audit.proofs.Under.{lane_in}
use Rattle.ham_audit.proofs.Timely.{call_there, got_within, firsts_none, firsts_next, counted_size, late_stops, late_goes}
use Rattle.ham_audit.proofs.needs.log_lateness.Goals as goal

pub loop-i-init : goal.loop-i-init
loop-i-init c = record {
  log = c.log-log.ensures ∙ log_at c.args.logs.now c.args.replica c.index-logs-replica.result c.requires.replica.0 (let n = c.requires.under.recorded.replicas in let h = c.requires.replica.1 in omega arith) c.index-logs-replica.is;
  size = c.no_counts-counts.ensures.size;
  firsts = firsts_none c.no_counts-counts.result c.no_counts-counts.ensures.size c.no_counts-counts.ensures.none;
  rest = refl;
}

pub late_at-fault-requires-clause-call : goal.late_at-fault-requires-clause-call
late_at-fault-requires-clause-call c = call_there c.args.logs.now c.args.replica c.loop-i.i c.index-log-i.result c.log-log.result.now c.loop-i.invariant.log c.loop-i-test.true c.index-log-i.is

pub returns-then-is_some : goal.returns-then-is_some
returns-then-is_some c =
    late_stops (setting_at c.args.site.now) c.args.logs.now c.args.replica c.loop-i.i c.index-log-i.result
    (call_there c.args.logs.now c.args.replica c.loop-i.i c.index-log-i.result c.log-log.result.now c.loop-i.invariant.log c.loop-i-test.true c.index-log-i.is)
    c.late_at-fault.result c.late_at-fault.ensures c.loop-i.invariant.rest (sym c.is_some.ensures ∙ c.if-is_some.true)

pub count_in-requires : goal.count_in-requires
count_in-requires c =
    let got = call_there c.args.logs.now c.args.replica c.loop-i.i c.index-log-i.result c.log-log.result.now c.loop-i.invariant.log c.loop-i-test.true c.index-log-i.is in
    number_in c.args.site.now c.args.logs.now c.requires.under c.requires.planned c.args.replica c.index-log-i.result (got_within (log_of c.args.logs.now c.args.replica) c.loop-i.i c.index-log-i.result got)

pub loop-i-preserved : goal.loop-i-preserved
loop-i-preserved c =
    let got = call_there c.args.logs.now c.args.replica c.loop-i.i c.index-log-i.result c.log-log.result.now c.loop-i.invariant.log c.loop-i-test.true c.index-log-i.is in
    let lane = lane_in c.args.site.now c.args.logs.now c.requires.under c.args.replica c.index-log-i.result (got_within (log_of c.args.logs.now c.args.replica) c.loop-i.i c.index-log-i.result got) in
    let few = c.me-me.ensures.site.tabled.few_lanes in
    let low : c.index-log-i.result.place.lane < 256 = omega (arith, lane, few) in
    record {
      log = c.loop-i.invariant.log;
      size = ap (λ (l : List ℕ). length l) c.count_in.ensures ∙ counted_size c.loop-i.counts c.index-log-i.result.place ∙ c.loop-i.invariant.size;
      firsts = subst (λ l. HasFirst l (places (take (c.loop-i.i + 1) (log_of c.args.logs.now c.args.replica)))) (sym c.count_in.ensures)
          (firsts_next c.loop-i.counts (log_of c.args.logs.now c.args.replica) c.loop-i.i c.index-log-i.result got (let n = c.loop-i.invariant.size in omega (arith, n, low)) c.loop-i.invariant.firsts);
      rest = late_goes (setting_at c.args.site.now) c.args.logs.now c.args.replica c.loop-i.i c.index-log-i.result got
          c.late_at-fault.result c.late_at-fault.ensures c.loop-i.invariant.rest (sym c.is_some.ensures ∙ c.if-is_some.false);
    }
