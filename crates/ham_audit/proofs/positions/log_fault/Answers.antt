use Rattle.std.proofs.Common.{rules, arith, sym, subst, ◌∙◌, refl}
use Rattle.ham_site.specs.Sites.{rules_at, setting_at}
use Rattle.ham_audit.proofs.Indexing.{log_at}
use Rattle.ham_audit.proofs.Looking.{counts_push, few_push, in_at, stops, goes}
use Rattle.ham_plan.specs.Lists.{In}
use Rattle.ham_audit.proofs.positions.log_fault.Goals as goal

pub loop-i-init : goal.loop-i-init
loop-i-init c = record {
  log = c.log-log.ensures ∙ log_at c.args.logs.now c.args.replica c.index-logs-replica.result c.requires.first c.requires.last c.index-logs-replica.is;
  rest = refl;
  size = c.no_counts-counts.ensures.size;
  counts = λ k h. c.no_counts-counts.ensures.none k h;
  few = λ k h. let z = c.no_counts-counts.ensures.none k h in omega (arith, z);
}

pub fault_at-fault-requires-clause-method : goal.fault_at-fault-requires-clause-method
fault_at-fault-requires-clause-method c =
    c.requires.methods c.args.replica c.index-log-i.result
    (subst (λ l. In c.index-log-i.result l) c.loop-i.invariant.log (in_at c.log-log.result.now c.loop-i.i c.index-log-i.result c.loop-i-test.true c.index-log-i.is))

pub returns-then-is_some : goal.returns-then-is_some
returns-then-is_some c =
    stops (rules_at c.args.site.now) (setting_at c.args.site.now) c.args.logs.now c.args.replica c.log-log.result.now c.loop-i.invariant.log c.loop-i.i c.index-log-i.result
    c.loop-i-test.true c.index-log-i.is c.fault_at-fault.result c.fault_at-fault.ensures c.loop-i.invariant.rest (sym c.is_some.ensures ∙ c.if-is_some.true)

pub loop-i-preserved : goal.loop-i-preserved
loop-i-preserved c = record {
  log = c.loop-i.invariant.log;
  rest = goes (rules_at c.args.site.now) (setting_at c.args.site.now) c.args.logs.now c.args.replica c.log-log.result.now c.loop-i.invariant.log c.loop-i.i c.index-log-i.result
      c.loop-i-test.true c.index-log-i.is c.fault_at-fault.result c.fault_at-fault.ensures c.loop-i.invariant.rest (sym c.is_some.ensures ∙ c.if-is_some.false);
  size = search rules;
  counts = counts_push c.loop-i.counts c.log-log.result.now c.loop-i.i c.index-log-i.result c.loop-i-test.true c.index-log-i.is c.loop-i.invariant.size (search rules) c.loop-i.invariant.counts;
  few = few_push c.loop-i.counts c.index-log-i.result.place.lane c.loop-i.i c.loop-i.invariant.size (search rules) c.loop-i.invariant.few;
}
