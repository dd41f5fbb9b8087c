use Rattle.std.proofs.Common.{◌≡◌, ◌+◌, ◌<◌, ◌≤◌, ℕ, drop, length, get_or, refl, sym, subst, ap, ◌∙◌, arith, None}
use Rattle.std.proofs.Math.ListN.{drop_of_length-le}
use Rattle.ham_site.specs.Sites.{setting_at}
use Rattle.ham_plan.specs.Lists.{In}
use Rattle.ham_audit.specs.Faults as faults
use Rattle.ham_audit.specs.Order.{taken_after}
use Rattle.ham_audit.specs.Records.{log_of}
use Rattle.ham_audit.proofs.Answering.{left_stops, left_goes}
use Rattle.ham_audit.proofs.Indexing.{log_at}
use Rattle.ham_audit.proofs.Looking.{in_at}
use Rattle.ham_audit.proofs.Under.{lane_in}
use Rattle.ham_audit.proofs.auditing.left_in.Goals as goal

pub is_left-requires-clause-lane : goal.is_left-requires-clause-lane
is_left-requires-clause-lane c =
    lane_in c.args.site.now c.args.logs.now c.requires.under c.args.replica c.index-log-i.result
    (subst (λ l. In c.index-log-i.result l) c.loop-i.invariant.log (in_at c.log-log.result.now c.loop-i.i c.index-log-i.result c.loop-i-test.true c.index-log-i.is))

pub returns-then-is_left : goal.returns-then-is_left
returns-then-is_left c =
    left_stops (setting_at c.args.site.now) (taken_after (setting_at c.args.site.now) c.args.logs.now c.args.progress.now.count) c.args.replica c.log-log.result.now c.loop-i.i c.index-log-i.result
    c.loop-i-test.true c.index-log-i.is c.is_left.result c.is_left.ensures c.if-is_left.true
    ∙ c.loop-i.invariant.rest

pub loop-i-preserved : goal.loop-i-preserved
loop-i-preserved c = record {
  log = c.loop-i.invariant.log;
  rest = left_goes (setting_at c.args.site.now) (taken_after (setting_at c.args.site.now) c.args.logs.now c.args.progress.now.count) c.args.replica c.log-log.result.now c.loop-i.i c.index-log-i.result
      c.loop-i-test.true c.index-log-i.is c.is_left.result c.is_left.ensures c.if-is_left.false
      ∙ c.loop-i.invariant.rest;
}
