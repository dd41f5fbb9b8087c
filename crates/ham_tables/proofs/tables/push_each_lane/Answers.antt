use Rattle.std.proofs.Common.{◌+◌, arith}
use Rattle.ham_text.specs.Written.{line_text}
use Rattle.ham_tables.specs.TablesText.{own_lane}
use Rattle.ham_tables.proofs.Written.{each-more}
use Rattle.ham_tables.proofs.tables.push_each_lane.Goals as goal

pub loop-before-preserved : goal.loop-before-preserved
loop-before-preserved c = each-more line_text (own_lane c.args.named.now.object.now c.args.named.now.plan.now c.args.m) 1 c.loop-before.before (c.loop-before.before + 1) c.args.text.now c.loop-before.text _ (omega arith) c.loop-before.invariant (rw (← c.lane_of.ensures.lane) c.in_ok-push_own_lane.ensures)
