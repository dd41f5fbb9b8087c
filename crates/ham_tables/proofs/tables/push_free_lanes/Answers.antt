use Rattle.ham_text.specs.Written.{line_text}
use Rattle.ham_tables.specs.TablesText.{own_lanes}
use Rattle.ham_tables.proofs.Written.{written-more}
use Rattle.ham_tables.proofs.tables.push_free_lanes.Goals as goal

pub loop-m-preserved : goal.loop-m-preserved
loop-m-preserved c = written-more line_text (own_lanes c.args.named.now.object.now c.args.named.now.plan.now) c.loop-m.m c.args.text.now c.loop-m.text _ c.loop-m.invariant c.in_ok-push_own_lanes.ensures
