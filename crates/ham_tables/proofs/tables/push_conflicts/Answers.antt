use Rattle.ham_text.specs.Written.{line_text}
use Rattle.ham_tables.specs.TablesText.{conflict_row}
use Rattle.ham_tables.proofs.Written.{written-more}
use Rattle.ham_tables.proofs.tables.push_conflicts.Goals as goal

pub loop-m-preserved : goal.loop-m-preserved
loop-m-preserved c = written-more line_text (conflict_row c.args.named.now.object.now c.args.named.now.plan.now) c.loop-m.m c.args.text.now c.loop-m.text _ c.loop-m.invariant c.in_ok-push_conflicts_of.ensures
