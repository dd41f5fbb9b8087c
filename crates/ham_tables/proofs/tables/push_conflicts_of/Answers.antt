use Rattle.ham_text.specs.Written.{line_text}
use Rattle.ham_tables.specs.TablesText.{conflict_pair}
use Rattle.ham_tables.proofs.Written.{written-more}
use Rattle.ham_tables.proofs.tables.push_conflicts_of.Goals as goal

pub loop-n-preserved : goal.loop-n-preserved
loop-n-preserved c = written-more line_text (conflict_pair c.args.named.now.object.now c.args.named.now.plan.now c.args.m) c.loop-n.n c.args.text.now c.loop-n.text _ c.loop-n.invariant c.in_ok-push_conflict.ensures
