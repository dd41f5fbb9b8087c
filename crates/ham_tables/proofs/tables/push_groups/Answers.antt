use Rattle.std.proofs.Common.{arith}
use Rattle.ham_text.specs.Written.{line_text}
use Rattle.ham_tables.specs.TablesText.{group_line}
use Rattle.ham_tables.proofs.Written.{each-more}
use Rattle.ham_tables.proofs.tables.push_groups.Goals as goal

pub loop-group-preserved : goal.loop-group-preserved
loop-group-preserved c = each-more line_text (group_line c.args.named.now.object.now c.args.named.now.plan.now) 0 c.loop-group.group c.loop-group.group c.args.text.now c.loop-group.text _ (omega arith) c.loop-group.invariant c.in_ok-push_group.ensures
