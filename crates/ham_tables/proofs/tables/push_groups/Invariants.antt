use Rattle.ham_text.specs.Written.{line_text}
use Rattle.ham_tables.specs.TablesText.{group_line}
use Rattle.ham_tables.proofs.Written.{IsEach}
use Rattle.ham_tables.proofs.tables.push_groups.Given as goal

abbrev pub invariant-loop-group : goal.invariant-loop-group
invariant-loop-group l = IsEach line_text (group_line l.named.object.now l.named.plan.now) 0 l.group l.initial.text l.text
