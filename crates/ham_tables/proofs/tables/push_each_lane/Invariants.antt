use Rattle.ham_text.specs.Written.{line_text}
use Rattle.ham_tables.specs.TablesText.{own_lane}
use Rattle.ham_tables.proofs.Written.{IsEach}
use Rattle.ham_tables.proofs.tables.push_each_lane.Given as goal

abbrev pub invariant-loop-before : goal.invariant-loop-before
invariant-loop-before l = IsEach line_text (own_lane l.named.object.now l.named.plan.now l.m) 1 l.before l.initial.text l.text
