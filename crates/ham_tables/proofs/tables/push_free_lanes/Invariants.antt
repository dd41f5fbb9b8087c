use Rattle.ham_text.specs.Written.{line_text}
use Rattle.ham_tables.specs.TablesText.{own_lanes}
use Rattle.ham_tables.proofs.Written.{IsWritten}
use Rattle.ham_tables.proofs.tables.push_free_lanes.Given as goal

abbrev pub invariant-loop-m : goal.invariant-loop-m
invariant-loop-m l = IsWritten line_text (own_lanes l.named.object.now l.named.plan.now) l.m l.initial.text l.text
