use Rattle.ham_text.specs.Written.{line_text}
use Rattle.ham_tables.specs.TablesText.{conflict_row}
use Rattle.ham_tables.proofs.Written.{IsWritten}
use Rattle.ham_tables.proofs.tables.push_conflicts.Given as goal

abbrev pub invariant-loop-m : goal.invariant-loop-m
invariant-loop-m l = IsWritten line_text (conflict_row l.named.object.now l.named.plan.now) l.m l.initial.text l.text
