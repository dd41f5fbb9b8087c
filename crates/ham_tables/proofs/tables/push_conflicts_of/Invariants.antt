use Rattle.ham_text.specs.Written.{line_text}
use Rattle.ham_tables.specs.TablesText.{conflict_pair}
use Rattle.ham_tables.proofs.Written.{IsWritten}
use Rattle.ham_tables.proofs.tables.push_conflicts_of.Given as goal

abbrev pub invariant-loop-n : goal.invariant-loop-n
invariant-loop-n l = IsWritten line_text (conflict_pair l.named.object.now l.named.plan.now l.m) l.n l.initial.text l.text
