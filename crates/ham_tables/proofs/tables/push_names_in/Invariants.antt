use Rattle.std.proofs.Common.{◌∷◌}
use Rattle.ham_tables.specs.TablesText.{name_if_in}
use Rattle.ham_tables.proofs.Written.{IsWritten}
use Rattle.ham_tables.proofs.tables.push_names_in.Given as goal

abbrev pub invariant-loop-m : goal.invariant-loop-m
invariant-loop-m l = IsWritten (λ name. 32 ∷ name) (name_if_in l.named.object.now l.named.plan.now l.group) l.m l.initial.text l.text
