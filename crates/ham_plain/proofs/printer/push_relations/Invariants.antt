use Rattle.std.proofs.Common.{◌≡◌, ◌++◌, take}
use Rattle.std.specs.List.{flat_map}
use Rattle.ham_plain.specs.declared.line.PlainLine.TheVariants as lines
use Rattle.ham_plain.specs.Plain.{line_text}
use Rattle.ham_plain.specs.Written.{written_relation}
use Rattle.ham_plain.proofs.printer.push_relations.Given as goal

abbrev pub invariant-loop-relation : goal.invariant-loop-relation
invariant-loop-relation l = l.text ≡ l.fn.text ++ flat_map (λ r. line_text (lines.Relation (written_relation r))) (take l.relation-index l.relations)
