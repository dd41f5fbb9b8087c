use Rattle.std.proofs.Common.{◌≡◌, ◌++◌, take}
use Rattle.std.specs.List.{flat_map}
use Rattle.ham_plain.specs.declared.line.PlainLine.TheVariants as lines
use Rattle.ham_plain.specs.Plain.{line_text}
use Rattle.ham_plain.specs.Written.{written_guard}
use Rattle.ham_plain.proofs.printer.push_guards.Given as goal

abbrev pub invariant-loop-guard : goal.invariant-loop-guard
invariant-loop-guard l = l.text ≡ l.fn.text ++ flat_map (λ g. line_text (lines.Guard (written_guard l.object l.params g))) (take l.guard-index l.guards)
