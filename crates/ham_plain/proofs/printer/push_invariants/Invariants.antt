use Rattle.std.proofs.Common.{◌≡◌, ◌++◌, take}
use Rattle.std.specs.List.{flat_map}
use Rattle.ham_plain.specs.declared.line.PlainLine.TheVariants as lines
use Rattle.ham_plain.specs.Plain.{line_text}
use Rattle.ham_plain.specs.Written.{written_invariant}
use Rattle.ham_plain.proofs.printer.push_invariants.Given as goal

abbrev pub invariant-loop-invariant : goal.invariant-loop-invariant
invariant-loop-invariant l = l.text ≡ l.fn.text ++ flat_map (λ i. line_text (lines.Invariant (written_invariant l.object i))) (take l.invariant-index l.invariants)
