use Rattle.std.proofs.Common.{◌≡◌, ◌++◌, take}
use Rattle.std.specs.List.{flat_map}
use Rattle.ham_plain.specs.declared.line.PlainLine.TheVariants as lines
use Rattle.ham_plain.specs.Plain.{line_text}
use Rattle.ham_plain.proofs.printer.push_counters.Given as goal

abbrev pub invariant-loop-counter : goal.invariant-loop-counter
invariant-loop-counter l = l.text ≡ l.fn.text ++ flat_map (λ c. line_text (lines.Counter c)) (take l.counter-index l.counters)
