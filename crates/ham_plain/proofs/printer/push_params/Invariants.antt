use Rattle.std.proofs.Common.{◌≡◌, ◌++◌, take}
use Rattle.std.specs.List.{flat_map}
use Rattle.ham_plain.specs.declared.line.PlainLine.TheVariants as lines
use Rattle.ham_plain.specs.Plain.{line_text}
use Rattle.ham_plain.proofs.printer.push_params.Given as goal

abbrev pub invariant-loop-param : goal.invariant-loop-param
invariant-loop-param l = l.text ≡ l.fn.text ++ flat_map (λ p. line_text (lines.Param p)) (take l.param-index l.params)
