use Rattle.std.proofs.Common.{◌≡◌, ◌++◌, take}
use Rattle.std.specs.List.{flat_map}
use Rattle.ham_plain.specs.declared.line.PlainLine.TheVariants as lines
use Rattle.ham_plain.specs.Plain.{line_text}
use Rattle.ham_plain.specs.Written.{written_effect}
use Rattle.ham_plain.proofs.printer.push_effects.Given as goal

abbrev pub invariant-loop-effect : goal.invariant-loop-effect
invariant-loop-effect l = l.text ≡ l.fn.text ++ flat_map (λ e. line_text (lines.Effect (written_effect l.object l.params e))) (take l.effect-index l.effects)
