use Rattle.std.proofs.Common.{◌≡◌, ◌++◌, take}
use Rattle.std.specs.List.{flat_map}
use Rattle.ham_plain.specs.Printing.{method_text}
use Rattle.ham_plain.proofs.printer.push_methods.Given as goal

abbrev pub invariant-loop-method : goal.invariant-loop-method
invariant-loop-method l = l.text ≡ l.fn.text ++ flat_map (method_text l.object) (take l.method-index l.methods)
