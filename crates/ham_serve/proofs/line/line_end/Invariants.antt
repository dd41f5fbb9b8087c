use Rattle.std.proofs.Common.{take}
use Rattle.ham_serve.specs.Lines.{HasNoEnd}
use Rattle.ham_serve.proofs.line.line_end.Given as goal

abbrev pub invariant-loop-at : goal.invariant-loop-at
invariant-loop-at l = HasNoEnd (take l.at l.bytes)
