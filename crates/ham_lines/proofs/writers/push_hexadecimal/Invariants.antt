use Rattle.std.proofs.Common.{◌≡◌, ◌++◌, take}
use Rattle.ham_lines.specs.Texts as texts
use Rattle.ham_lines.proofs.writers.push_hexadecimal.Given as goal

abbrev pub invariant-loop-byte : goal.invariant-loop-byte
invariant-loop-byte l = l.text ≡ l.fn.text ++ texts.hexadecimal (take l.byte-index l.bytes)
