use Rattle.std.proofs.Common.{◌≡◌, ◌++◌, length}
use Rattle.std.specs.Int.{bytes_high_first}
use Rattle.ham_frame.specs.Plain.{counts_bytes}
use Rattle.ham_frame.proofs.whole.deps.Given as goal

abbrev pub invariant-loop : goal.invariant-loop
invariant-loop l = (length l.deps ≡ l.counter) × (l.bytes ≡ bytes_high_first 2 l.count ++ (counts_bytes l.deps ++ l.rest))
