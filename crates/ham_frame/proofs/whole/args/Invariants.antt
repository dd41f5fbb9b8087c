use Rattle.std.proofs.Common.{◌≡◌, ◌∷◌, ◌++◌, length, take}
use Rattle.ham_syntax.specs.declared.limits.TheConstants.{MAX_PARAMS}
use Rattle.ham_frame.specs.Plain.{args_bytes}
use Rattle.ham_frame.proofs.whole.args.Given as goal

abbrev pub invariant-loop-i : goal.invariant-loop-i
invariant-loop-i l = (length l.args ≡ MAX_PARAMS) × (l.bytes ≡ l.count ∷ (args_bytes (take l.i l.args) ++ l.rest))
