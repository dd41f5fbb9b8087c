-- What types say of the numbers in lists.
use Rattle.std.proofs.Common.{ℕ, zero, suc, ◌-◌, ◌<◌, List, [], ◌∷◌, get_or, arith}
use Rattle.std.specs.List.{AllByRecursion}
use Rattle.ham_frame.specs.Spelling.{IsIn}

pub all_below : (bound : ℕ) (xs : List ℕ) → ((i : ℕ) → get_or xs i 0 < bound) → AllByRecursion (IsIn 0 (bound - 1)) xs
all_below bound [] below = tt
all_below bound (x ∷ xs) below = let first = below zero in ((omega arith, omega arith), all_below bound xs (λ (i : ℕ). below (suc i)))
