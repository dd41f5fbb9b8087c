-- Numbers at keys, in a table.
use Rattle.std.specs.Prelude.{ℕ, Bool, ◌&&◌, List, unwrap_or}
use Rattle.std.specs.HashMap as hash
use Rattle.std.specs.HashMap.{HashMap}
use Rattle.ham_content.specs.Numbers.{same}

-- the number at the key; a key that has no entry stands at 0
abbrev pub count : {S : Type 0} → HashMap (List ℕ) ℕ S → List ℕ → ℕ
count tallies k = unwrap_or (hash.get same tallies k) 0

-- the row is there, and its projection is the key
abbrev pub has_at : (List ℕ → List ℕ) → (List ℕ → Bool) → List ℕ → List ℕ → Bool
has_at project here k x = same (project x) k && here x
