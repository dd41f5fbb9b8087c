-- Places at which bytes are cut.
use Rattle.std.specs.Prelude.{ℕ, nat_lt, Bool, true, ◌&&◌, List, [], ◌∷◌}

-- cuts after a place and before another, that ascend
abbrev pub is_ascending : ℕ → List ℕ → ℕ → Bool
is_ascending after [] end = true
is_ascending after (c ∷ cs) end = (nat_lt after c && nat_lt c end) && is_ascending c cs end
