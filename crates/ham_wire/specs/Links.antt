-- A link as bytes with the ends of its frames.
use Rattle.std.specs.Prelude.{◌≡◌, ℕ, zero, suc, ◌-◌, ◌≤◌, List, [], ◌∷◌, take, drop}

-- the parts of `bytes` from `from` on, that end at these ends
abbrev pub parts : ℕ → List ℕ → List ℕ → List (List ℕ)
parts from [] bytes = []
parts from (e ∷ ends) bytes = take (e - from) (drop from bytes) ∷ parts e ends bytes

-- ends that ascend from `from` to the last
abbrev pub AscendTo : ℕ → List ℕ → ℕ → Type 0
AscendTo from [] last = from ≡ last
AscendTo from (e ∷ ends) last = (from ≤ e) × AscendTo e ends last

-- where the n-th of the parts that begin at `from` ends
abbrev pub end_at : ℕ → List ℕ → ℕ → ℕ
end_at from ends zero = from
end_at from [] (suc n) = from
end_at from (e ∷ ends) (suc n) = end_at e ends n
