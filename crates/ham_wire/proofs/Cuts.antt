-- Cuts that ascend.
use Rattle.std.proofs.Common.{◌≡◌, ℕ, ◌+◌, ◌-◌, ◌<◌, ◌≤◌, List, ◌∷◌, true, length, take, drop, get_or, arith}
use Rattle.std.proofs.lemmas.List.{drop_more, length-take-le, length-drop}
use Rattle.std.proofs.lemmas.Grind.{common_steps}
use Rattle.ham_wire.specs.Cuts.{is_ascending}

pub record Cut (after cut end : ℕ) (more : List ℕ) : Type 0 where
  pub above : after < cut
  pub below : cut < end
  pub rest : is_ascending cut more end ≡ true

cut_first : (after c end : ℕ) (cs : List ℕ) → is_ascending after (c ∷ cs) end ≡ true → Cut after c end cs
cut_first after c end cs h = record { above = grind (arith, common_steps); below = grind (arith, common_steps); rest = grind (arith, common_steps) }

pub cut_at : (after : ℕ) (cuts : List ℕ) (i end : ℕ) → i < length cuts → is_ascending after (drop i cuts) end ≡ true → Cut after (get_or cuts i 0) end (drop (i + 1) cuts)
cut_at after cuts i end h up = cut_first after (get_or cuts i 0) end (drop (i + 1) cuts) (rw (drop_more cuts i 0 h) at up)

pub length-piece : (start end : ℕ) (bytes : List ℕ) → start ≤ end → end ≤ length bytes → length (take (end - start) (drop start bytes)) ≡ end - start
length-piece start end bytes a b =
    let h : end - start ≤ length (drop start bytes) = omega (arith, length-drop start bytes) in
    length-take-le (end - start) (drop start bytes) h
