-- A text of lines is cut into them again.
use Rattle.std.proofs.Common.{◌≡◌, ◌==◌, ℕ, ◌<◌, ◌≤◌, Bool, true, false, ◌&&◌, nat_lt, List, [], ◌∷◌, ◌++◌, length, refl, sym, ap, ◌∙◌, arith, append_assoc}
use Rattle.std.specs.List.{AllByRecursion}
use Rattle.std.proofs.lemmas.Bool.{ltb-true, and_parts}
use Rattle.std.proofs.lemmas.Bool.Decides.{nat_tests}
use Rattle.std.proofs.lemmas.List.Splits.{slice_split_at, length-slice_split}
use Rattle.std.proofs.lemmas.List.Elements.{All-from_recursion}
use Rattle.ham_text.specs.Cuts.{parts_of, without_empty_end, lines_of}
use Rattle.ham_text.specs.Written.{ended, joined, is_solid, is_solid_byte, AreWords}

-- no byte of it ends a line
abbrev pub IsLine : List ℕ → Type 0
IsLine w = AllByRecursion (λ b. (b == 10) ≡ false) w

not_end : (b : ℕ) → nat_lt 32 b ≡ true → (b == 10) ≡ false
not_end b e = let low : 32 < b = ltb-true 32 b e in grind (arith, nat_tests)

solid_line : (w : List ℕ) → is_solid w ≡ true → IsLine w
solid_line [] h = tt
solid_line (b ∷ w) h = let p = and_parts (is_solid_byte b) (is_solid w) h in (not_end b p.0, solid_line w p.1)

line_append : (xs ys : List ℕ) → IsLine xs → IsLine ys → IsLine (xs ++ ys)
line_append [] ys h k = k
line_append (b ∷ xs) ys h k = (h.0, line_append xs ys h.1 k)

pub joined_line : (ws : List (List ℕ)) → AreWords ws → IsLine (joined ws)
joined_line [] h = tt
joined_line (w ∷ []) h = solid_line w h.0.1
joined_line (w ∷ v ∷ ws) h = line_append w (32 ∷ joined (v ∷ ws)) (solid_line w h.0.1) (refl, joined_line (v ∷ ws) h.1)

longer : (l : List ℕ) (ls : List (List ℕ)) → 0 < length ls → without_empty_end (l ∷ ls) ≡ l ∷ without_empty_end ls
longer l [] h = absurd (omega arith)
longer l (m ∷ ls) h = refl

-- the first line, and what comes after it
pub line_first : (w rest : List ℕ) → IsLine w → lines_of (ended w ++ rest) ≡ w ∷ lines_of rest
unfolding lines_of
line_first w rest h =
    ap (λ (bytes : List ℕ). without_empty_end (parts_of 10 bytes)) (append_assoc w (10 ∷ []) rest)
    ∙ ap without_empty_end (slice_split_at (λ b. b == 10) w 10 rest (All-from_recursion _ w h) refl)
    ∙ longer w (parts_of 10 rest) (omega (arith, length-slice_split (λ b. b == 10) rest))

pub none_line : lines_of [] ≡ []
unfolding lines_of
none_line = refl
