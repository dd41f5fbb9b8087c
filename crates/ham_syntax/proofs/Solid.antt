-- The bytes of names are above the space.
use Rattle.std.proofs.Common.{◌≡◌, ◌==◌, ℕ, ◌<◌, ◌≤◌, true, ◌&&◌, ◌||◌, nat_lt, nat_le, List, [], ◌∷◌, length, refl, inl, inr, arith, lt-ltb}
use Rattle.std.specs.Prelude.{IsTrue}
use Rattle.std.specs.List.{list_all}
use Rattle.std.proofs.lemmas.Bool.{leb-true, eqb-true, and_parts, or_cases}
use Rattle.ham_syntax.specs.Names.{is_name, is_letter, is_name_byte}

range : (low high b : ℕ) → 32 < low → (nat_le low b && nat_le b high) ≡ true → nat_lt 32 b ≡ true
range low high b h e = let p = and_parts (nat_le low b) (nat_le b high) e in let at : low ≤ b = leb-true low b p.0 in lt-ltb 32 b (omega arith)

alone : (at b : ℕ) → 32 < at → (b == at) ≡ true → nat_lt 32 b ≡ true
alone at b h e = let s : b ≡ at = eqb-true b at e in lt-ltb 32 b (omega arith)

letter : (b : ℕ) → is_letter b ≡ true → nat_lt 32 b ≡ true
letter b e = elim (or_cases (nat_le 97 b && nat_le b 122) (nat_le 65 b && nat_le b 90) e) [
  | inl p ↦ range 97 122 b (omega arith) p
  | inr p ↦ range 65 90 b (omega arith) p
]

name_byte : (b : ℕ) → is_name_byte b ≡ true → nat_lt 32 b ≡ true
name_byte b e = elim (or_cases (is_letter b || (nat_le 48 b && nat_le b 57) || (b == 45)) (b == 95) e) [
  | inr p ↦ alone 95 b (omega arith) p
  | inl p ↦ elim (or_cases (is_letter b || (nat_le 48 b && nat_le b 57)) (b == 45) p) [
    | inr q ↦ alone 45 b (omega arith) q
    | inl q ↦ elim (or_cases (is_letter b) (nat_le 48 b && nat_le b 57) q) [
      | inl r ↦ letter b r
      | inr r ↦ range 48 57 b (omega arith) r
    ]
  ]
]

name_bytes : (bs : List ℕ) → list_all is_name_byte bs ≡ true → list_all (λ b. nat_lt 32 b) bs ≡ true
name_bytes [] e = refl
name_bytes (b ∷ bs) e = let q = and_parts (is_name_byte b) (list_all is_name_byte bs) e in rw (name_byte b q.0, name_bytes bs q.1) refl

pub name_solid : (w : List ℕ) → IsTrue (is_name w) → (0 < length w) × IsTrue (list_all (λ b. nat_lt 32 b) w)
name_solid [] e = absurd cc
name_solid (b ∷ bs) e =
    let p = and_parts (is_letter b && nat_lt (length bs) 32) (list_all is_name_byte bs) e in
    let solid : list_all (λ b. nat_lt 32 b) (b ∷ bs) ≡ true = rw (letter b (and_parts (is_letter b) (nat_lt (length bs) 32) p.0).0, name_bytes bs p.1) refl in
    (omega arith, solid)
