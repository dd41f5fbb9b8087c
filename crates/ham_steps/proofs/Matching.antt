-- A pattern and a row, place by place.
use Rattle.std.proofs.Common.{◌≡◌, ℕ, suc, ◌+◌, ◌<◌, true, false, ◌&&◌, List, [], ◌∷◌, refl, sym, ap, ◌∙◌, subst, inl, inr, arith, length, get_or, drop, drop-cons, add-one, zero, map, ◌⊎◌}
use Rattle.std.proofs.lemmas.Bool.{and_parts, true≢false, false_from_ne_true}
use Rattle.ham_syntax.specs.declared.term.Term.{Term}
use Rattle.ham_syntax.specs.declared.term.Term.TheVariants.{Param, Const, Any}
use Rattle.ham_steps.specs.Pattern.{fits, matches}

matches-length : (ts : List Term) (x : List ℕ) → matches ts x ≡ true → length ts ≡ length x
matches-length [] [] m = refl
matches-length [] (y ∷ x) m = absurd (true≢false (sym m))
matches-length (t ∷ ts) [] m = absurd (true≢false (sym m))
matches-length (t ∷ ts) (y ∷ x) m = ap suc (matches-length ts x (and_parts (fits t y) (matches ts x) m).1)

pub matches_step : (ts : List Term) (xs : List ℕ) (i : ℕ) (t : Term) → length ts ≡ length xs → i < length ts → matches (drop i ts) (drop i xs) ≡ (fits (get_or ts i t) (get_or xs i 0) && matches (drop (i + 1) ts) (drop (i + 1) xs))
matches_step ts xs i t e h =
    let below : i < length xs = omega arith in
    (λ j. matches (drop-cons ts i t h j) (drop-cons xs i 0 below j)) ∙ rw (add-one i) refl

pub matches_end : (ts : List Term) (xs : List ℕ) → length ts ≡ 0 → length xs ≡ 0 → true ≡ matches ts xs
matches_end [] [] e f = refl
matches_end [] (x ∷ xs) e f = absurd (omega arith)
matches_end (t ∷ ts) xs e f = absurd (omega arith)

pub matches_other : (ts : List Term) (xs : List ℕ) → (length ts ≡ length xs → ⊥) → false ≡ matches ts xs
matches_other ts xs ne = sym (false_from_ne_true (matches ts xs) (λ m. ne (matches-length ts xs m)))

-- in a pattern of constants each term is one
constant_at : (row : List ℕ) (i : ℕ) (t : Term) → i < length (map Const row) → get_or (map Const row) i t ≡ Const (get_or row i 0)
constant_at [] i t h = absurd (omega arith)
constant_at (x ∷ row) zero t h = refl
constant_at (x ∷ row) (suc i) t h = constant_at row i t (omega arith)

pub not_constants : (pattern : List Term) (i : ℕ) → i < length pattern → ((p : ℕ) × (get_or pattern i (Param 0) ≡ Param p)) ⊎ (get_or pattern i (Param 0) ≡ Any) → (row : List ℕ) → map Const row ≡ pattern → ⊥
not_constants pattern i h other row e =
    let read : get_or pattern i (Param 0) ≡ Const (get_or row i 0) = ap (λ ts. get_or ts i (Param 0)) (sym e) ∙ constant_at row i (Param 0) (subst (λ ts. i < length ts) (sym e) h) in
    elim other [ inl param ↦ let is : get_or pattern i (Param 0) ≡ Param param.0 = param.1 in cc | inr any ↦ cc ]
