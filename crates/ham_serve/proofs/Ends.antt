-- Line ends among bytes.
use Rattle.std.proofs.Common.{◌≡◌, ◌≢◌, ℕ, zero, suc, ◌+◌, ◌≤◌, ◌<◌, ◌⊎◌, List, [], ◌∷◌, ◌++◌, length, take, drop, get_or, refl, sym, ap, subst, ◌∙◌, inl, inr, arith, add-one}
use Rattle.std.proofs.lemmas.List.{append-nil, take-append-drop}
use Rattle.ham_serve.specs.Lines.{HasNoEnd, IsLine, IsTooLong}

pub no_end_more : (xs : List ℕ) (i : ℕ) → HasNoEnd (take i xs) → get_or xs i 0 ≢ 10 → HasNoEnd (take (suc i) xs)
no_end_more [] i h n = tt
no_end_more (x ∷ xs) zero h n = (n, tt)
no_end_more (x ∷ xs) (suc i) h n = (h.0, no_end_more xs i h.1 n)

pub no_end_next : (xs : List ℕ) (i : ℕ) → HasNoEnd (take i xs) → get_or xs i 0 ≢ 10 → HasNoEnd (take (i + 1) xs)
no_end_next xs i h n = rw add-one (no_end_more xs i h n)

pub no_end_front : (n : ℕ) (xs : List ℕ) → HasNoEnd xs → HasNoEnd (take n xs)
no_end_front zero xs h = tt
no_end_front (suc n) [] h = tt
no_end_front (suc n) (x ∷ xs) h = (h.0, no_end_front n xs h.1)

pub take_all : (n : ℕ) (xs : List ℕ) → length xs ≤ n → take n xs ≡ xs
take_all zero [] h = refl
take_all zero (x ∷ xs) h = absurd (omega arith)
take_all (suc n) [] h = refl
take_all (suc n) (x ∷ xs) h = ap (λ (l : List ℕ). x ∷ l) (take_all n xs (omega arith))

pub take_take : (n m : ℕ) (xs : List ℕ) → n ≤ m → take n (take m xs) ≡ take n xs
take_take zero m xs h = refl
take_take (suc n) zero xs h = absurd (omega arith)
take_take (suc n) (suc m) [] h = refl
take_take (suc n) (suc m) (x ∷ xs) h = ap (λ (l : List ℕ). x ∷ l) (take_take n m xs (omega arith))

take_get : (n m : ℕ) (xs : List ℕ) (d : ℕ) → n < m → get_or (take m xs) n d ≡ get_or xs n d
take_get n zero xs d h = absurd (omega arith)
take_get n (suc m) [] d h = refl
take_get zero (suc m) (x ∷ xs) d h = refl
take_get (suc n) (suc m) (x ∷ xs) d h = take_get n m xs d (omega arith)

take_length : (n : ℕ) (xs : List ℕ) → length (take n xs) ≤ n
take_length zero xs = omega arith
take_length (suc n) [] = omega arith
take_length (suc n) (x ∷ xs) = omega (arith, take_length n xs)

cut : (xs : List ℕ) (i : ℕ) → i < length xs → get_or xs i 0 ≡ 10 → drop i xs ≡ 10 ∷ drop 1 (drop i xs)
cut [] i h e = absurd (omega arith)
cut (x ∷ xs) zero h e = ap (λ (z : ℕ). z ∷ xs) e
cut (x ∷ xs) (suc i) h e = cut xs i (omega arith) e

front_length : (n : ℕ) (xs : List ℕ) → length (take n xs) ≤ length xs
front_length zero xs = omega arith
front_length (suc n) [] = omega arith
front_length (suc n) (x ∷ xs) = omega (arith, front_length n xs)

-- what an end in the front says of the whole
pub cut_line : (bytes front : List ℕ) (at : ℕ) → front ≡ take 4096 bytes → at < length front → get_or front at 0 ≡ 10
    → bytes ≡ take at bytes ++ 10 ∷ drop 1 (drop at bytes)
cut_line bytes front at e h g =
    let short : at < 4096 = omega (arith, ap length e, take_length 4096 bytes) in
    let within : at < length bytes = omega (arith, ap length e, front_length 4096 bytes) in
    let here : get_or bytes at 0 ≡ 10 = sym (take_get at 4096 bytes 0 short) ∙ ap (λ (l : List ℕ). get_or l at 0) (sym e) ∙ g in
    sym (take-append-drop at bytes) ∙ ap (λ (l : List ℕ). take at bytes ++ l) (cut bytes at within here)

pub line_in_front : (bytes front : List ℕ) (at : ℕ) → front ≡ take 4096 bytes → at < length front → HasNoEnd (take at front) → IsLine (take at bytes)
line_in_front bytes front at e h n =
    let short : at < 4096 = omega (arith, ap length e, take_length 4096 bytes) in
    let same : take at front ≡ take at bytes = ap (take at) e ∙ take_take at 4096 bytes (omega (arith, short)) in
    record { short = omega (arith, take_length at bytes, short); no_end = subst HasNoEnd same n }

-- less than 4,096 bytes without an end in front are a line begun
pub held_line : (bytes : List ℕ) → HasNoEnd (take 4096 bytes) → length bytes < 4096 → IsLine bytes
held_line bytes n h = record { short = h; no_end = subst HasNoEnd (take_all 4096 bytes (omega arith)) n }

pub within_front : (bytes front : List ℕ) (at : ℕ) → front ≡ take 4096 bytes → at < length front → at < length bytes
within_front bytes front at e h = omega (arith, ap length e, front_length 4096 bytes)

pub whole_front : (bytes : List ℕ) → length bytes < 4096 → bytes ≡ take 4096 bytes
whole_front bytes h = sym (take_all 4096 bytes (omega arith))
