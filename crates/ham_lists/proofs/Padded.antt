-- An array that holds a list and then the filler.
use Rattle.std.proofs.Common.{◌≡◌, ℕ, suc, ◌+◌, ◌-◌, ◌<◌, ◌≤◌, List, [], ◌∷◌, ◌++◌, length, length-append, take, drop, set, refl, sym, ap, ◌∙◌, subst, arith}
use Rattle.std.specs.Prelude.{replicate}
use Rattle.std.proofs.lemmas.List.{drop-replicate, length-replicate, take_more_set, set_split, length_push}
use Rattle.std.proofs.Math.Seq.{take-append_seam, append_snoc}
use Rattle.ham_lists.specs.InPlace.{padded, IsPadded}

pub IsPadded-padded : {A : Type 0} (filler : A) (n : ℕ) (xs : List A) → length xs ≤ n → IsPadded filler n (length xs) (padded filler n xs)
IsPadded-padded filler n xs h =
    let front = take-append_seam xs (replicate (n - length xs) filler) in
    record { few = h; width = ap length front; rest = ap (padded filler n) front }

pub take-padded : {A : Type 0} (filler : A) (n : ℕ) (xs : List A) → take (length xs) (padded filler n xs) ≡ xs
take-padded filler n xs = take-append_seam xs (replicate (n - length xs) filler)

-- the list copied over the front of an array of filler
copied_is : {A : Type 0} (filler : A) (n : ℕ) (xs new : List A) → new ≡ xs → new ++ drop (length xs) (replicate n filler) ≡ padded filler n xs
copied_is filler n xs new e = ap (λ front. front ++ drop (length xs) (replicate n filler)) e ∙ ap (λ rest. xs ++ rest) (drop-replicate (length xs) n filler)

pub IsPadded-copied : {A : Type 0} (filler : A) (n : ℕ) (xs new : List A) → new ≡ xs → length xs ≤ n → IsPadded filler n (length xs) (new ++ drop (length xs) (replicate n filler))
IsPadded-copied filler n xs new e h = subst (λ at. IsPadded filler n (length xs) at) (sym (copied_is filler n xs new e)) (IsPadded-padded filler n xs h)

pub take-copied : {A : Type 0} (filler : A) (n : ℕ) (xs new : List A) → new ≡ xs → take (length xs) (new ++ drop (length xs) (replicate n filler)) ≡ xs
take-copied filler n xs new e = ap (take (length xs)) (copied_is filler n xs new e) ∙ take-padded filler n xs

drop-past : {A : Type 0} (xs ys : List A) → drop (suc (length xs)) (xs ++ ys) ≡ drop 1 ys
drop-past [] ys = refl
drop-past (x ∷ xs) ys = drop-past xs ys

length-padded : {A : Type 0} (filler : A) (n : ℕ) (xs : List A) → length xs ≤ n → length (padded filler n xs) ≡ n
length-padded filler n xs h =
    let both = length-append xs (replicate (n - length xs) filler) in
    let rest = length-replicate (n - length xs) filler in
    omega arith

-- one more item, in the place of the first filler
pub IsPadded-pushed : {A : Type 0} (filler : A) (n len : ℕ) (at : List A) (x : A) → IsPadded filler n len at → len < n → IsPadded filler n (len + 1) (set at len x)
IsPadded-pushed {A} filler n len at x before h =
    let front = take len at in
    let few : length front ≤ n = rw before.width before.few in
    let long : length at ≡ n = ap length (sym before.rest) ∙ length-padded filler n front few in
    let taken : take (len + 1) (set at len x) ≡ front ++ x ∷ [] = take_more_set at len x (omega arith) in
    let count : length (take (len + 1) (set at len x)) ≡ len + 1 = ap length taken ∙ (length_push front x ∙ ap (λ (k : ℕ). k + 1) before.width) in
    let behind : drop (suc len) at ≡ drop 1 (replicate (n - length front) filler) =
    ap (drop (suc len)) (sym before.rest) ∙ (ap (λ (k : ℕ). drop (suc k) (padded filler n front)) (sym before.width) ∙ drop-past front (replicate (n - length front) filler)) in
    let fillers : drop 1 (replicate (n - length front) filler) ≡ replicate (n - (len + 1)) filler =
    drop-replicate 1 (n - length front) filler ∙ ap (λ (k : ℕ). replicate k filler) (omega (arith, before.width)) in
    let new : set at len x ≡ front ++ x ∷ replicate (n - (len + 1)) filler =
    set_split at len x (omega arith) ∙ ap (λ (ys : List A). front ++ x ∷ ys) (behind ∙ fillers) in
    let all : padded filler n (take (len + 1) (set at len x)) ≡ front ++ x ∷ replicate (n - (len + 1)) filler =
    ap (λ (k : ℕ). take (len + 1) (set at len x) ++ replicate (n - k) filler) count
    ∙ (ap (λ (ys : List A). ys ++ replicate (n - (len + 1)) filler) taken ∙ append_snoc front x (replicate (n - (len + 1)) filler)) in
    record { few = omega arith; width = count; rest = all ∙ sym new }
