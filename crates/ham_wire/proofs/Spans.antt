-- Parts of bytes between ends, joined.
use Rattle.std.proofs.Common.{◌≡◌, ℕ, zero, suc, ◌+◌, ◌-◌, ◌<◌, ◌≤◌, List, [], ◌∷◌, ◌++◌, length, take, drop, get_or, refl, sym, ap, ◌∙◌, arith}
use Rattle.std.specs.List.{flat_map}
use Rattle.std.proofs.lemmas.List.{drop-drop, take_all, drop_at, take-append-le, drop-append-le, length-drop}
use Rattle.std.proofs.Math.Seq.{take-add}
use Rattle.ham_wire.specs.Links.{parts, AscendTo, end_at}

pub length-parts : (from : ℕ) (ends bytes : List ℕ) → length (parts from ends bytes) ≡ length ends
length-parts from [] bytes = refl
length-parts from (e ∷ ends) bytes = ap (λ n. suc n) (length-parts e ends bytes)

pub ascend-le : (from : ℕ) (ends : List ℕ) (last : ℕ) → AscendTo from ends last → from ≤ last
ascend-le from [] last h = omega arith
ascend-le from (e ∷ ends) last h = omega (arith, ascend-le e ends last h.1, h.0)

pub AscendTo-push : (from : ℕ) (ends : List ℕ) (last e : ℕ) → AscendTo from ends last → last ≤ e → AscendTo from (ends ++ e ∷ []) e
AscendTo-push from [] last e h le = (omega arith, refl)
AscendTo-push from (f ∷ ends) last e h le = (h.0, AscendTo-push f ends last e h.1 le)

take_within : (n from : ℕ) (xs ys : List ℕ) → n + from ≤ length xs → take n (drop from (xs ++ ys)) ≡ take n (drop from xs)
take_within n from xs ys h =
    let a : from ≤ length xs = omega arith in
    let b : n ≤ length (drop from xs) = omega (arith, length-drop from xs) in
    rw (drop-append-le from xs ys a) (take-append-le n (drop from xs) ys b)

take_rest : (from e : ℕ) (xs ys : List ℕ) → from ≡ length xs → e ≡ length xs + length ys → take (e - from) (drop from (xs ++ ys)) ≡ ys
take_rest from e xs ys a b =
    let d : drop from (xs ++ ys) ≡ ys = drop_at xs ys from (sym a) in
    let l : length ys ≤ e - from = omega arith in
    rw d (take_all (e - from) ys l)

pub parts-push : (from : ℕ) (ends bytes piece : List ℕ) (e : ℕ) → AscendTo from ends (length bytes) → e ≡ length bytes + length piece →
    parts from (ends ++ e ∷ []) (bytes ++ piece) ≡ parts from ends bytes ++ piece ∷ []
parts-push from [] bytes piece e h is = ap (λ x. x ∷ []) (take_rest from e bytes piece h is)
parts-push from (f ∷ ends) bytes piece e h is =
    let le : f ≤ length bytes = ascend-le f ends (length bytes) h.1 in
    let w : (f - from) + from ≤ length bytes = omega (arith, h.0) in
    rw (take_within (f - from) from bytes piece w) (ap (λ x. take (f - from) (drop from bytes) ∷ x) (parts-push f ends bytes piece e h.1 is))

pub end_at-get : (from : ℕ) (ends : List ℕ) (n d : ℕ) → n < length ends → end_at from ends (suc n) ≡ get_or ends n d
end_at-get from [] n d h = absurd (omega arith)
end_at-get from (e ∷ ends) zero d h = refl
end_at-get from (e ∷ ends) (suc n) d h = end_at-get e ends n d (omega arith)

pub end_at-ge : (from : ℕ) (ends : List ℕ) (last n : ℕ) → AscendTo from ends last → (from ≤ end_at from ends n) × (end_at from ends n ≤ last)
end_at-ge from ends last zero h = (omega arith, ascend-le from ends last h)
end_at-ge from [] last (suc n) h = (omega arith, omega arith)
end_at-ge from (e ∷ ends) last (suc n) h =
    let i : (e ≤ end_at e ends n) × (end_at e ends n ≤ last) = end_at-ge e ends last n h.1 in
    (omega (arith, i.0, h.0), i.1)

take_join : (a b : ℕ) (xs : List ℕ) → take a xs ++ take b (drop a xs) ≡ take (a + b) xs
take_join a b xs = sym (take-add a b xs)

join : (from e end : ℕ) (b : List ℕ) → from ≤ e → e ≤ end → take (e - from) (drop from b) ++ take (end - e) (drop e b) ≡ take (end - from) (drop from b)
join from e end b h k =
    let s : e ≡ from + (e - from) = omega arith in
    let d : drop e b ≡ drop (e - from) (drop from b) = ap (λ n. drop n b) s ∙ sym (drop-drop (e - from) from b) in
    let n : end - from ≡ (e - from) + (end - e) = omega arith in
    rw (d, n) (take_join (e - from) (end - e) (drop from b))

parts-take : (from : ℕ) (ends bytes : List ℕ) (last n : ℕ) → AscendTo from ends last →
    flat_map (λ f. f) (take n (parts from ends bytes)) ≡ take (end_at from ends n - from) (drop from bytes)
parts-take from ends bytes last zero h = let z : from - from ≡ 0 = omega arith in rw z
parts-take from [] bytes last (suc n) h = let z : from - from ≡ 0 = omega arith in rw z
parts-take from (e ∷ ends) bytes last (suc n) h =
    rw (parts-take e ends bytes last n h.1) (join from e (end_at e ends n) bytes h.0 (end_at-ge e ends last n h.1).0)

parts-drop : (from : ℕ) (ends bytes : List ℕ) (n : ℕ) → drop n (parts from ends bytes) ≡ parts (end_at from ends n) (drop n ends) bytes
parts-drop from ends bytes zero = refl
parts-drop from [] bytes (suc n) = refl
parts-drop from (e ∷ ends) bytes (suc n) = parts-drop e ends bytes n

AscendTo-drop : (from : ℕ) (ends : List ℕ) (last n : ℕ) → AscendTo from ends last → AscendTo (end_at from ends n) (drop n ends) last
AscendTo-drop from ends last zero h = h
AscendTo-drop from [] last (suc n) h = h
AscendTo-drop from (e ∷ ends) last (suc n) h = AscendTo-drop e ends last n h.1

end_at-add : (from : ℕ) (ends : List ℕ) (m n k : ℕ) → k ≡ m + n → m ≤ length ends → end_at (end_at from ends m) (drop m ends) n ≡ end_at from ends k
end_at-add from ends zero n k is h = ap (end_at from ends) (let e : n ≡ k = omega arith in e)
end_at-add from [] (suc m) n k is h = absurd (omega arith)
end_at-add from (e ∷ ends) (suc m) n zero is h = absurd (omega arith)
end_at-add from (e ∷ ends) (suc m) n (suc k) is h = end_at-add e ends m n k (omega arith) (omega arith)

pub parts-span : (ends bytes : List ℕ) (m n k : ℕ) → k ≡ m + n → m ≤ length ends → AscendTo 0 ends (length bytes) →
    flat_map (λ f. f) (take n (drop m (parts 0 ends bytes))) ≡ take (end_at 0 ends k - end_at 0 ends m) (drop (end_at 0 ends m) bytes)
parts-span ends bytes m n k is h up =
    rw (parts-drop 0 ends bytes m, ← end_at-add 0 ends m n k is h)
    (parts-take (end_at 0 ends m) (drop m ends) bytes (length bytes) n (AscendTo-drop 0 ends (length bytes) m up))

pub end_at-le : (ends : List ℕ) (last m n : ℕ) → AscendTo 0 ends last → m ≤ n → m ≤ length ends → end_at 0 ends m ≤ end_at 0 ends n
end_at-le ends last m n up le h =
    let k : n ≡ m + (n - m) = omega arith in
    let e : end_at (end_at 0 ends m) (drop m ends) (n - m) ≡ end_at 0 ends n = end_at-add 0 ends m (n - m) n k h in
    rw (← e) (end_at-ge (end_at 0 ends m) (drop m ends) last (n - m) (AscendTo-drop 0 ends last m up)).0
