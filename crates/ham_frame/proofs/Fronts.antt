-- What is read at the front of bytes.
use Rattle.std.proofs.Common.{◌≡◌, ℕ, zero, suc, ◌+◌, ◌<◌, List, [], ◌∷◌, ◌++◌, length, take, drop, get_or, sym, ap, ◌∙◌, subst, arith, lit<, append_assoc}
use Rattle.std.specs.Int.{w16, w32, w64, from_be_bytes, bytes_high_first}
use Rattle.std.proofs.lemmas.Nat.{be_bytes_2, be_bytes_4, be_bytes_8}
use Rattle.std.proofs.lemmas.List.{length-take-le, take-append-drop}
use Rattle.ham_syntax.specs.declared.limits.TheConstants.{DIGEST_BYTES}

-- they are bytes
abbrev pub AreBytes : List ℕ → Type 0
AreBytes bs = (i : ℕ) → get_or bs i 0 < 256

small-take : (k : ℕ) (bs : List ℕ) → AreBytes bs → (i : ℕ) → get_or (take k bs) i 0 < 256
small-take zero bs small i = lit< tt
small-take (suc k) [] small i = lit< tt
small-take (suc k) (b ∷ bs) small zero = small zero
small-take (suc k) (b ∷ bs) small (suc i) = small-take k bs (λ (j : ℕ). small (suc j)) i

-- the first bytes of some, and the others
pub record Parts (k : ℕ) (bs front rest : List ℕ) : Type 0 where
  pub is_front : front ≡ take k bs
  pub is_rest : rest ≡ drop k bs
  pub enough : length rest + k ≡ length bs

pub parts_are : (k : ℕ) (bs front rest : List ℕ) → Parts k bs front rest → bs ≡ front ++ rest
parts_are k bs front rest p = sym (take-append-drop k bs) ∙ (ap (λ (xs : List ℕ). xs ++ drop k bs) (sym p.is_front) ∙ ap (λ (xs : List ℕ). front ++ xs) (sym p.is_rest))

front-length : (k : ℕ) (bs front rest : List ℕ) → Parts k bs front rest → length front ≡ k
front-length k bs front rest p = let many = p.enough in ap length p.is_front ∙ length-take-le k bs (omega arith)

front-bytes : (k : ℕ) (bs front rest : List ℕ) → Parts k bs front rest → AreBytes bs → AreBytes front
front-bytes k bs front rest p small = subst AreBytes (sym p.is_front) (λ (i : ℕ). small-take k bs small i)

pub short_is : (bs front rest : List ℕ) (n : ℕ) → AreBytes bs → Parts 2 bs front rest → n ≡ from_be_bytes w16 front → bs ≡ bytes_high_first 2 n ++ rest
short_is bs front rest n small p e = parts_are 2 bs front rest p ∙ ap (λ (xs : List ℕ). xs ++ rest) (sym (be_bytes_2 front n (front-length 2 bs front rest p) (front-bytes 2 bs front rest p small) e))

pub number_is : (bs front rest : List ℕ) (n : ℕ) → AreBytes bs → Parts 4 bs front rest → n ≡ from_be_bytes w32 front → bs ≡ bytes_high_first 4 n ++ rest
number_is bs front rest n small p e = parts_are 4 bs front rest p ∙ ap (λ (xs : List ℕ). xs ++ rest) (sym (be_bytes_4 front n (front-length 4 bs front rest p) (front-bytes 4 bs front rest p small) e))

pub word_is : (bs front rest : List ℕ) (n : ℕ) → AreBytes bs → Parts 8 bs front rest → n ≡ from_be_bytes w64 front → bs ≡ bytes_high_first 8 n ++ rest
word_is bs front rest n small p e = parts_are 8 bs front rest p ∙ ap (λ (xs : List ℕ). xs ++ rest) (sym (be_bytes_8 front n (front-length 8 bs front rest p) (front-bytes 8 bs front rest p small) e))

pub hello_is : (bs after digest left last rest : List ℕ) (version from of : ℕ) → bs ≡ version ∷ after → Parts DIGEST_BYTES after digest left → left ≡ from ∷ last → last ≡ of ∷ rest
    → 1 ∷ bs ≡ 1 ∷ version ∷ ((digest ++ (from ∷ of ∷ [])) ++ rest)
hello_is bs after digest left last rest version from of first p second third =
    let tail : left ≡ from ∷ of ∷ rest = second ∙ ap (λ (xs : List ℕ). from ∷ xs) third in
    let all : after ≡ (digest ++ (from ∷ of ∷ [])) ++ rest = parts_are DIGEST_BYTES after digest left p ∙ (ap (λ (xs : List ℕ). digest ++ xs) tail ∙ sym (append_assoc digest (from ∷ of ∷ []) rest)) in
    ap (λ (xs : List ℕ). 1 ∷ xs) first ∙ ap (λ (xs : List ℕ). 1 ∷ version ∷ xs) all
