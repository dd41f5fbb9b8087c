-- Lists each of whose items has a property.
use Rattle.std.proofs.Common.{◌≡◌, ℕ, zero, suc, ◌<◌, List, [], ◌∷◌, ◌++◌, Some, length, take, drop, set, get_or, replicate, arith, subst}
use Rattle.std.specs.Prelude.{slice_get}
use Rattle.std.specs.List.{AllByRecursion}
use Rattle.ham_turns.specs.Words.{numbered}

pub each-append : {X : Type 0} (P : X → Type 0) (xs ys : List X) → AllByRecursion P xs → AllByRecursion P ys → AllByRecursion P (xs ++ ys)
each-append P [] ys a b = b
each-append P (x ∷ xs) ys a b = (a.0, each-append P xs ys a.1 b)

pub each-parts : {X : Type 0} (P : X → Type 0) (xs ys : List X) → AllByRecursion P (xs ++ ys) → AllByRecursion P xs × AllByRecursion P ys
each-parts P [] ys a = (tt, a)
each-parts P (x ∷ xs) ys a = let r = each-parts P xs ys a.1 in ((a.0, r.0), r.1)

pub each-take : {X : Type 0} (P : X → Type 0) (n : ℕ) (xs : List X) → AllByRecursion P xs → AllByRecursion P (take n xs)
each-take P zero xs a = tt
each-take P (suc n) [] a = tt
each-take P (suc n) (x ∷ xs) a = (a.0, each-take P n xs a.1)

pub each-drop : {X : Type 0} (P : X → Type 0) (n : ℕ) (xs : List X) → AllByRecursion P xs → AllByRecursion P (drop n xs)
each-drop P zero xs a = a
each-drop P (suc n) [] a = tt
each-drop P (suc n) (x ∷ xs) a = each-drop P n xs a.1

pub each-slice_get : {X : Type 0} (P : X → Type 0) (xs : List X) (n : ℕ) (x : X) → AllByRecursion P xs → slice_get xs n ≡ Some x → P x
each-slice_get P [] n x a e = cc
each-slice_get P (y ∷ xs) zero x a e = let s : y ≡ x = cc in subst P s a.0
each-slice_get P (y ∷ xs) (suc n) x a e = each-slice_get P xs n x a.1 e

pub each-numbered : {X : Type 0} (P : X → Type 0) (xs : List X) (k : ℕ) (x : X) → AllByRecursion P xs → numbered xs k ≡ Some x → P x
each-numbered P xs zero x a e = cc
each-numbered P xs (suc n) x a e = each-slice_get P xs n x a e

pub each-set : {X : Type 0} (P : X → Type 0) (xs : List X) (i : ℕ) (x : X) → P x → AllByRecursion P xs → AllByRecursion P (set xs i x)
each-set P [] i x h a = tt
each-set P (y ∷ xs) zero x h a = (h, a.1)
each-set P (y ∷ xs) (suc i) x h a = (a.0, each-set P xs i x h a.1)

pub each-get_or : {X : Type 0} (P : X → Type 0) (xs : List X) (i : ℕ) (d : X) → i < length xs → AllByRecursion P xs → P (get_or xs i d)
each-get_or P [] i d h a = absurd (omega arith)
each-get_or P (y ∷ xs) zero d h a = a.0
each-get_or P (y ∷ xs) (suc i) d h a = each-get_or P xs i d (omega arith) a.1

pub each-replicate : {X : Type 0} (P : X → Type 0) (n : ℕ) (x : X) → P x → AllByRecursion P (replicate n x)
each-replicate P zero x h = tt
each-replicate P (suc n) x h = (h, each-replicate P n x h)
