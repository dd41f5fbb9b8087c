-- Lists of lists, and items by number.
use Rattle.std.proofs.Common.{◌≡◌, ◌≢◌, ◌⊎◌, ◌++◌, ℕ, zero, suc, ◌+◌, ◌*◌, ◌≤◌, ◌<◌, Bool, true, false, cond, eqb, List, [], ◌∷◌, map, length, get_or, set, take, drop, refl, sym, subst, ap, ◌∙◌, inl, inr, arith}
use Rattle.std.specs.Prelude.{Option, Some, None, slice_get, ◌==◌, if◌then◌else◌, count_by, sum}
use Rattle.std.specs.List.{AllByRecursion, flat_map}
use Rattle.std.proofs.lemmas.Bool.{eqb-true, eqb-false}
use Rattle.std.proofs.lemmas.List.{length-append, get_or-set_same, get_or-set_other}
use Rattle.std.proofs.lemmas.List.Sums.{sum_by_push, sum_by-cons}
use Rattle.ham_syntax.specs.declared.act.Place.{Place}
use Rattle.ham_turns.specs.Words.{numbered, in_lane}
use Rattle.ham_turns.specs.Work.{first_of_two}
use Rattle.ham_replica.specs.Steps.{one_more, with_item}

-- ---- what holds of each item

pub all_set : {X : Type 0} (P : X → Type 0) (xs : List X) (i : ℕ) (x : X) → AllByRecursion P xs → P x → AllByRecursion P (set xs i x)
all_set P [] i x h p = tt
all_set P (z ∷ xs) zero x h p = (p, h.1)
all_set P (z ∷ xs) (suc i) x h p = (h.0, all_set P xs i x h.1 p)

pub all_at : {X : Type 0} (P : X → Type 0) (xs : List X) (i : ℕ) (d : X) → AllByRecursion P xs → i < length xs → P (get_or xs i d)
all_at P [] i d h lt = absurd (omega arith)
all_at P (x ∷ xs) zero d h lt = h.0
all_at P (x ∷ xs) (suc i) d h lt = all_at P xs i d h.1 (omega arith)

-- also of what isn't there
pub all_or : {X : Type 0} (P : X → Type 0) (xs : List X) (i : ℕ) (d : X) → AllByRecursion P xs → P d → P (get_or xs i d)
all_or P [] i d h p = p
all_or P (x ∷ xs) zero d h p = h.0
all_or P (x ∷ xs) (suc i) d h p = all_or P xs i d h.1 p

pub all_push : {X : Type 0} (P Q : X → Type 0) (xs : List X) (x : X) → ((z : X) → P z → Q z) → AllByRecursion P xs → Q x → AllByRecursion Q (xs ++ x ∷ [])
all_push P Q [] x f h q = (q, tt)
all_push P Q (z ∷ xs) x f h q = (f z h.0, all_push P Q xs x f h.1 q)

pub all_imp : {X : Type 0} (P Q : X → Type 0) (xs : List X) → ((x : X) → P x → Q x) → AllByRecursion P xs → AllByRecursion Q xs
all_imp P Q [] f h = tt
all_imp P Q (x ∷ xs) f h = (f x h.0, all_imp P Q xs f h.1)

pub all_append : {X : Type 0} (P : X → Type 0) (xs ys : List X) → AllByRecursion P xs → AllByRecursion P ys → AllByRecursion P (xs ++ ys)
all_append P [] ys h k = k
all_append P (x ∷ xs) ys h k = (h.0, all_append P xs ys h.1 k)

pub all_map : {X Y : Type 0} (P : Y → Type 0) (f : X → Y) (xs : List X) → AllByRecursion (λ x. P (f x)) xs → AllByRecursion P (map f xs)
all_map P f [] h = tt
all_map P f (x ∷ xs) h = (h.0, all_map P f xs h.1)

pub all_flat : {X Y : Type 0} (P : Y → Type 0) (f : X → List Y) (xs : List X) → AllByRecursion (λ x. AllByRecursion P (f x)) xs → AllByRecursion P (flat_map f xs)
all_flat P f [] h = tt
all_flat P f (x ∷ xs) h = all_append P (f x) (flat_map f xs) h.0 (all_flat P f xs h.1)

pub all_take : {X : Type 0} (P : X → Type 0) (n : ℕ) (xs : List X) → AllByRecursion P xs → AllByRecursion P (take n xs)
all_take P zero xs h = tt
all_take P (suc n) [] h = tt
all_take P (suc n) (x ∷ xs) h = (h.0, all_take P n xs h.1)

pub all_drop : {X : Type 0} (P : X → Type 0) (n : ℕ) (xs : List X) → AllByRecursion P xs → AllByRecursion P (drop n xs)
all_drop P zero xs h = h
all_drop P (suc n) [] h = tt
all_drop P (suc n) (x ∷ xs) h = all_drop P n xs h.1

pub length_flat : {X Y : Type 0} (f : X → List Y) (n : ℕ) (xs : List X) → AllByRecursion (λ x. length (f x) ≤ n) xs → length (flat_map f xs) ≤ length xs * n
length_flat f n [] h = omega arith
length_flat f n (x ∷ xs) h =
    let rest = length_flat f n xs h.1 in
    let both = length-append (f x) (flat_map f xs) in
    let first = h.0 in
    omega arith

pub sum_few : (m : ℕ) (xs : List ℕ) → AllByRecursion (λ n. n ≤ m) xs → sum xs ≤ length xs * m
sum_few m [] h = omega arith
sum_few m (x ∷ xs) h =
    let rest = sum_few m xs h.1 in
    let first = h.0 in
    let e = sum_by-cons (λ n. n) x xs in
    omega arith

pub map_push : {X Y : Type 0} (f : X → Y) (xs : List X) (x : X) → map f (xs ++ x ∷ []) ≡ map f xs ++ f x ∷ []
map_push f [] x = refl
map_push f (z ∷ xs) x = ap (λ l. f z ∷ l) (map_push f xs x)

-- ---- by number

pub true_or_false : (b : Bool) → (b ≡ true) ⊎ (b ≡ false)
true_or_false true = inl refl
true_or_false false = inr refl

pub first_none : {X : Type 0} (x : Option X) → first_of_two x None ≡ x
first_none None = refl
first_none (Some x) = refl

get_beyond : {X : Type 0} (xs : List X) (n : ℕ) → length xs ≤ n → slice_get xs n ≡ None
get_beyond [] n h = refl
get_beyond (x ∷ xs) zero h = absurd (omega arith)
get_beyond (x ∷ xs) (suc n) h = get_beyond xs n (omega arith)

pub numbered_beyond : {X : Type 0} (xs : List X) (n : ℕ) → length xs < n → numbered xs n ≡ None
numbered_beyond xs zero h = refl
numbered_beyond xs (suc n) h = get_beyond xs n (omega arith)

get_front : {X : Type 0} (xs : List X) (x : X) (n : ℕ) → n ≢ length xs → slice_get (xs ++ x ∷ []) n ≡ slice_get xs n
get_front [] x zero ne = absurd (ne refl)
get_front [] x (suc n) ne = refl
get_front (z ∷ zs) x zero ne = refl
get_front (z ∷ zs) x (suc n) ne = get_front zs x n (λ q. ne (ap suc q))

pub numbered_front : {X : Type 0} (xs : List X) (x : X) (n : ℕ) → n ≢ length xs + 1 → numbered (xs ++ x ∷ []) n ≡ numbered xs n
numbered_front xs x zero ne = refl
numbered_front xs x (suc n) ne = get_front xs x n (λ q. ne (let e : n ≡ length xs = q in omega arith))

get_last : {X : Type 0} (xs : List X) (x : X) (n : ℕ) → n ≡ length xs → slice_get (xs ++ x ∷ []) n ≡ Some x
get_last [] x zero e = refl
get_last [] x (suc n) e = absurd (omega arith)
get_last (z ∷ zs) x zero e = absurd (omega arith)
get_last (z ∷ zs) x (suc n) e = get_last zs x n (omega arith)

pub numbered_last : {X : Type 0} (xs : List X) (x : X) (n : ℕ) → n ≡ length xs + 1 → numbered (xs ++ x ∷ []) n ≡ Some x
numbered_last xs x zero e = absurd (omega arith)
numbered_last xs x (suc n) e = get_last xs x n (omega arith)

-- one more at an index
pub get_one_more : (xs : List ℕ) (i j : ℕ) → i < length xs → get_or (one_more xs i) j 0 ≡ (if i == j then get_or xs j 0 + 1 else get_or xs j 0)
get_one_more xs i j h = elim (true_or_false (eqb i j)) [
  | inl t ↦ rw t (subst (λ z. get_or (one_more xs i) z 0 ≡ get_or xs z 0 + 1) (eqb-true i j t) (get_or-set_same xs i (get_or xs i 0 + 1) 0 h))
  | inr f ↦ rw f (get_or-set_other xs i j (get_or xs i 0 + 1) 0 (λ q. eqb-false i j f (sym q)))
]

-- one more item in the list at an index
pub get_with_item : {X : Type 0} (xs : List (List X)) (i j : ℕ) (x : X) → i < length xs →
    get_or (with_item xs i x) j [] ≡ (if i == j then get_or xs j [] ++ x ∷ [] else get_or xs j [])
get_with_item xs i j x h = elim (true_or_false (eqb i j)) [
  | inl t ↦ rw t (subst (λ z. get_or (with_item xs i x) z [] ≡ get_or xs z [] ++ x ∷ []) (eqb-true i j t) (get_or-set_same xs i (get_or xs i [] ++ x ∷ []) [] h))
  | inr f ↦ rw f (get_or-set_other xs i j (get_or xs i [] ++ x ∷ []) [] (λ q. eqb-false i j f (sym q)))
]

-- a place more in a log
pub count_place : (log : List Place) (p : Place) (l : ℕ) → count_by (in_lane l) (log ++ p ∷ []) ≡ (if p.lane == l then count_by (in_lane l) log + 1 else count_by (in_lane l) log)
count_place log p l = elim (true_or_false (eqb p.lane l)) [
  | inl t ↦ sum_by_push (λ q. cond (in_lane l q) 1 0) log p ∙ rw t refl
  | inr f ↦ sum_by_push (λ q. cond (in_lane l q) 1 0) log p ∙ rw f (omega arith)
]

-- an item is replaced by one that shows the same
pub map_set_same : {X Y : Type 0} (f : X → Y) (xs : List X) (i : ℕ) (x d : X) → d ≡ get_or xs i d → f x ≡ f d → map f (set xs i x) ≡ map f xs
map_set_same f [] i x d e h = refl
map_set_same f (z ∷ xs) zero x d e h = ap (λ k. k ∷ map f xs) (h ∙ ap f e)
map_set_same f (z ∷ xs) (suc i) x d e h = ap (λ l. f z ∷ l) (map_set_same f xs i x d e h)

-- by one that shows an item more
pub map_set_item : {X Y : Type 0} (f : X → List Y) (xs : List X) (i : ℕ) (x d : X) (y : Y) → d ≡ get_or xs i d → f x ≡ f d ++ y ∷ [] → map f (set xs i x) ≡ with_item (map f xs) i y
map_set_item f [] i x d y e h = refl
map_set_item f (z ∷ xs) zero x d y e h = ap (λ k. k ∷ map f xs) (h ∙ ap (λ w. f w ++ y ∷ []) e)
map_set_item f (z ∷ xs) (suc i) x d y e h = ap (λ l. f z ∷ l) (map_set_item f xs i x d y e h)

pub length_map : {X Y : Type 0} (f : X → Y) (xs : List X) → length (map f xs) ≡ length xs
length_map f [] = refl
length_map f (x ∷ xs) = let e = length_map f xs in omega arith

pub get_map : {X Y : Type 0} (f : X → Y) (xs : List X) (i : ℕ) (d : X) → get_or (map f xs) i (f d) ≡ f (get_or xs i d)
get_map f [] i d = refl
get_map f (x ∷ xs) zero d = refl
get_map f (x ∷ xs) (suc i) d = get_map f xs i d

-- any two that aren't used
pub get_any : {X : Type 0} (xs : List X) (i : ℕ) (d e : X) → i < length xs → get_or xs i d ≡ get_or xs i e
get_any [] i d e h = absurd (omega arith)
get_any (x ∷ xs) zero d e h = refl
get_any (x ∷ xs) (suc i) d e h = get_any xs i d e (omega arith)

-- one more, as the code writes it
pub one_more_as : (xs : List ℕ) (i r : ℕ) → i < length xs → r ≡ get_or xs i r → set xs i (r + 1) ≡ one_more xs i
one_more_as xs i r h e = ap (λ n. set xs i (n + 1)) (e ∙ get_any xs i r 0 h)
