-- Lists that are made piece by piece.
use Rattle.std.proofs.Common.{◌≡◌, ℕ, zero, suc, ◌+◌, ◌*◌, ◌≤◌, ◌<◌, List, [], ◌∷◌, ◌++◌, length, take, set, map, sym, ap, ◌∙◌, append_assoc, add-one, arith, length-append}
use Rattle.std.specs.List.{flat_map, range_with_len, AllByRecursion}
use Rattle.std.proofs.lemmas.List.{append-nil, take_more_set}
use Rattle.std.proofs.lemmas.List.Concat.{flat_map-append}
use Rattle.std.proofs.lemmas.List.FromFn.{map-range_with_len_more}
use Rattle.ham_rules.specs.Claims.{each_below, lists_below}

range-suc : (a n : ℕ) → range_with_len a (suc n) ≡ range_with_len a n ++ (a + n) ∷ []
range-suc a zero = ap (λ (k : ℕ). k ∷ []) (omega arith)
range-suc a (suc n) = ap (λ (rest : List ℕ). a ∷ rest) (range-suc (a + 1) n ∙ ap (λ (k : ℕ). range_with_len (a + 1) n ++ k ∷ []) (omega arith))

range-more : (n : ℕ) → range_with_len 0 (n + 1) ≡ range_with_len 0 n ++ n ∷ []
range-more n = rw (add-one n) (range-suc 0 n ∙ ap (λ (k : ℕ). range_with_len 0 n ++ k ∷ []) (omega arith))

pub lists-more : {A : Type 0} (f : ℕ → List A) (n : ℕ) → lists_below (n + 1) f ≡ lists_below n f ++ f n
lists-more {A} f n = ap (flat_map f) (range-more n) ∙ (flat_map-append f (range_with_len 0 n) (n ∷ []) ∙ ap (λ (last : List A). lists_below n f ++ last) (append-nil (f n)))

pub each-more : {A : Type 0} (f : ℕ → A) (n : ℕ) → each_below (n + 1) f ≡ each_below n f ++ f n ∷ []
each-more f n = map-range_with_len_more f 0 n n (omega arith)

-- a list that is written item by item from its front
pub front-more : (f : ℕ → ℕ) (row : List ℕ) (n at x : ℕ) → n < length row → at ≡ n → x ≡ f n → take n row ≡ each_below n f → take (n + 1) (set row at x) ≡ each_below (n + 1) f
front-more f row n at x lt same is front =
    rw same (take_more_set row n x lt ∙ (ap (λ (y : ℕ). take n row ++ y ∷ []) is ∙ (ap (λ (ys : List ℕ). ys ++ f n ∷ []) front ∙ sym (each-more f n))))

-- the pieces below n stand after what was there
abbrev pub Grown : {A : Type 0} → (ℕ → List A) → ℕ → List A → List A → Type 0
Grown f n old now = now ≡ old ++ lists_below n f

pub grown-none : {A : Type 0} (f : ℕ → List A) (old : List A) → Grown f 0 old old
grown-none f old = sym (append-nil old)

pub grown-more : {A : Type 0} (f : ℕ → List A) (n : ℕ) (old now new : List A) → Grown f n old now → new ≡ now ++ f n → Grown f (n + 1) old new
grown-more {A} f n old now new is e =
    e ∙ (ap (λ (front : List A). front ++ f n) is ∙ (append_assoc old (lists_below n f) (f n) ∙ ap (λ (rest : List A). old ++ rest) (sym (lists-more f n))))

-- and the items below n
abbrev pub Filled : {A : Type 0} → (ℕ → A) → ℕ → List A → List A → Type 0
Filled f n old now = now ≡ old ++ each_below n f

pub filled-none : {A : Type 0} (f : ℕ → A) (old : List A) → Filled f 0 old old
filled-none f old = sym (append-nil old)

pub filled-more : {A : Type 0} (f : ℕ → A) (n : ℕ) (old now new : List A) → Filled f n old now → new ≡ now ++ f n ∷ [] → Filled f (n + 1) old new
filled-more {A} f n old now new is e =
    e ∙ (ap (λ (front : List A). front ++ f n ∷ []) is ∙ (append_assoc old (each_below n f) (f n ∷ []) ∙ ap (λ (rest : List A). old ++ rest) (sym (each-more f n))))

-- ---- what holds of each item
module _ {B : Type 0} (P : B → Type 0) where
  pub all-append : (xs ys : List B) → AllByRecursion P xs → AllByRecursion P ys → AllByRecursion P (xs ++ ys)
  all-append [] ys h k = k
  all-append (x ∷ xs) ys h k = (h.0, all-append xs ys h.1 k)

  pub all-flat_map : {A : Type 0} (f : A → List B) → ((x : A) → AllByRecursion P (f x)) → (xs : List A) → AllByRecursion P (flat_map f xs)
  all-flat_map f each [] = tt
  all-flat_map f each (x ∷ xs) = all-append (f x) (flat_map f xs) (each x) (all-flat_map f each xs)

  pub all-map : {A : Type 0} (f : A → B) → ((x : A) → P (f x)) → (xs : List A) → AllByRecursion P (map f xs)
  all-map f each [] = tt
  all-map f each (x ∷ xs) = (each x, all-map f each xs)

-- ---- lengths
pub length-pieces : {A B : Type 0} (f : A → List B) (b : ℕ) → ((x : A) → length (f x) ≤ b) → (xs : List A) → length (flat_map f xs) ≤ length xs * b
length-pieces f b each [] = omega arith
length-pieces f b each (x ∷ xs) =
    let one = each x in
    let rest = length-pieces f b each xs in
    let both = length-append (f x) (flat_map f xs) in
    omega arith
