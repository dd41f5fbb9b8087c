-- The first of a list with a property, piece by piece.
use Rattle.std.proofs.Common.{◌≡◌, ℕ, zero, suc, ◌+◌, ◌<◌, List, [], ◌∷◌, ◌++◌, length, get_or, take, drop, refl, sym, ap, ◌∙◌, subst, append_assoc, drop-cons, arith}
use Rattle.std.specs.List.{AllByRecursion, flat_map}
use Rattle.std.proofs.lemmas.List.{append-nil, take_more}
use Rattle.std.proofs.lemmas.List.Concat.{flat_map-append}
use Rattle.std.proofs.lemmas.List.FromFn.{take-map-range_with_len, get_or-map-range_with_len, length-map-range_with_len}
use Rattle.ham_rules.specs.Claims.{each_below}
use Rattle.ham_witness.specs.Shown.{IsFirst}
use Rattle.ham_witness.proofs.Building.{all-append, each-more}

take-drop : {A : Type 0} (i : ℕ) (xs : List A) → xs ≡ take i xs ++ drop i xs
take-drop zero xs = refl
take-drop (suc i) [] = refl
take-drop (suc i) (x ∷ xs) = ap (λ (ys : List _). x ∷ ys) (take-drop i xs)

some_default : {A : Type 0} (xs : List A) (i : ℕ) (d e : A) → i < length xs → get_or xs i d ≡ get_or xs i e
some_default [] i d e lt = absurd (omega arith)
some_default (x ∷ xs) zero d e lt = refl
some_default (x ∷ xs) (suc i) d e lt = some_default xs i d e (omega arith)

module _ {A : Type 0} (P : A → Type 0) where
  -- at a place that none before it has
  pub first-at : (xs : List A) (i : ℕ) (x : A) → i < length xs → get_or xs i x ≡ x → AllByRecursion (λ y. ¬ P y) (take i xs) → P x → IsFirst P xs x
  first-at xs i x lt at none here = record {
    before = take i xs;
    after = drop (suc i) xs;
    split = take-drop i xs ∙ ap (λ (ys : List A). take i xs ++ ys) (drop-cons xs i x lt ∙ ap (λ (y : A). y ∷ drop (suc i) xs) at);
    none = none;
    here = here;
  }

  -- in the middle of three lists, where none of the first has it
  pub first-within : (front xs back : List A) (x : A) → AllByRecursion (λ y. ¬ P y) front → IsFirst P xs x → IsFirst P (front ++ (xs ++ back)) x
  first-within front xs back x none h = record {
    before = front ++ h.before;
    after = h.after ++ back;
    split =
        ap (λ (ys : List A). front ++ (ys ++ back)) h.split
        ∙ (ap (λ (ys : List A). front ++ ys) (append_assoc h.before (x ∷ h.after) back)
        ∙ sym (append_assoc front h.before (x ∷ (h.after ++ back))));
    none = all-append (λ y. ¬ P y) front h.before none h.none;
    here = h.here;
  }

  -- ---- of numbered items
  pub none-more : (f : ℕ → A) (n : ℕ) → AllByRecursion (λ y. ¬ P y) (each_below n f) → ¬ P (f n) → AllByRecursion (λ y. ¬ P y) (each_below (n + 1) f)
  none-more f n none here = subst (AllByRecursion (λ y. ¬ P y)) (sym (each-more f n)) (all-append (λ y. ¬ P y) (each_below n f) (f n ∷ []) none (here, tt))

  pub first-below : (f : ℕ → A) (n i : ℕ) → i < n → AllByRecursion (λ y. ¬ P y) (each_below i f) → P (f i) → IsFirst P (each_below n f) (f i)
  first-below f n i lt none here =
      let long = length-map-range_with_len f 0 n in
      first-at (each_below n f) i (f i) (omega arith) (get_or-map-range_with_len f 0 n i i (f i) lt (omega arith))
      (subst (AllByRecursion (λ y. ¬ P y)) (sym (take-map-range_with_len f 0 n i (omega arith))) none) here

  -- ---- of pieces
  module _ {X : Type 0} (g : X → List A) where
    pub none-piece : (xs : List X) (i : ℕ) (x : X) → i < length xs → x ≡ get_or xs i x → AllByRecursion (λ y. ¬ P y) (flat_map g (take i xs)) → AllByRecursion (λ y. ¬ P y) (g x) → AllByRecursion (λ y. ¬ P y) (flat_map g (take (i + 1) xs))
    none-piece xs i x lt at none here =
        subst (AllByRecursion (λ y. ¬ P y))
        (sym (ap (flat_map g) (take_more xs i x lt ∙ ap (λ (y : X). take i xs ++ y ∷ []) (sym at)) ∙ (flat_map-append g (take i xs) (x ∷ []) ∙ ap (λ (ys : List A). flat_map g (take i xs) ++ ys) (append-nil (g x)))))
        (all-append (λ y. ¬ P y) (flat_map g (take i xs)) (g x) none here)

    pub first-piece : (xs : List X) (i : ℕ) (x : X) (a : A) → i < length xs → x ≡ get_or xs i x → AllByRecursion (λ y. ¬ P y) (flat_map g (take i xs)) → IsFirst P (g x) a → IsFirst P (flat_map g xs) a
    first-piece xs i x a lt at none h =
        subst (λ (ys : List A). IsFirst P ys a)
        (sym (ap (flat_map g) (take-drop i xs ∙ ap (λ (ys : List X). take i xs ++ ys) (drop-cons xs i x lt ∙ ap (λ (y : X). y ∷ drop (suc i) xs) (sym at)))
        ∙ flat_map-append g (take i xs) (x ∷ drop (suc i) xs)))
        (first-within (flat_map g (take i xs)) (g x) (flat_map g (drop (suc i) xs)) a none h)

    pub first-piece-at : (xs : List X) (i : ℕ) (d : X) (a : A) → i < length xs → AllByRecursion (λ y. ¬ P y) (flat_map g (take i xs)) → IsFirst P (g (get_or xs i d)) a → IsFirst P (flat_map g xs) a
    first-piece-at xs i d a lt none h = first-piece xs i (get_or xs i d) a lt (some_default xs i d (get_or xs i d) lt) none h
