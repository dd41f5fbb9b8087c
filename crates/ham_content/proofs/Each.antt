-- A list whose items change one by one.
use Rattle.std.proofs.Common.{◌≡◌, ◌≢◌, ℕ, suc, ◌+◌, ◌<◌, ◌≤◌, List, [], ◌∷◌, ◌++◌, zero, Some, refl, sym, ◌∙◌, subst, arith, length, get_or, set, map, get_or-set_same, get_or-set_other, ◌⊎◌, inl, inr}
use Rattle.std.specs.Prelude.{slice_get}
use Rattle.std.proofs.lemmas.List.{length-set}
use Rattle.std.proofs.lemmas.Bool.{cases_eq}
use Rattle.std.proofs.lemmas.Option.{slice_get_within, get_or_from_slice_get, slice_get-get_or, same_Some}

-- those below i have changed as R says, and the others are as they were
pub record Changed {A : Type 0} (R : A → A → Type 0) (start xs : List A) (i : ℕ) : Type 0 where
  pub done : (j : ℕ) (d : A) → j < i → R (get_or start j d) (get_or xs j d)
  pub left : (j : ℕ) (d : A) → i ≤ j → get_or xs j d ≡ get_or start j d
  pub long : length xs ≡ length start

pub none_changed : {A : Type 0} (R : A → A → Type 0) (xs : List A) → Changed R xs xs 0
none_changed R xs = record { done = λ j d h. absurd (omega arith); left = λ j d h. refl; long = refl }

pub one_changed : {A : Type 0} (R : A → A → Type 0) (start xs : List A) (i : ℕ) (y : A) → i < length xs → ((d : A) → R (get_or start i d) y) → Changed R start xs i → Changed R start (set xs i y) (i + 1)
one_changed {A} R start xs i y h new c = record {
  done = λ j d g. by j d g (cases_eq j i);
  left = λ j d g. let ne : j ≢ i = omega arith in get_or-set_other xs i j y d ne ∙ c.left j d (omega arith);
  long = length-set xs i y ∙ c.long;
}
  where
    by : (j : ℕ) (d : A) → j < i + 1 → (j ≡ i) ⊎ (j ≢ i) → R (get_or start j d) (get_or (set xs i y) j d)
    by j d g (inl e) = subst (λ k. R (get_or start k d) (get_or (set xs i y) k d)) (sym e) (subst (R (get_or start i d)) (sym (get_or-set_same xs i y d h)) (new d))
    by j d g (inr ne) = subst (R (get_or start j d)) (sym (get_or-set_other xs i j y d ne)) (c.done j d (omega arith))

pub all_changed : {A : Type 0} (R : A → A → Type 0) (start xs : List A) (i : ℕ) → length xs ≤ i → Changed R start xs i → (j : ℕ) (y : A) → slice_get xs j ≡ Some y → (x : A) × (slice_get start j ≡ Some x) × R x y
all_changed R start xs i h c j y e =
    let within : j < length xs = slice_get_within xs j y e in
    let long = c.long in
    (get_or start j y, slice_get-get_or start j y (omega arith), subst (R (get_or start j y)) (get_or_from_slice_get xs j y y e) (c.done j y (omega arith)))

same_at : {A B : Type 0} (f : A → B) (xs ys : List A) → length xs ≡ length ys → ((j : ℕ) (d : A) → j < length xs → f (get_or xs j d) ≡ f (get_or ys j d)) → map f xs ≡ map f ys
same_at f [] [] e h = refl
same_at f [] (y ∷ ys) e h = absurd (omega arith)
same_at f (x ∷ xs) [] e h = absurd (omega arith)
same_at f (x ∷ xs) (y ∷ ys) e h = λ i. h 0 x (omega arith) i ∷ same_at f xs ys (omega arith) (λ j d g. h (suc j) d (omega arith)) i

pub same_images : {A B : Type 0} (f : A → B) (R : A → A → Type 0) → ((x y : A) → R x y → f y ≡ f x) → (start xs : List A) (i : ℕ) → length xs ≤ i → Changed R start xs i → map f xs ≡ map f start
same_images f R keeps start xs i h c = same_at f xs start c.long (λ j d g. keeps (get_or start j d) (get_or xs j d) (c.done j d (omega arith)))

pub weaker : {A : Type 0} (R Q : A → A → Type 0) → ((x y : A) → R x y → Q x y) → (start xs : List A) (i : ℕ) → Changed R start xs i → Changed Q start xs i
weaker R Q f start xs i c = record { done = λ j d h. f (get_or start j d) (get_or xs j d) (c.done j d h); left = c.left; long = c.long }

-- what is read within a list doesn't depend on the default
pub any_read : {A : Type 0} (xs : List A) (i : ℕ) (c d : A) → i < length xs → get_or xs i c ≡ get_or xs i d
any_read xs i c d h = same_Some (get_or xs i c) (get_or xs i d) (sym (slice_get-get_or xs i c h) ∙ slice_get-get_or xs i d h)

pub each_push : {A : Type 0} (P : A → Type 0) (xs : List A) (y : A) → ((i : ℕ) (x : A) → slice_get xs i ≡ Some x → P x) → P y → (i : ℕ) (x : A) → slice_get (xs ++ y ∷ []) i ≡ Some x → P x
each_push P [] y all new zero x e = let same_item : y ≡ x = cc in subst P same_item new
each_push P [] y all new (suc i) x e = cc
each_push P (z ∷ xs) y all new zero x e = all zero x e
each_push P (z ∷ xs) y all new (suc i) x e = each_push P xs y (λ j w h. all (suc j) w h) new i x e
