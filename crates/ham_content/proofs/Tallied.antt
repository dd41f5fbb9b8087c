-- The numbers of rows at each projection, after one row more and one row less.
use Rattle.std.proofs.Common.{◌≡◌, ℕ, ◌+◌, Bool, true, false, not, ◌&&◌, ◌||◌, List, refl, sym, ap, ◌∙◌, subst, arith}
use Rattle.std.specs.Prelude.{if◌then◌else◌}
use Rattle.std.proofs.lemmas.Bool.{and_left, and_right, and_from}
use Rattle.ham_content.specs.Numbers.{same, IsNumber}
use Rattle.ham_content.specs.Tallies.{has_at}
use Rattle.ham_content.proofs.Numbers.{alike, number_same, number_gain, number_loss}

pub tallied_more : (f : List ℕ → List ℕ) (h g : List ℕ → Bool) (c d : List ℕ → ℕ) (row : List ℕ) → h row ≡ false → ((x : List ℕ) → g x ≡ (same row x || h x)) → ((q : List ℕ) → d q ≡ (if same (f row) q then c (f row) + 1 else c q)) → ((k : List ℕ) → IsNumber (has_at f h k) (c k)) → (k : List ℕ) → IsNumber (has_at f g k) (d k)
tallied_more f h g c d row absent more counts all k = by (same (f row) k) refl
  where
    here : same (f row) k ≡ true → (x : List ℕ) → (b : Bool) → same row x ≡ b → (same (f x) k && (b || h x)) ≡ (b || (same (f x) k && h x))
    here e x true is = subst (λ z. (same (f z) k && true) ≡ true) (alike row x is) (and_from (same (f row) k) true e refl)
    here e x false is = refl

    other : same (f row) k ≡ false → (x : List ℕ) → (b : Bool) → same row x ≡ b → (same (f x) k && (b || h x)) ≡ (same (f x) k && h x)
    other e x true is =
        let off : same (f x) k ≡ false = subst (λ z. same (f z) k ≡ false) (alike row x is) e in
        and_left (same (f x) k) true off ∙ sym (and_left (same (f x) k) (h x) off)
    other e x false is = refl

    by : (b : Bool) → same (f row) k ≡ b → IsNumber (has_at f g k) (d k)
    by true e =
        let count : d k ≡ c k + 1 = counts k ∙ ap (λ b. if b then c (f row) + 1 else c k) e ∙ ap (λ z. c z + 1) (alike (f row) k e) in
        subst (λ n. IsNumber (has_at f g k) n) (sym count)
        (number_gain (has_at f h k) (has_at f g k) row (c k) (and_right (same (f row) k) (h row) absent) (λ x. ap (λ b. same (f x) k && b) (more x) ∙ here e x (same row x) refl) (all k))
    by false e =
        let count : d k ≡ c k = counts k ∙ ap (λ b. if b then c (f row) + 1 else c k) e in
        subst (λ n. IsNumber (has_at f g k) n) (sym count)
        (number_same (has_at f h k) (has_at f g k) (c k) (λ x. ap (λ b. same (f x) k && b) (more x) ∙ other e x (same row x) refl) (all k))

pub tallied_less : (f : List ℕ → List ℕ) (h g : List ℕ → Bool) (c d : List ℕ → ℕ) (row : List ℕ) → h row ≡ true → ((x : List ℕ) → g x ≡ (not (same row x) && h x)) → ((q : List ℕ) → d q + (if same (f row) q then 1 else 0) ≡ c q) → ((k : List ℕ) → IsNumber (has_at f h k) (c k)) → (k : List ℕ) → IsNumber (has_at f g k) (d k)
tallied_less f h g c d row there less counts all k = by (same (f row) k) refl
  where
    here : (x : List ℕ) → (b : Bool) → (same (f x) k && (not b && h x)) ≡ (not b && (same (f x) k && h x))
    here x true = elim (same (f x) k) as (λ a. (a && false) ≡ false) [ true ↦ refl | false ↦ refl ]
    here x false = refl

    other : same (f row) k ≡ false → (x : List ℕ) → (b : Bool) → same row x ≡ b → (same (f x) k && (not b && h x)) ≡ (same (f x) k && h x)
    other e x true is =
        let off : same (f x) k ≡ false = subst (λ z. same (f z) k ≡ false) (alike row x is) e in
        and_left (same (f x) k) false off ∙ sym (and_left (same (f x) k) (h x) off)
    other e x false is = refl

    by : (b : Bool) → same (f row) k ≡ b → IsNumber (has_at f g k) (d k)
    by true e =
        let count : d k + 1 ≡ c k = ap (λ b. d k + (if b then 1 else 0)) (sym e) ∙ counts k in
        number_loss (has_at f h k) (has_at f g k) row (c k) (d k) (and_from (same (f row) k) (h row) e there) (λ x. ap (λ b. same (f x) k && b) (less x) ∙ here x (same row x)) count (all k)
    by false e =
        let count : d k + 0 ≡ c k = ap (λ b. d k + (if b then 1 else 0)) (sym e) ∙ counts k in
        let plain : d k ≡ c k = omega arith in
        subst (λ n. IsNumber (has_at f g k) n) (sym plain)
        (number_same (has_at f h k) (has_at f g k) (c k) (λ x. ap (λ b. same (f x) k && b) (less x) ∙ other e x (same row x) refl) (all k))
