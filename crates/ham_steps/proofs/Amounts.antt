-- How large amounts become, and steps taken one by one.
use Rattle.std.proofs.Common.{◌≡◌, ℕ, ◌+◌, ◌<◌, ◌≤◌, Bool, true, false, cond, List, [], ◌∷◌, refl, sym, ap, ◌∙◌, subst, arith, length, get_or, drop, drop-cons, add-one, length-drop}
use Rattle.std.specs.Prelude.{ℤ, pos, negsuc, ◌+ℤ◌, nat_abs, FitsSigned, ◌^◌}
use Rattle.std.specs.Int.{w128}
use Rattle.std.proofs.lemmas.Int.{ints, fits_signed_from_abs}
use Rattle.ham_steps.specs.declared.step.Step.{Step}
use Rattle.ham_steps.specs.Content.{State}
use Rattle.ham_steps.specs.Steps.{after_step, after_steps}

-- a sum is no larger than both together
pub abs_sum : (x y : ℤ) → nat_abs (x +ℤ y) ≤ nat_abs x + nat_abs y
abs_sum (pos a) (pos b) = omega arith
abs_sum (pos a) (negsuc b) = grind (arith, ints)
abs_sum (negsuc a) (pos b) = grind (arith, ints)
abs_sum (negsuc a) (negsuc b) = omega arith

pub small_fits : (x : ℤ) → nat_abs x ≤ 2 ^ 110 + 2 ^ 50 → FitsSigned w128 x
small_fits x h = fits_signed_from_abs w128 x (omega arith)

-- a sum of two numbers that are not large fits
pub sum_fits : (x y : ℤ) → nat_abs x ≤ 2 ^ 110 → nat_abs y ≤ 2 ^ 50 → FitsSigned w128 (x +ℤ y)
sum_fits x y h g = small_fits (x +ℤ y) (omega (arith, abs_sum x y))

-- a changed amount is not much larger
pub grown : (x by z : ℤ) (b : Bool) (n : ℕ) → z ≡ (x +ℤ cond b by (pos 0)) → nat_abs x ≤ n → nat_abs by ≤ 2 ^ 50 → nat_abs z ≤ n + 2 ^ 50
grown x by z true n e h g = subst (λ w. nat_abs w ≤ n + 2 ^ 50) (sym e) (omega (arith, abs_sum x by))
grown x by z false n e h g = subst (λ w. nat_abs w ≤ n + 2 ^ 50) (sym e) (omega (arith, abs_sum x (pos 0)))

pub steps_next : (net : List Step) (i : ℕ) (st : Step) (s : State) → i < length net → after_steps (drop i net) s ≡ after_steps (drop (i + 1) net) (after_step (get_or net i st) s)
steps_next net i st s h = ap (λ rest. after_steps rest s) (drop-cons net i st h) ∙ rw (add-one i) refl

pub steps_done : (net : List Step) (i : ℕ) (s : State) → length net ≤ i → after_steps (drop i net) s ≡ s
steps_done net i s h = nothing (drop i net) (omega (arith, length-drop i net))
  where
    nothing : (rest : List Step) → length rest ≡ 0 → after_steps rest s ≡ s
    nothing [] e = refl
    nothing (st ∷ rest) e = absurd (omega arith)
