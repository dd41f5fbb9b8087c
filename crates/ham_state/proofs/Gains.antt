-- Sums of what steps add, and their size.
use Rattle.std.proofs.Common.{◌≡◌, ℕ, suc, ◌+◌, ◌*◌, ◌^◌, ◌<◌, ◌≤◌, List, [], ◌∷◌, refl, sym, ap, ◌∙◌, arith, length, get_or, drop, drop-cons, add-one, length-drop}
use Rattle.std.specs.Prelude.{ℤ, pos, nat_abs, ◌+ℤ◌, FitsSigned}
use Rattle.std.specs.Int.{w128}
use Rattle.std.proofs.lemmas.Int.{ints, fits_signed_from_abs}
use Rattle.ham_steps.specs.declared.step.Step.{Step}
use Rattle.ham_steps.specs.Touch.{gain, gains}
use Rattle.ham_steps.proofs.Amounts.{abs_sum}

-- what a loop over steps keeps: the sum so far and what is to come
pub record SumsUp (sts : List Step) (c k : ℕ) (sum : ℤ) (i : ℕ) : Type 0 where
  pub rest : sum +ℤ gains (drop i sts) c k ≡ gains sts c k
  pub small : nat_abs sum ≤ i * 2 ^ 32

starts : (z : ℤ) → pos 0 +ℤ z ≡ z
starts z = omega (arith, ints)

ends : (z w : ℤ) → w ≡ pos 0 → z +ℤ w ≡ z
ends z w e = omega (arith, ints)

moved : (a b c : ℤ) → (a +ℤ b) +ℤ c ≡ a +ℤ (b +ℤ c)
moved a b c = omega (arith, ints)

module _ (sts : List Step) (c k : ℕ) where
  pub SumsUp-none : SumsUp sts c k (pos 0) 0
  SumsUp-none = record { rest = starts (gains sts c k); small = omega arith }

  next_sum : (i : ℕ) (st : Step) (by : ℤ) → i < length sts → by ≡ gain (get_or sts i st) c k → gains (drop i sts) c k ≡ by +ℤ gains (drop (i + 1) sts) c k
  next_sum i st by lt is =
      ap (λ (rest : List Step). gains rest c k) (drop-cons sts i st lt) ∙ rw (add-one i) (ap (λ z. z +ℤ gains (drop (suc i) sts) c k) (sym is))

  pub SumsUp-more : (sum : ℤ) (i : ℕ) (st : Step) (by : ℤ) → i < length sts → by ≡ gain (get_or sts i st) c k → nat_abs by ≤ 2 ^ 32 → SumsUp sts c k sum i → SumsUp sts c k (sum +ℤ by) (i + 1)
  SumsUp-more sum i st by lt is small h =
      record {
        rest = moved sum by (gains (drop (i + 1) sts) c k) ∙ ap (λ z. sum +ℤ z) (sym (next_sum i st by lt is)) ∙ h.rest;
        small = omega (arith, abs_sum sum by, h.small);
      }

  pub SumsUp-all : (sum : ℤ) (i : ℕ) → length sts ≤ i → SumsUp sts c k sum i → sum ≡ gains sts c k
  SumsUp-all sum i le h = sym (ends sum (gains (drop i sts) c k) (nothing (drop i sts) (omega (arith, length-drop i sts)))) ∙ h.rest
    where
      nothing : (rest : List Step) → length rest ≡ 0 → gains rest c k ≡ pos 0
      nothing [] e = refl
      nothing (st ∷ rest) f = absurd (omega arith)

  pub sum_fits : (sum by : ℤ) (i : ℕ) → i < length sts → length sts ≤ 8 → nat_abs by ≤ 2 ^ 32 → SumsUp sts c k sum i → FitsSigned w128 (sum +ℤ by)
  sum_fits sum by i lt few small h = fits_signed_from_abs w128 (sum +ℤ by) (omega (arith, abs_sum sum by, h.small))
