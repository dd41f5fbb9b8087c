-- The plan with two leaders is sound for the bank, and its run.
use Rattle.std.proofs.Common.{◌≡◌, ℕ, zero, suc, ◌≤◌, true, false, eqb, ◌&&◌, List, [], ◌∷◌, fold, drop, inl, inr, ap, ◌∙◌, refl, sym, subst, arith}
use Rattle.std.proofs.lemmas.Bool.{eqb-true, and_parts}
use Rattle.ham_meaning.specs.OfObjects.{meaning}
use Rattle.ham_laws.specs.Executions.{IsSound}
use Rattle.ham_laws.specs.Constrained.{constraints_of, IsPlanned}
use Rattle.ham_plan.specs.Groups.{IsChain, IsLeastOf}
use Rattle.ham_plan.specs.Plans.{IsPlan, conflicts, least_of}
use Rattle.ham_laws.specs.Bank.{bank, withdrawals, deposit, withdraw}
use Rattle.ham_plan.proofs.Lists.{true_or_false}
use Rattle.ham_plan.proofs.Joining.{Joined-direct}
use Rattle.ham_plan.proofs.Labelling.{among-within}
use Rattle.ham_laws.proofs.Banking.{withdrawals_sound, bank_checked}
use Rattle.ham_turns.specs.Settings.{Rules, setting_of}
use Rattle.ham_runs.specs.Next.{after_input, run_of}
use Rattle.ham_runs.specs.Next.Input.{Issue, Deliver}
use Rattle.ham_runs.specs.Story.{HasOutcomes}
use Rattle.ham_runs.specs.Leaders.{two_led, leaders, asked_of_both, led}
use Rattle.ham_runs.proofs.Telling.{differ, bool_same, depends_same}

-- ---- the plan
conflict_only : (m n : ℕ) → conflicts two_led m n ≡ true → m ≡ n
conflict_only zero zero e = refl
conflict_only zero (suc zero) e = absurd (differ e)
conflict_only zero (suc (suc n)) e = let w = (among-within 2 two_led.conflict zero (suc (suc n)) e).1 in absurd (omega arith)
conflict_only (suc zero) zero e = absurd (differ e)
conflict_only (suc zero) (suc zero) e = refl
conflict_only (suc zero) (suc (suc n)) e = let w = (among-within 2 two_led.conflict (suc zero) (suc (suc n)) e).1 in absurd (omega arith)
conflict_only (suc (suc m)) n e = let w = (among-within 2 two_led.conflict (suc (suc m)) n e).0 in absurd (omega arith)

turned : (m n : ℕ) → conflicts two_led m n ≡ true → conflicts two_led n m ≡ true
turned m n e =
    let q = conflict_only m n e in
    subst (λ z. conflicts two_led z m ≡ true) q (subst (λ z. conflicts two_led m z ≡ true) (sym q) e)

only_joined : (n : ℕ) (between : List ℕ) (m : ℕ) → 1 ≤ m → IsChain (conflicts two_led) m between n → 1 ≤ n
only_joined n [] m low h = let w = conflict_only m n h in omega arith
only_joined n (z ∷ zs) m low h = let w = conflict_only m z h.0 in only_joined n zs z (omega arith) h.1

none_beyond : (m n : ℕ) → conflicts two_led (suc (suc m)) n ≡ false
none_beyond m n = elim (true_or_false (conflicts two_led (suc (suc m)) n)) [
  | inl t ↦ let w = (among-within 2 two_led.conflict (suc (suc m)) n t).0 in absurd (omega arith)
  | inr f ↦ f
]

least_is : (m : ℕ) → IsLeastOf (conflicts two_led) m (least_of two_led m)
least_is zero = (Joined-direct (conflicts two_led) 0 0 refl, λ k j. omega arith)
least_is (suc zero) = (Joined-direct (conflicts two_led) 1 1 refl, λ k j. only_joined k j.between 1 (omega arith) j.is_chain)
least_is (suc (suc m)) = none_beyond m

two_led_is_plan : IsPlan two_led
two_led_is_plan = record {
  few_methods = omega arith;
  some_replicas = omega arith;
  few_replicas = omega arith;
  symmetric = λ m n. bool_same _ _ (turned m n) (turned n m);
  least_is = least_is;
}

-- what doesn't conflict here doesn't conflict among withdrawals
fewer : (m n : ℕ) → conflicts two_led m n ≡ false → withdrawals.conflict m n ≡ false
fewer m n f = elim (true_or_false ((eqb m 1) && (eqb n 1))) [
  | inl t ↦
      let w = and_parts (eqb m 1) (eqb n 1) t in
      absurd (differ (sym f ∙ subst (λ z. conflicts two_led z n ≡ true) (sym (eqb-true m 1 w.0)) (subst (λ z. conflicts two_led 1 z ≡ true) (sym (eqb-true n 1 w.1)) refl)))
  | inr g ↦ g
]

sound : IsSound (meaning bank) (constraints_of two_led)
sound = record {
  symmetric = λ m n. bool_same _ _ (turned m n) (turned n m);
  commute = λ m n apart. withdrawals_sound.commute m n (fewer m n apart);
  right = λ m n apart. withdrawals_sound.right m n (fewer m n apart);
  left = λ m n free. withdrawals_sound.left m n (depends_same m n ∙ free);
}

pub leaders_are_planned : IsPlanned bank two_led
leaders_are_planned = record {
  checked = bank_checked;
  plan = two_led_is_plan;
  methods = refl;
  sound = sound;
}

-- ---- its run
module _ (x : Rules) (h : HasOutcomes x) where
  step_1 : after_input x leaders (drop 6 led) (Issue 1 (deposit 5)) ≡ drop 5 led
  unfolding setting_of
  step_1 = rw (h.room, h.fits_5, h.paid_in) refl

  step_2 : after_input x leaders (drop 5 led) (Deliver 2 1 1) ≡ drop 4 led
  unfolding setting_of
  step_2 = refl

  step_3 : after_input x leaders (drop 4 led) (Issue 1 (withdraw 4)) ≡ drop 3 led
  unfolding setting_of
  step_3 = rw h.fits_4 refl

  step_4 : after_input x leaders (drop 3 led) (Deliver 2 1 2) ≡ drop 2 led
  unfolding setting_of
  step_4 = rw (h.room, h.covered) refl

  step_5 : after_input x leaders (drop 2 led) (Deliver 3 2 1) ≡ drop 1 led
  unfolding setting_of
  step_5 = refl

  step_6 : after_input x leaders (drop 1 led) (Deliver 3 1 1) ≡ drop 0 led
  unfolding setting_of
  step_6 = refl

  pub leaders_give : run_of x leaders asked_of_both ≡ led
  unfolding run_of
  leaders_give =
      ap (λ z. fold (after_input x leaders) z (drop 1 asked_of_both)) step_1
      ∙ ap (λ z. fold (after_input x leaders) z (drop 2 asked_of_both)) step_2
      ∙ ap (λ z. fold (after_input x leaders) z (drop 3 asked_of_both)) step_3
      ∙ ap (λ z. fold (after_input x leaders) z (drop 4 asked_of_both)) step_4
      ∙ ap (λ z. fold (after_input x leaders) z (drop 5 asked_of_both)) step_5
      ∙ ap (λ z. fold (after_input x leaders) z (drop 6 asked_of_both)) step_6
