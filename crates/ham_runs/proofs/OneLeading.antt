-- The single plan of the bank, and its run.
use Rattle.std.proofs.Common.{◌≡◌, ℕ, zero, suc, ◌<◌, true, false, fold, drop, ap, ◌∙◌, inl, inr, refl, sym, arith}
use Rattle.ham_plan.specs.Groups.{IsLeastOf}
use Rattle.ham_plan.specs.Plans.{IsPlan, conflicts, least_of, depends_on, IsSingle}
use Rattle.ham_plan.proofs.Joining.{Joined-direct}
use Rattle.ham_plan.proofs.Labelling.{among-within, among-outside}
use Rattle.ham_plan.proofs.Lists.{true_or_false}
use Rattle.ham_laws.specs.Bank.{bank, deposit, withdraw}
use Rattle.ham_laws.specs.Constrained.{IsPlanned}
use Rattle.ham_laws.proofs.Banking.{bank_checked}
use Rattle.ham_laws.proofs.Missing.{single_plan_sound}
use Rattle.ham_turns.specs.Settings.{Rules, setting_of}
use Rattle.ham_runs.specs.Next.{after_input, run_of}
use Rattle.ham_runs.specs.Next.Input.{Issue, Deliver}
use Rattle.ham_runs.specs.Story.{HasOutcomes}
use Rattle.ham_runs.specs.OneLed.{one_led, one_leader, asked_of_one, followed}

-- ---- the plan
none_beyond : (m n : ℕ) → conflicts one_led (suc (suc m)) n ≡ false
none_beyond m n = among-outside 2 one_led.conflict (suc (suc m)) n (omega arith)

none_after : (m n : ℕ) → conflicts one_led m (suc (suc n)) ≡ false
none_after m n = elim (true_or_false (conflicts one_led m (suc (suc n)))) [
  | inl t ↦ let w = (among-within 2 one_led.conflict m (suc (suc n)) t).1 in absurd (omega arith)
  | inr f ↦ f
]

turned : (m n : ℕ) → conflicts one_led m n ≡ conflicts one_led n m
turned zero zero = refl
turned zero (suc zero) = refl
turned (suc zero) zero = refl
turned (suc zero) (suc zero) = refl
turned (suc (suc m)) n = none_beyond m n ∙ sym (none_after n m)
turned m (suc (suc n)) = none_after m n ∙ sym (none_beyond n m)

least_is : (m : ℕ) → IsLeastOf (conflicts one_led) m (least_of one_led m)
least_is zero = (Joined-direct (conflicts one_led) 0 0 refl, λ k j. omega arith)
least_is (suc zero) = (Joined-direct (conflicts one_led) 1 0 refl, λ k j. omega arith)
least_is (suc (suc m)) = none_beyond m

is_plan : IsPlan one_led
is_plan = record {
  few_methods = omega arith;
  some_replicas = omega arith;
  few_replicas = omega arith;
  symmetric = turned;
  least_is = least_is;
}

all_conflict : (m n : ℕ) → m < 2 → n < 2 → conflicts one_led m n ≡ true
all_conflict zero zero h k = refl
all_conflict zero (suc zero) h k = refl
all_conflict zero (suc (suc n)) h k = absurd (omega arith)
all_conflict (suc zero) zero h k = refl
all_conflict (suc zero) (suc zero) h k = refl
all_conflict (suc zero) (suc (suc n)) h k = absurd (omega arith)
all_conflict (suc (suc m)) n h k = absurd (omega arith)

all_depend : (m n : ℕ) → m < 2 → n < 2 → depends_on one_led m n ≡ true
all_depend zero zero h k = refl
all_depend zero (suc zero) h k = refl
all_depend zero (suc (suc n)) h k = absurd (omega arith)
all_depend (suc zero) zero h k = refl
all_depend (suc zero) (suc zero) h k = refl
all_depend (suc zero) (suc (suc n)) h k = absurd (omega arith)
all_depend (suc (suc m)) n h k = absurd (omega arith)

pub is_single : IsSingle one_led
is_single = record { conflict = all_conflict; depends = all_depend }

pub one_led_is_planned : IsPlanned bank one_led
one_led_is_planned = record {
  checked = bank_checked;
  plan = is_plan;
  methods = refl;
  sound = single_plan_sound bank one_led is_plan refl is_single;
}

-- ---- its run
module _ (x : Rules) (h : HasOutcomes x) where
  step_1 : after_input x one_leader (drop 6 followed) (Issue 1 (deposit 5)) ≡ drop 5 followed
  unfolding setting_of
  step_1 = rw (h.room, h.fits_5, h.paid_in) refl

  step_2 : after_input x one_leader (drop 5 followed) (Deliver 2 1 1) ≡ drop 4 followed
  unfolding setting_of
  step_2 = refl

  step_3 : after_input x one_leader (drop 4 followed) (Issue 2 (withdraw 4)) ≡ drop 3 followed
  unfolding setting_of
  step_3 = rw h.fits_4 refl

  step_4 : after_input x one_leader (drop 3 followed) (Deliver 1 2 2) ≡ drop 2 followed
  unfolding setting_of
  step_4 = rw (h.room, h.covered) refl

  step_5 : after_input x one_leader (drop 2 followed) (Deliver 3 1 2) ≡ drop 1 followed
  unfolding setting_of
  step_5 = refl

  step_6 : after_input x one_leader (drop 1 followed) (Deliver 3 1 1) ≡ drop 0 followed
  unfolding setting_of
  step_6 = refl

  pub one_gives : run_of x one_leader asked_of_one ≡ followed
  unfolding run_of
  one_gives =
      ap (λ z. fold (after_input x one_leader) z (drop 1 asked_of_one)) step_1
      ∙ ap (λ z. fold (after_input x one_leader) z (drop 2 asked_of_one)) step_2
      ∙ ap (λ z. fold (after_input x one_leader) z (drop 3 asked_of_one)) step_3
      ∙ ap (λ z. fold (after_input x one_leader) z (drop 4 asked_of_one)) step_4
      ∙ ap (λ z. fold (after_input x one_leader) z (drop 5 asked_of_one)) step_5
      ∙ ap (λ z. fold (after_input x one_leader) z (drop 6 asked_of_one)) step_6
