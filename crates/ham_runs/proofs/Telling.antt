-- The bank's plan for three replicas, and the run of the story.
use Rattle.std.proofs.Common.{◌≡◌, ℕ, zero, suc, ◌≤◌, Bool, true, false, eqb, List, [], ◌∷◌, fold, drop, inl, inr, ap, ◌∙◌, refl, sym, subst, arith}
use Rattle.std.proofs.lemmas.Bool.{eqb-true, and_parts}
use Rattle.ham_meaning.specs.OfObjects.{meaning}
use Rattle.ham_laws.specs.Executions.{IsSound}
use Rattle.ham_plan.specs.Groups.{IsChain, Joined, IsLeastOf}
use Rattle.ham_plan.specs.Plans.{IsPlan, conflicts, depends_on, least_of}
use Rattle.ham_laws.specs.Bank.{bank, withdrawals, deposit, withdraw}
use Rattle.ham_plan.proofs.Lists.{true_or_false}
use Rattle.ham_plan.proofs.Joining.{Joined-direct}
use Rattle.ham_plan.proofs.Labelling.{among-within}
use Rattle.ham_laws.proofs.Banking.{withdrawals_sound, bank_checked}
use Rattle.ham_laws.specs.Constrained.{IsPlanned}
use Rattle.ham_runs.specs.Next.{after_input, run_of}
use Rattle.ham_runs.specs.Next.Input.{Issue, Deliver, Tear, Tick}
use Rattle.ham_turns.specs.Settings.{Rules, setting_of}
use Rattle.ham_runs.specs.Story.{HasOutcomes, three, setting, story, told}

pub differ : false ≡ true → ⊥
differ h = cc

pub bool_same : (a b : Bool) → (a ≡ true → b ≡ true) → (b ≡ true → a ≡ true) → a ≡ b
bool_same true b to from = sym (to refl)
bool_same false true to from = from refl
bool_same false false to from = refl

-- ---- the plan
conflict_only : (m n : ℕ) → conflicts three m n ≡ true → (m ≡ 1) × (n ≡ 1)
conflict_only zero zero e = absurd (differ e)
conflict_only zero (suc zero) e = absurd (differ e)
conflict_only zero (suc (suc n)) e = let w = (among-within 2 three.conflict zero (suc (suc n)) e).1 in absurd (omega arith)
conflict_only (suc zero) zero e = absurd (differ e)
conflict_only (suc zero) (suc zero) e = (refl, refl)
conflict_only (suc zero) (suc (suc n)) e = let w = (among-within 2 three.conflict (suc zero) (suc (suc n)) e).1 in absurd (omega arith)
conflict_only (suc (suc m)) n e = let w = (among-within 2 three.conflict (suc (suc m)) n e).0 in absurd (omega arith)

turned : (m n : ℕ) → conflicts three m n ≡ true → conflicts three n m ≡ true
turned m n e = let w = conflict_only m n e in subst (λ z. conflicts three z m ≡ true) (sym w.1) (subst (λ z. conflicts three 1 z ≡ true) (sym w.0) refl)

free_of : (m n : ℕ) → (m ≡ 1 → ⊥) → conflicts three m n ≡ false
free_of m n ne = elim (true_or_false (conflicts three m n)) [ inl t ↦ absurd (ne (conflict_only m n t).0) | inr f ↦ f ]

only_joined : (n : ℕ) (between : List ℕ) → (k : Joined (conflicts three) 1 n) → k.between ≡ between → 1 ≤ n
only_joined n between k e = by_chain between 1 (subst (λ b. Chained b) e k.is_chain)
  where
    Chained : List ℕ → Type 0
    Chained b = IsChain (conflicts three) 1 b n

    by_chain : (b : List ℕ) (m : ℕ) → IsChain (conflicts three) m b n → 1 ≤ n
    by_chain [] m h = let w = (conflict_only m n h).1 in omega arith
    by_chain (z ∷ zs) m h = by_chain zs z h.1

least_is : (m : ℕ) → IsLeastOf (conflicts three) m (least_of three m)
least_is zero = λ n. free_of 0 n (λ q. absurd (omega arith))
least_is (suc zero) = (Joined-direct (conflicts three) 1 1 refl, λ k j. only_joined k j.between j refl)
least_is (suc (suc m)) = λ n. free_of (suc (suc m)) n (λ q. absurd (omega arith))

three_is_plan : IsPlan three
three_is_plan = record {
  few_methods = omega arith;
  some_replicas = omega arith;
  few_replicas = omega arith;
  symmetric = λ m n. bool_same _ _ (turned m n) (turned n m);
  least_is = least_is;
}

depends_only : (m n : ℕ) → depends_on three m n ≡ true → (m ≡ 1) × (n ≡ 0)
depends_only zero zero e = absurd (differ e)
depends_only zero (suc zero) e = absurd (differ e)
depends_only zero (suc (suc n)) e = let w = (among-within 2 three.depends zero (suc (suc n)) e).1 in absurd (omega arith)
depends_only (suc zero) zero e = (refl, refl)
depends_only (suc zero) (suc zero) e = absurd (differ e)
depends_only (suc zero) (suc (suc n)) e = let w = (among-within 2 three.depends (suc zero) (suc (suc n)) e).1 in absurd (omega arith)
depends_only (suc (suc m)) n e = let w = (among-within 2 three.depends (suc (suc m)) n e).0 in absurd (omega arith)

conflict_same : (m n : ℕ) → withdrawals.conflict m n ≡ conflicts three m n
conflict_same m n = bool_same _ _
    (λ t. let w = and_parts (eqb m 1) (eqb n 1) t in
    subst (λ z. conflicts three z n ≡ true) (sym (eqb-true m 1 w.0)) (subst (λ z. conflicts three 1 z ≡ true) (sym (eqb-true n 1 w.1)) refl))
    (λ t. let w = conflict_only m n t in subst (λ z. withdrawals.conflict z n ≡ true) (sym w.0) (subst (λ z. withdrawals.conflict 1 z ≡ true) (sym w.1) refl))

pub depends_same : (m n : ℕ) → withdrawals.depends m n ≡ depends_on three m n
depends_same m n = bool_same _ _
    (λ t. let w = and_parts (eqb m 1) (eqb n 0) t in
    subst (λ z. depends_on three z n ≡ true) (sym (eqb-true m 1 w.0)) (subst (λ z. depends_on three 1 z ≡ true) (sym (eqb-true n 0 w.1)) refl))
    (λ t. let w = depends_only m n t in subst (λ z. withdrawals.depends z n ≡ true) (sym w.0) (subst (λ z. withdrawals.depends 1 z ≡ true) (sym w.1) refl))

pub bank_is_planned : IsPlanned bank three
bank_is_planned = record {
  checked = bank_checked;
  plan = three_is_plan;
  methods = refl;
  sound = subst (λ c. IsSound (meaning bank) c) (λ i. record { conflict = λ m n. conflict_same m n i; depends = λ m n. depends_same m n i }) withdrawals_sound;
}

module _ (x : Rules) (h : HasOutcomes x) where
  step_1 : after_input x setting (drop 13 told) (Issue 2 (deposit 5)) ≡ drop 12 told
  unfolding setting_of
  step_1 = rw (h.room, h.fits_5, h.paid_in) refl

  step_2 : after_input x setting (drop 12 told) (Issue 1 (withdraw 3)) ≡ drop 11 told
  unfolding setting_of
  step_2 = rw (h.room, h.fits_3, h.too_much) refl

  step_3 : after_input x setting (drop 11 told) (Deliver 1 2 1) ≡ drop 10 told
  unfolding setting_of
  step_3 = refl

  step_4 : after_input x setting (drop 10 told) (Issue 3 (withdraw 4)) ≡ drop 9 told
  unfolding setting_of
  step_4 = rw h.fits_4 refl

  step_5 : after_input x setting (drop 9 told) (Deliver 1 3 1) ≡ drop 8 told
  unfolding setting_of
  step_5 = rw (h.room, h.covered) refl

  step_6 : after_input x setting (drop 8 told) (Issue 1 (withdraw 1)) ≡ drop 7 told
  unfolding setting_of
  step_6 = rw (h.room, h.fits_1, h.still_covered) refl

  step_7 : after_input x setting (drop 7 told) (Deliver 3 1 3) ≡ drop 6 told
  unfolding setting_of
  step_7 = refl

  step_8 : after_input x setting (drop 6 told) (Deliver 3 1 1) ≡ drop 5 told
  unfolding setting_of
  step_8 = refl

  step_9 : after_input x setting (drop 5 told) (Deliver 1 3 1) ≡ drop 4 told
  unfolding setting_of
  step_9 = refl

  step_10 : after_input x setting (drop 4 told) (Tear 3 1 2) ≡ drop 3 told
  unfolding setting_of
  step_10 = refl

  step_11 : after_input x setting (drop 3 told) (Tick 2) ≡ drop 2 told
  unfolding setting_of
  step_11 = refl

  step_12 : after_input x setting (drop 2 told) (Deliver 3 2 2) ≡ drop 1 told
  unfolding setting_of
  step_12 = refl

  step_13 : after_input x setting (drop 1 told) (Deliver 3 1 2) ≡ drop 0 told
  unfolding setting_of
  step_13 = refl

  pub story_gives : run_of x setting story ≡ told
  unfolding run_of
  story_gives =
      ap (λ z. fold (after_input x setting) z (drop 1 story)) step_1
      ∙ ap (λ z. fold (after_input x setting) z (drop 2 story)) step_2
      ∙ ap (λ z. fold (after_input x setting) z (drop 3 story)) step_3
      ∙ ap (λ z. fold (after_input x setting) z (drop 4 story)) step_4
      ∙ ap (λ z. fold (after_input x setting) z (drop 5 story)) step_5
      ∙ ap (λ z. fold (after_input x setting) z (drop 6 story)) step_6
      ∙ ap (λ z. fold (after_input x setting) z (drop 7 story)) step_7
      ∙ ap (λ z. fold (after_input x setting) z (drop 8 story)) step_8
      ∙ ap (λ z. fold (after_input x setting) z (drop 9 story)) step_9
      ∙ ap (λ z. fold (after_input x setting) z (drop 10 story)) step_10
      ∙ ap (λ z. fold (after_input x setting) z (drop 11 story)) step_11
      ∙ ap (λ z. fold (after_input x setting) z (drop 12 story)) step_12
      ∙ ap (λ z. fold (after_input x setting) z (drop 13 story)) step_13
