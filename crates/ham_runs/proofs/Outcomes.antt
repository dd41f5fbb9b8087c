-- The bank has the outcomes of the story.
use Rattle.std.proofs.Common.{◌≡◌, ◌↔◌, ℕ, ℤ, pos, neg_ℤ, ◌+ℤ◌, ◌≤ℤ◌, Bool, true, false, cond, ◌&&◌, refl, inl, inr, arith}
use Rattle.std.specs.Prelude.{◌==◌}
use Rattle.std.proofs.lemmas.Int.{ints}
use Rattle.std.proofs.lemmas.Option.{none-some}
use Rattle.ham_syntax.specs.declared.act.Act.{Act}
use Rattle.ham_syntax.specs.declared.object.Invariant.TheVariants.{Low}
use Rattle.ham_state.specs.Content.{State, value, opening}
use Rattle.ham_state.proofs.ContentLaws.{value-opening}
use Rattle.ham_meaning.specs.declared.outcome.Outcome.{Outcome}
use Rattle.ham_meaning.specs.declared.outcome.Outcome.TheVariants.{Yes, Invariant}
use Rattle.ham_meaning.specs.Meaning.{update, IsOutcome, outcome_of}
use Rattle.ham_laws.specs.Bank.{bank, deposit, withdraw}
use Rattle.ham_laws.proofs.Banking.{IsChange, balance_after, permissible_from}
use Rattle.ham_turns.specs.Settings.{rules_of}
use Rattle.ham_runs.specs.Story.{HasOutcomes}

abbrev paying : (v : ℕ) → IsChange (deposit v)
paying v = record { by = pos v; net = refl; free = refl; sign = inl (refl, omega (arith, ints)) }

abbrev drawing : (v : ℕ) → IsChange (withdraw v)
drawing v = record { by = neg_ℤ (pos v); net = refl; free = refl; sign = inr (refl, omega (arith, ints)) }

-- the balances of the story at a key: b tells whether it is the counter's own
first_low : (b : Bool) (v : ℤ) → v ≡ pos 0 → pos 0 ≤ℤ (v +ℤ cond b (pos 5) (pos 0))
first_low true v e = omega (arith, ints)
first_low false v e = omega (arith, ints)

second_low : (b : Bool) (v u : ℤ) → v ≡ pos 0 → u ≡ v +ℤ cond b (pos 5) (pos 0) → pos 0 ≤ℤ (u +ℤ cond b (neg_ℤ (pos 4)) (pos 0))
second_low true v u e f = omega (arith, ints)
second_low false v u e f = omega (arith, ints)

third_low : (b : Bool) (v u w : ℤ) → v ≡ pos 0 → u ≡ v +ℤ cond b (pos 5) (pos 0) → w ≡ u +ℤ cond b (neg_ℤ (pos 4)) (pos 0) → pos 0 ≤ℤ (w +ℤ cond b (neg_ℤ (pos 1)) (pos 0))
third_low true v u w e f g = omega (arith, ints)
third_low false v u w e f g = omega (arith, ints)

overdrawn : (v u : ℤ) → v ≡ pos 0 → u ≡ v +ℤ neg_ℤ (pos 3) → pos 0 ≤ℤ u → ⊥
overdrawn v u e f h = omega (arith, ints)

pub bank_outcomes : ((s : State) (a : Act) (u : Outcome) → (outcome_of bank s a ≡ u) ↔ IsOutcome bank s a u) → HasOutcomes (rules_of bank)
bank_outcomes exact =
    let paid : State = update bank (deposit 5) opening in
    let drawn : State = update bank (withdraw 4) paid in
    record {
      room = refl;
      fits_5 = refl;
      fits_3 = refl;
      fits_4 = refl;
      fits_1 = refl;
      paid_in = (exact opening (deposit 5) Yes).1 (permissible_from (deposit 5) (paying 5) opening (λ k. first_low ((0 == 0) && (0 == k)) (value opening 0 k) (value-opening 0 k)));
      too_much = (exact opening (withdraw 3) (Invariant 0)).1 (
        λ i g is. absurd (none-some g is),
        record {
          item = Low 0 (pos 0);
          is = refl;
          fails = λ h. overdrawn (value opening 0 0) (value (update bank (withdraw 3) opening) 0 0) (value-opening 0 0) (balance_after (withdraw 3) (drawing 3) opening 0) (h 0);
          before = λ j v lt is. absurd (omega arith);
        },
      );
      covered = (exact paid (withdraw 4) Yes).1 (permissible_from (withdraw 4) (drawing 4) paid
          (λ k. second_low ((0 == 0) && (0 == k)) (value opening 0 k) (value paid 0 k) (value-opening 0 k) (balance_after (deposit 5) (paying 5) opening k)));
      still_covered = (exact drawn (withdraw 1) Yes).1 (permissible_from (withdraw 1) (drawing 1) drawn
          (λ k. third_low ((0 == 0) && (0 == k)) (value opening 0 k) (value paid 0 k) (value drawn 0 k) (value-opening 0 k) (balance_after (deposit 5) (paying 5) opening k) (balance_after (withdraw 4) (drawing 4) paid k)));
    }
