-- What steps touch, and what it is for a reference that no spot is broken.
use Rattle.std.proofs.Common.{◌≡◌, ◌≢◌, ℕ, ◌<◌, Bool, true, false, not, ◌&&◌, List, Option, Some, None, refl, sym, ap, ◌∙◌}
use Rattle.std.specs.Prelude.{nat_lt, ℤ, pos, ◌+ℤ◌, unwrap_or, ◌↔◌}
use Rattle.std.proofs.lemmas.Bool.{true≢false, and_left, and_right, and_from, lt-ltb, ltb-true, false_from_ne_true}
use Rattle.ham_content.specs.Numbers.{same, IsNumber}
use Rattle.ham_content.specs.Tallies.{has_at}
use Rattle.ham_content.proofs.Numbers.{zero_from_none}
use Rattle.ham_syntax.specs.declared.object.Invariant.TheVariants as invariants
use Rattle.ham_state.proofs.Newly.{newly_above}
use Rattle.ham_content.specs.Counted.{at_columns, tally}
use Rattle.ham_watch.specs.Broken.{is_broken}
use Rattle.ham_content.proofs.Tallies.{number-tally, tally-some}
use Rattle.ham_steps.specs.declared.step.Step.{Step}
use Rattle.ham_steps.specs.Content.{State, has, value}
use Rattle.ham_steps.specs.Steps.{after_steps}
use Rattle.ham_steps.specs.Touch.{last_touch, gains}
use Rattle.ham_steps.proofs.ContentLaws.{add_none}
use Rattle.ham_steps.proofs.LastTouch.{has-after_steps, value-after_steps}

-- a row whose presence changed was touched, and last so
turned : (o : Option Bool) (was now : Bool) → now ≡ unwrap_or o was → (was ≡ now → ⊥) → o ≡ Some now
turned None was now e ne = absurd (ne (sym e))
turned (Some b) was now e ne = ap Some (sym e)

pub touched : (net : List Step) (s : State) (r : ℕ) (x : List ℕ) (was now : Bool) → has s r x ≡ was → has (after_steps net s) r x ≡ now → (was ≡ now → ⊥) → last_touch net r x ≡ Some now
touched net s r x was now e g ne = turned (last_touch net r x) was now (sym g ∙ has-after_steps net s r x ∙ ap (unwrap_or (last_touch net r x)) e) ne

pub at_key : (p : ℤ → Bool) (net : List Step) (s : State) (c key : ℕ) → p (value s c key) ≡ false → p (value (after_steps net s) c key) ≡ true → gains net c key ≢ pos 0
at_key p net s c key was now e = true≢false (sym now ∙ ap p (value-after_steps net s c key ∙ ap (λ z. value s c key +ℤ z) e ∙ sym (add_none (value s c key))) ∙ was)

-- ---- an invariant holds exactly where no spot is broken
none_in_vain : (c : ℕ) (h : Bool) → (0 < c → h ≡ true) → (nat_lt 0 c && not h) ≡ false
none_in_vain c true f = and_right (nat_lt 0 c) false refl
none_in_vain c false f = and_left (nat_lt 0 c) true (false_from_ne_true (nat_lt 0 c) (λ e. true≢false (sym (f (ltb-true 0 c e)))))

pub some_row_at : (f : List ℕ → List ℕ) (h : List ℕ → Bool) (k : List ℕ) (c : ℕ) → IsNumber (has_at f h k) c → 0 < c → (x : List ℕ) × (f x ≡ k) × (h x ≡ true)
some_row_at f h k c number l =
    let came = newly_above f (λ x. false) h 0 k 0 c (zero_from_none (has_at f (λ x. false) k) (λ x. and_right (same (f x) k) false refl)) number refl (lt-ltb 0 c l) in
    (came.0, came.1, came.2)

pub reference_holds : (s : State) (from : ℕ) (columns : List ℕ) (to : ℕ) → ((k : List ℕ) → is_broken s (invariants.Reference from columns to) k ≡ false) ↔ ((x : List ℕ) → has s from x ≡ true → has s to (at_columns columns x) ≡ true)
reference_holds s from columns to = (
  λ sound x there. refers (tally s from columns (at_columns columns x)) (has s to (at_columns columns x)) (tally-some s from x columns there) (sound (at_columns columns x)),
  λ all k. none_in_vain (tally s from columns k) (has s to k) (λ l. let w = some_row_at (at_columns columns) (has s from) k (tally s from columns k) (number-tally s from columns k) l in ap (has s to) (sym w.1) ∙ all w.0 w.2),
)
  where
    refers : (c : ℕ) (h : Bool) → 0 < c → (nat_lt 0 c && not h) ≡ false → h ≡ true
    refers c true l e = refl
    refers c false l e = absurd (true≢false (sym (and_from (nat_lt 0 c) true (lt-ltb 0 c l) refl) ∙ e))
