-- After steps, a row that some step touches is there exactly where the last step that touches it puts it;
-- a row that no step touches is there exactly where it was before. Likewise a counter has gained the sum.
use Rattle.std.proofs.Common.{◌≡◌, ℕ, Bool, true, false, cond, not, ◌&&◌, ◌||◌, List, [], ◌∷◌, Option, Some, None, refl, ap, ◌∙◌, arith}
use Rattle.std.specs.Prelude.{◌+ℤ◌, ◌==◌, unwrap_or}
use Rattle.std.specs.Option.{option_or}
use Rattle.std.proofs.lemmas.Int.{ints}
use Rattle.ham_steps.specs.declared.step.Step.{Step}
use Rattle.ham_steps.specs.declared.step.Step.TheVariants as steps
use Rattle.ham_steps.specs.Pattern.{matches, is_row}
use Rattle.ham_steps.specs.Content.{State, has, value}
use Rattle.ham_steps.specs.Steps.{after_step, after_steps}
use Rattle.ham_steps.specs.Touch.{touches, puts, last_touch, gain, gains}
use Rattle.ham_steps.proofs.ContentLaws.{has-with_row, has-without_rows, has-with_change, value-with_row, value-without_rows, value-with_change}

pub or_cond : (b h : Bool) → (b || h) ≡ cond b true h
or_cond true h = refl
or_cond false h = refl

pub and_cond : (b h : Bool) → (h && not b) ≡ cond b false h
and_cond true true = refl
and_cond true false = refl
and_cond false true = refl
and_cond false false = refl

pub has-after_step : (st : Step) (s : State) (q : ℕ) (x : List ℕ) → has (after_step st s) q x ≡ cond (touches st q x) (puts st) (has s q x)
has-after_step (steps.Insert r row) s q x = has-with_row s r row q x ∙ or_cond ((r == q) && is_row row x) (has s q x)
has-after_step (steps.Delete r pattern) s q x = has-without_rows s r (matches pattern) q x ∙ and_cond ((r == q) && matches pattern x) (has s q x)
has-after_step (steps.Change c k by) s q x = has-with_change s c k by q x

pub value-after_step : (st : Step) (s : State) (d l : ℕ) → value (after_step st s) d l ≡ value s d l +ℤ gain st d l
value-after_step (steps.Insert r row) s d l = value-with_row s r row d l ∙ omega (arith, ints)
value-after_step (steps.Delete r pattern) s d l = value-without_rows s r (matches pattern) d l ∙ omega (arith, ints)
value-after_step (steps.Change c k by) s d l = value-with_change s c k by d l

later_wins : (late : Option Bool) (b p h : Bool) → unwrap_or late (cond b p h) ≡ unwrap_or (option_or late (cond b (Some p) None)) h
later_wins None true p h = refl
later_wins None false p h = refl
later_wins (Some c) b p h = refl

-- THE LAW of rows
pub has-after_steps : (sts : List Step) (s : State) (q : ℕ) (x : List ℕ) → has (after_steps sts s) q x ≡ unwrap_or (last_touch sts q x) (has s q x)
has-after_steps [] s q x = refl
has-after_steps (st ∷ sts) s q x =
    has-after_steps sts (after_step st s) q x ∙ ap (unwrap_or (last_touch sts q x)) (has-after_step st s q x)
    ∙ later_wins (last_touch sts q x) (touches st q x) (puts st) (has s q x)

-- THE LAW of counters
pub value-after_steps : (sts : List Step) (s : State) (d l : ℕ) → value (after_steps sts s) d l ≡ value s d l +ℤ gains sts d l
value-after_steps [] s d l = omega (arith, ints)
value-after_steps (st ∷ sts) s d l =
    value-after_steps sts (after_step st s) d l ∙ ap (λ z. z +ℤ gains sts d l) (value-after_step st s d l) ∙ omega (arith, ints)
