-- The last step that touches a row, found step by step.
use Rattle.std.proofs.Common.{◌≡◌, ℕ, ◌+◌, ◌<◌, ◌≤◌, Bool, true, false, cond, ◌&&◌, eqb, List, [], ◌∷◌, length, get_or, drop, drop-cons, add-one, length-drop, Option, Some, None, refl, sym, ap, ◌∙◌, arith}
use Rattle.std.specs.Prelude.{nat_eq}
use Rattle.std.specs.Option.{option_or}
use Rattle.std.specs.Cmp.Lexicographic.{pointwise}
use Rattle.ham_steps.specs.declared.step.Step.{Step}
use Rattle.ham_steps.specs.Pattern.{is_row}
use Rattle.ham_steps.specs.Touch.{touches, puts, last_touch}

-- rows that are equal number by number are one
pub pointwise-row : (row x : List ℕ) → pointwise nat_eq row x ≡ is_row row x
pointwise-row [] [] = refl
pointwise-row [] (x ∷ xs) = refl
pointwise-row (r ∷ rs) [] = refl
pointwise-row (r ∷ rs) (x ∷ xs) = ap (λ b. eqb r x && b) (pointwise-row rs xs)

or_none : (o : Option Bool) → option_or o None ≡ o
or_none None = refl
or_none (Some b) = refl

pub touch_first : (steps : List Step) (q : ℕ) (x : List ℕ) → option_or (last_touch steps q x) None ≡ last_touch steps q x
touch_first steps q x = or_none (last_touch steps q x)

-- the touch of a later step comes before that of an earlier one
turn : (late : Option Bool) (b p : Bool) (earlier : Option Bool) → option_or (option_or late (cond b (Some p) None)) earlier ≡ option_or late (cond b (Some p) earlier)
turn None true p earlier = refl
turn None false p earlier = refl
turn (Some c) b p earlier = refl

one_less : (steps : List Step) (i : ℕ) (st : Step) → i < length steps → st ≡ get_or steps i st → drop i steps ≡ st ∷ drop (i + 1) steps
one_less steps i st h is = rw (add-one i) (drop-cons steps i st h) ∙ ap (λ (u : Step). u ∷ drop (i + 1) steps) (sym is)

pub touch_next : (steps : List Step) (i : ℕ) (st : Step) (q : ℕ) (x : List ℕ) (earlier new : Option Bool) → i < length steps → st ≡ get_or steps i st →
    new ≡ cond (touches st q x) (Some (puts st)) earlier →
    option_or (last_touch (drop (i + 1) steps) q x) new ≡ option_or (last_touch (drop i steps) q x) earlier
touch_next steps i st q x earlier new h is e =
    ap (option_or (last_touch (drop (i + 1) steps) q x)) e
    ∙ sym (turn (last_touch (drop (i + 1) steps) q x) (touches st q x) (puts st) earlier)
    ∙ sym (ap (λ (rest : List Step). option_or (last_touch rest q x) earlier) (one_less steps i st h is))

none_left : (rest : List Step) (q : ℕ) (x : List ℕ) (last : Option Bool) → length rest ≡ 0 → option_or (last_touch rest q x) last ≡ last
none_left [] q x last e = refl
none_left (st ∷ rest) q x last e = absurd (omega arith)

pub touch_last : (steps : List Step) (i : ℕ) (q : ℕ) (x : List ℕ) (last : Option Bool) → length steps ≤ i → option_or (last_touch (drop i steps) q x) last ≡ last
touch_last steps i q x last h = none_left (drop i steps) q x last (omega (arith, length-drop i steps))
