-- How many rows stand at a key after one step more.
use Rattle.std.proofs.Common.{◌≡◌, ℕ, zero, suc, ◌+◌, ◌<◌, ◌≤◌, Bool, true, false, not, ◌&&◌, ◌||◌, List, [], ◌∷◌, refl, sym, ap, ◌∙◌, subst, arith, length, map, take, get_or, add-one}
use Rattle.std.specs.Prelude.{ℤ, ◌+ℤ◌, int_le, ◌==◌, if◌then◌else◌}
use Rattle.std.specs.List.{AllByRecursion}
use Rattle.std.proofs.lemmas.Bool.{and_parts, eqb-true}
use Rattle.ham_syntax.specs.declared.term.Term.{Term}
use Rattle.ham_syntax.specs.declared.term.Term.TheVariants.{Const}
use Rattle.ham_syntax.specs.declared.object.Invariant.TheVariants as invariants
use Rattle.ham_steps.specs.declared.step.Step.{Step}
use Rattle.ham_steps.specs.declared.step.Step.TheVariants as steps
use Rattle.ham_steps.specs.Pattern.{matches, is_row}
use Rattle.ham_steps.specs.Content.{State, has, value, with_row, without_rows}
use Rattle.ham_steps.specs.Steps.{after_step, after_steps}
use Rattle.ham_steps.specs.Touch.{gains}
use Rattle.ham_steps.proofs.ContentLaws.{has-with_row, has-without_rows, is_row-same}
use Rattle.ham_steps.proofs.LastTouch.{value-after_steps}
use Rattle.ham_content.specs.Numbers.{same}
use Rattle.ham_content.proofs.Numbers.{alike}
use Rattle.ham_content.specs.Counted.{at_columns, tally}
use Rattle.ham_state.specs.Ahead.{is_sound_after}
use Rattle.ham_content.proofs.Tallies.{tally-same, tally-some}
use Rattle.ham_content.proofs.Counting.{tally-with_row, tally-without_row, tally-with_change}

-- a row that is there stays, and one that isn't there doesn't go
there_already : (s : State) (q : ℕ) (row : List ℕ) → has s q row ≡ true → (r : ℕ) (x : List ℕ) → has (with_row s q row) r x ≡ has s r x
there_already s q row there r x = has-with_row s q row r x ∙ by ((q == r) && is_row row x) refl
  where
    by : (b : Bool) → ((q == r) && is_row row x) ≡ b → (((q == r) && is_row row x) || has s r x) ≡ has s r x
    by true e =
        let w = and_parts (q == r) (is_row row x) e in
        let here : has s r x ≡ true = (λ i. has s (sym (eqb-true q r w.0) i) (sym (is_row-same row x w.1) i)) ∙ there in
        ap (λ b. b || has s r x) e ∙ sym here
    by false e = ap (λ b. b || has s r x) e

not_there : (s : State) (q : ℕ) (row : List ℕ) → has s q row ≡ false → (r : ℕ) (x : List ℕ) → has (without_rows s q (is_row row)) r x ≡ has s r x
not_there s q row absent r x = has-without_rows s q (is_row row) r x ∙ by ((q == r) && is_row row x) refl (has s r x) refl
  where
    by : (b : Bool) → ((q == r) && is_row row x) ≡ b → (h : Bool) → has s r x ≡ h → (has s r x && not ((q == r) && is_row row x)) ≡ has s r x
    by true e h f =
        let w = and_parts (q == r) (is_row row x) e in
        let none : has s r x ≡ false = (λ i. has s (sym (eqb-true q r w.0) i) (sym (is_row-same row x w.1) i)) ∙ absent in
        ap (λ b. b && not ((q == r) && is_row row x)) none ∙ sym none
    by false e true f = (λ i. f i && not (e i)) ∙ sym f
    by false e false f = (λ i. f i && not (e i)) ∙ sym f

pub tally-insert : (s : State) (q : ℕ) (row : List ℕ) (r : ℕ) (columns k : List ℕ) → tally (after_step (steps.Insert q row) s) r columns k ≡ tally s r columns k + (if not (has s q row) && ((r == q) && same (at_columns columns row) k) then 1 else 0)
tally-insert s q row r columns k = by (has s q row) refl
  where
    by : (h : Bool) → has s q row ≡ h → tally (with_row s q row) r columns k ≡ tally s r columns k + (if not (has s q row) && ((r == q) && same (at_columns columns row) k) then 1 else 0)
    by true e = tally-same s (with_row s q row) r columns k (there_already s q row e r) ∙ omega arith ∙ ap (λ b. tally s r columns k + (if not b && ((r == q) && same (at_columns columns row) k) then 1 else 0)) (sym e)
    by false e = tally-with_row s q row r columns k e ∙ ap (λ b. tally s r columns k + (if not b && ((r == q) && same (at_columns columns row) k) then 1 else 0)) (sym e)

pub tally-delete : (s : State) (q : ℕ) (row : List ℕ) (pattern : List Term) (r : ℕ) (columns k : List ℕ) → map Const row ≡ pattern → tally (after_step (steps.Delete q pattern) s) r columns k + (if has s q row && ((r == q) && same (at_columns columns row) k) then 1 else 0) ≡ tally s r columns k
tally-delete s q row pattern r columns k is = ap (λ p. tally (without_rows s q (matches p)) r columns k + (if has s q row && ((r == q) && same (at_columns columns row) k) then 1 else 0)) (sym is) ∙ by (has s q row) refl
  where
    by : (h : Bool) → has s q row ≡ h → tally (without_rows s q (is_row row)) r columns k + (if has s q row && ((r == q) && same (at_columns columns row) k) then 1 else 0) ≡ tally s r columns k
    by true e = ap (λ b. tally (without_rows s q (is_row row)) r columns k + (if b && ((r == q) && same (at_columns columns row) k) then 1 else 0)) e ∙ tally-without_row s q row r columns k e
    by false e = ap (λ b. tally (without_rows s q (is_row row)) r columns k + (if b && ((r == q) && same (at_columns columns row) k) then 1 else 0)) e ∙ (omega arith) ∙ tally-same s (without_rows s q (is_row row)) r columns k (not_there s q row e r)

pub tally-change : (s : State) (c j : ℕ) (by : ℤ) (r : ℕ) (columns k : List ℕ) → tally (after_step (steps.Change c j by) s) r columns k ≡ tally s r columns k
tally-change s c j by r columns k = tally-with_change s c j by r columns k

pub some_goes : (s : State) (q : ℕ) (row : List ℕ) (r : ℕ) (columns k : List ℕ) → (has s q row && ((r == q) && same (at_columns columns row) k)) ≡ true → 0 < tally s r columns k
some_goes s q row r columns k e =
    let w = and_parts (has s q row) ((r == q) && same (at_columns columns row) k) e in
    let v = and_parts (r == q) (same (at_columns columns row) k) w.1 in
    subst (λ z. 0 < tally s r columns z) (alike (at_columns columns row) k v.1) (tally-some s r row columns (ap (λ z. has s z row) (eqb-true r q v.0) ∙ w.0))

-- ---- steps taken one by one
pub after-take : (net : List Step) (s : State) (i : ℕ) (d : Step) → i < length net → after_step (get_or net i d) (after_steps (take i net) s) ≡ after_steps (take (suc i) net) s
after-take [] s i d l = absurd (omega arith)
after-take (st ∷ net) s zero d l = refl
after-take (st ∷ net) s (suc i) d l = after-take net (after_step st s) i d (omega arith)

-- ---- a counter at one key
pub low_at : (s : State) (net : List Step) (c : ℕ) (limit : ℤ) (k : ℕ) (b : Bool) → b ≡ int_le limit (value s c k +ℤ gains net c k) → b ≡ is_sound_after s (invariants.Low c limit) net (k ∷ [])
low_at s net c limit k b e = e ∙ ap (int_le limit) (sym (value-after_steps net s c k)) ∙ twice (int_le limit (value (after_steps net s) c k))
  where
    twice : (b : Bool) → b ≡ not (not b)
    twice true = refl
    twice false = refl

pub high_at : (s : State) (net : List Step) (c : ℕ) (limit : ℤ) (k : ℕ) (b : Bool) → b ≡ int_le (value s c k +ℤ gains net c k) limit → b ≡ is_sound_after s (invariants.High c limit) net (k ∷ [])
high_at s net c limit k b e = e ∙ ap (λ v. int_le v limit) (sym (value-after_steps net s c k)) ∙ twice (int_le (value (after_steps net s) c k) limit)
  where
    twice : (b : Bool) → b ≡ not (not b)
    twice true = refl
    twice false = refl

some_key : (s : State) (c : ℕ) (net : List Step) (limit : ℤ) (ids spot : List ℕ) (d : ℕ) (b : Bool) → ids ≡ spot → length ids ≡ 1 → b ≡ int_le limit (value s c (get_or ids 0 d) +ℤ gains net c (get_or ids 0 d)) → b ≡ is_sound_after s (invariants.Low c limit) net spot
some_key s c net limit [] spot d b e one is = absurd (omega arith)
some_key s c net limit (k ∷ []) spot d b e one is = low_at s net c limit k b is ∙ ap (is_sound_after s (invariants.Low c limit) net) e
some_key s c net limit (k ∷ j ∷ ks) spot d b e one is = absurd (omega arith)

pub low_by : (s : State) (c : ℕ) (net : List Step) (limit : ℤ) (ids spot : List ℕ) (d : ℕ) (b : Bool) (v g : ℤ) → ids ≡ spot → length ids ≡ 1 → b ≡ int_le limit (v +ℤ g) → v ≡ value s c (get_or ids 0 d) → g ≡ gains net c (get_or ids 0 d) → b ≡ is_sound_after s (invariants.Low c limit) net spot
low_by s c net limit ids spot d b v g e one is f h = some_key s c net limit ids spot d b e one (is ∙ (λ i. int_le limit (f i +ℤ h i)))

some_key_high : (s : State) (c : ℕ) (net : List Step) (limit : ℤ) (ids spot : List ℕ) (d : ℕ) (b : Bool) → ids ≡ spot → length ids ≡ 1 → b ≡ int_le (value s c (get_or ids 0 d) +ℤ gains net c (get_or ids 0 d)) limit → b ≡ is_sound_after s (invariants.High c limit) net spot
some_key_high s c net limit [] spot d b e one is = absurd (omega arith)
some_key_high s c net limit (k ∷ []) spot d b e one is = high_at s net c limit k b is ∙ ap (is_sound_after s (invariants.High c limit) net) e
some_key_high s c net limit (k ∷ j ∷ ks) spot d b e one is = absurd (omega arith)

pub high_by : (s : State) (c : ℕ) (net : List Step) (limit : ℤ) (ids spot : List ℕ) (d : ℕ) (b : Bool) (v g : ℤ) → ids ≡ spot → length ids ≡ 1 → b ≡ int_le (v +ℤ g) limit → v ≡ value s c (get_or ids 0 d) → g ≡ gains net c (get_or ids 0 d) → b ≡ is_sound_after s (invariants.High c limit) net spot
high_by s c net limit ids spot d b v g e one is f h = some_key_high s c net limit ids spot d b e one (is ∙ (λ i. int_le (f i +ℤ h i) limit))

-- a list of ids that isn't one alone is no key of a counter
pub low_other : (s : State) (c : ℕ) (net : List Step) (limit : ℤ) (spot : List ℕ) → (length spot ≡ 1 → ⊥) → true ≡ is_sound_after s (invariants.Low c limit) net spot
low_other s c net limit [] ne = refl
low_other s c net limit (k ∷ []) ne = absurd (ne refl)
low_other s c net limit (k ∷ j ∷ ks) ne = refl

pub high_other : (s : State) (c : ℕ) (net : List Step) (limit : ℤ) (spot : List ℕ) → (length spot ≡ 1 → ⊥) → true ≡ is_sound_after s (invariants.High c limit) net spot
high_other s c net limit [] ne = refl
high_other s c net limit (k ∷ []) ne = absurd (ne refl)
high_other s c net limit (k ∷ j ∷ ks) ne = refl

-- ---- the number that the code makes of one step
up_by_one : (b : Bool) (n : ℕ) → n + (if b then 1 else 0) ≤ n + 1
up_by_one true n = omega arith
up_by_one false n = omega arith

pub inserted : (s : State) (st : Step) (q : ℕ) (row : List ℕ) (r : ℕ) (columns k : List ℕ) (n m : ℕ) (b : Bool) → st ≡ steps.Insert q row → n ≡ tally s r columns k → b ≡ (not (has s q row) && ((r == q) && same (at_columns columns row) k)) → m ≡ n + (if b then 1 else 0) → (m ≡ tally (after_step st s) r columns k) × (m ≤ n + 1)
inserted s st q row r columns k n m b is f h g = (
  g ∙ (λ i. f i + (if h i then 1 else 0)) ∙ sym (tally-insert s q row r columns k) ∙ ap (λ u. tally (after_step u s) r columns k) (sym is),
  subst (λ z. z ≤ n + 1) (sym g) (up_by_one b n),
)

less_one : (m d n t u : ℕ) → m + d ≡ n → n ≡ t → u + d ≡ t → m ≡ u
less_one m d n t u e f g = omega arith

below : (m d n : ℕ) → m + d ≡ n → m ≤ n + 1
below m d n e = omega arith

pub deleted : (s : State) (st : Step) (q : ℕ) (pattern given : List Term) (x : List ℕ) (r : ℕ) (columns k : List ℕ) (n m : ℕ) (b : Bool) → st ≡ steps.Delete q pattern → map Const x ≡ given → given ≡ pattern → n ≡ tally s r columns k → b ≡ (has s q x && ((r == q) && same (at_columns columns x) k)) → m + (if b then 1 else 0) ≡ n → (m ≡ tally (after_step st s) r columns k) × (m ≤ n + 1)
deleted s st q pattern given x r columns k n m b is c e f h g = (
  less_one m (if b then 1 else 0) n (tally s r columns k) (tally (after_step (steps.Delete q pattern) s) r columns k) g f (ap (λ z. tally (after_step (steps.Delete q pattern) s) r columns k + (if z then 1 else 0)) h ∙ tally-delete s q x pattern r columns k (c ∙ e)) ∙ ap (λ u. tally (after_step u s) r columns k) (sym is),
  below m (if b then 1 else 0) n g,
)

pub unchanged : (s : State) (st : Step) (c j : ℕ) (by : ℤ) (r : ℕ) (columns k : List ℕ) (n : ℕ) → st ≡ steps.Change c j by → n ≡ tally s r columns k → (n ≡ tally (after_step st s) r columns k) × (n ≤ n + 1)
unchanged s st c j by r columns k n is f = (f ∙ sym (tally-change s c j by r columns k) ∙ ap (λ u. tally (after_step u s) r columns k) (sym is), omega arith)

pub one_more : (net : List Step) (s : State) (i : ℕ) (st : Step) (r : ℕ) (columns k : List ℕ) (n : ℕ) → i < length net → st ≡ get_or net i st → n ≡ tally (after_step st (after_steps (take i net) s)) r columns k → n ≡ tally (after_steps (take (i + 1) net) s) r columns k
one_more net s i st r columns k n l is e = e ∙ ap (λ u. tally (after_step u (after_steps (take i net) s)) r columns k) is ∙ ap (λ u. tally u r columns k) (after-take net s i st l) ∙ rw (add-one i) refl

-- ---- the first of the steps
pub all_of_first : (P : Step → Type 0) (net : List Step) (n : ℕ) → AllByRecursion P net → AllByRecursion P (take n net)
all_of_first P [] zero all = tt
all_of_first P [] (suc n) all = tt
all_of_first P (st ∷ net) zero all = tt
all_of_first P (st ∷ net) (suc n) all = (all.0, all_of_first P net n all.1)
