-- The relations that slips would derive are false.
use Rattle.std.proofs.Common.{◌≡◌, ℕ, zero, suc, Bool, true, false, cond, length, List, [], ◌∷◌, Some, None, refl, sym, ap, subst, ◌∙◌, true≢false, arith}
use Rattle.std.specs.Prelude.{◌==◌, slice_get, unwrap_or}
use Rattle.std.proofs.lemmas.Bool.{eqb-true}
use Rattle.std.proofs.lemmas.Option.{same_Some, none-some}
use Rattle.ham_syntax.specs.declared.act.Act.{Act}
use Rattle.ham_syntax.specs.declared.object.Invariant.{Invariant}
use Rattle.ham_syntax.specs.declared.term.Term.TheVariants.{Const}
use Rattle.ham_syntax.specs.Objects.{columns_of}
use Rattle.ham_steps.specs.declared.step.Step.{Step}
use Rattle.ham_steps.specs.declared.step.Step.TheVariants as steps
use Rattle.ham_steps.specs.Pattern.{matches, is_row}
use Rattle.ham_steps.specs.Content.{State, has, opening}
use Rattle.ham_steps.specs.Steps.{after_steps}
use Rattle.ham_steps.proofs.ContentLaws.{has-opening, is_row-same}
use Rattle.ham_steps.proofs.LastTouch.{has-after_steps}
use Rattle.ham_content.specs.Counted.{at_columns}
use Rattle.ham_state.specs.Holding.{Holds}
use Rattle.ham_meaning.specs.Meaning.{AllHold, IsPermissible, net_of, update}
use Rattle.ham_meaning.specs.OfObjects.{HasColumns, meaning}
use Rattle.ham_meaning.specs.Relations.{StateCommute, PermissibleRight, PermissibleLeft}
use Rattle.ham_slips.specs.Slips.{tags, school, course_of_enrolled, seats, one_of_each}

nothing_there : (r : ℕ) (x : List ℕ) → has opening r x ≡ true → ⊥
nothing_there r x h = true≢false (sym h ∙ has-opening r x)

opening_well : (columns : List ℕ) → HasColumns columns opening
opening_well columns r x h = absurd (nothing_there r x h)

-- what holds of the one invariant
one_holds : (s : State) (v : Invariant) → Holds s v → (i : ℕ) (w : Invariant) → slice_get (v ∷ []) i ≡ Some w → Holds s w
one_holds s v h zero w is = subst (Holds s) (same_Some v w is) h
one_holds s v h (suc i) w is = absurd (none-some w is)

-- ---- a tag that is put and dropped
put : Act
put = record { method = 0; args = 7 ∷ [] }

drop : Act
drop = record { method = 1; args = 0 ∷ 7 ∷ [] }

pub tags_dont_commute : StateCommute (meaning tags) 0 1 → ⊥
unfolding put drop
tags_dont_commute c =
    let same : update tags put (update tags drop opening) ≡ update tags drop (update tags put opening) = c put drop opening (refl, refl) (refl, refl) (opening_well (columns_of tags)) in
    let put_last : has (update tags put (update tags drop opening)) 0 (7 ∷ []) ≡ true = has-after_steps (net_of tags put) (update tags drop opening) 0 (7 ∷ []) in
    let drop_last : has (update tags drop (update tags put opening)) 0 (7 ∷ []) ≡ false = has-after_steps (net_of tags drop) (update tags put opening) 0 (7 ∷ []) in
    true≢false (sym put_last ∙ ap (λ (s : State). has s 0 (7 ∷ [])) same ∙ drop_last)

-- ---- a course that somebody is in
begun : List Step
begun = steps.Insert 0 (5 ∷ []) ∷ steps.Insert 1 (5 ∷ []) ∷ []

started : State
started = after_steps begun opening

close : Act
close = record { method = 0; args = 5 ∷ [] }

leave : Act
leave = record { method = 1; args = 5 ∷ [] }

in_course : has started 0 (5 ∷ []) ≡ true
unfolding started begun
in_course = has-after_steps begun opening 0 (5 ∷ [])

is_enrolled : has started 1 (5 ∷ []) ≡ true
unfolding started begun
is_enrolled = has-after_steps begun opening 1 (5 ∷ [])

enrolled_only : (x : List ℕ) → has started 1 x ≡ true → 5 ∷ [] ≡ x
unfolding started begun
enrolled_only x h = by (is_row (5 ∷ []) x) refl
  where
    by : (b : Bool) → is_row (5 ∷ []) x ≡ b → 5 ∷ [] ≡ x
    by true e = is_row-same (5 ∷ []) x e
    by false e = absurd (nothing_there 1 x (sym (has-after_steps begun opening 1 x ∙ rw e refl) ∙ h))

course_only : (x : List ℕ) → has started 0 x ≡ true → 5 ∷ [] ≡ x
unfolding started begun
course_only x h = by (is_row (5 ∷ []) x) refl
  where
    by : (b : Bool) → is_row (5 ∷ []) x ≡ b → 5 ∷ [] ≡ x
    by true e = is_row-same (5 ∷ []) x e
    by false e = absurd (nothing_there 0 x (sym (has-after_steps begun opening 0 x ∙ rw e refl) ∙ h))

other : (a b : ℕ) → (a ≡ b → ⊥) → (a == b) ≡ false
other a b ne = by (a == b) refl
  where
    by : (t : Bool) → (a == b) ≡ t → t ≡ false
    by false e = refl
    by true e = absurd (ne (eqb-true a b e))

started_well : HasColumns (columns_of school) started
unfolding started begun
started_well zero x h = ap (λ (y : List ℕ). Some (length y)) (course_only x h)
started_well (suc zero) x h = ap (λ (y : List ℕ). Some (length y)) (enrolled_only x h)
started_well (suc (suc r)) x h =
    let untouched : has started (suc (suc r)) x ≡ has opening (suc (suc r)) x =
    has-after_steps begun opening (suc (suc r)) x ∙ rw (other 0 (suc (suc r)) (λ e. omega arith), other 1 (suc (suc r)) (λ e. omega arith)) refl in
    absurd (nothing_there (suc (suc r)) x (sym untouched ∙ h))

started_holds : Holds started course_of_enrolled
started_holds x h = subst (λ (y : List ℕ). has started 0 (at_columns (1 ∷ []) y) ≡ true) (enrolled_only x h) in_course

-- where nobody is enrolled, the reference holds
nobody_holds : (s : State) → ((x : List ℕ) → has s 1 x ≡ true → ⊥) → Holds s course_of_enrolled
nobody_holds s none x h = absurd (none x h)

left_none : (x : List ℕ) → has (update school leave started) 1 x ≡ true → ⊥
unfolding leave
left_none x h = by (matches (Const 5 ∷ []) x) refl
  where
    after : (b : Bool) → matches (Const 5 ∷ []) x ≡ b → has (update school leave started) 1 x ≡ unwrap_or (cond b (Some false) None) (has started 1 x)
    after b e = has-after_steps (net_of school leave) started 1 x ∙ rw e refl

    by : (b : Bool) → matches (Const 5 ∷ []) x ≡ b → ⊥
    by true e = true≢false (sym h ∙ after true e)
    by false e = true≢false (ap (matches (Const 5 ∷ [])) (enrolled_only x (sym (after false e) ∙ h)) ∙ e)

closed_none : (x : List ℕ) → has (update school close (update school leave started)) 1 x ≡ true → ⊥
unfolding close
closed_none x h = left_none x (sym (has-after_steps (net_of school close) (update school leave started) 1 x) ∙ h)

pub courses_wait : PermissibleLeft (meaning school) 0 1 → ⊥
unfolding close leave
courses_wait c =
    let may_leave : IsPermissible school started leave = record { guards = λ i g is. absurd (none-some g is); invariants = one_holds (update school leave started) course_of_enrolled (nobody_holds (update school leave started) left_none) } in
    let may_close : IsPermissible school (update school leave started) close = record { guards = λ i g is. absurd (none-some g is); invariants = one_holds (update school close (update school leave started)) course_of_enrolled (nobody_holds (update school close (update school leave started)) closed_none) } in
    let before : IsPermissible school started close = c close leave started (refl, refl) (refl, refl) started_well (one_holds started course_of_enrolled started_holds) may_leave may_close in
    let stays : has (update school close started) 1 (5 ∷ []) ≡ true = has-after_steps (net_of school close) started 1 (5 ∷ []) ∙ is_enrolled in
    let gone : has (update school close started) 0 (5 ∷ []) ≡ false = has-after_steps (net_of school close) started 0 (5 ∷ []) in
    true≢false (sym (before.invariants 0 course_of_enrolled refl (5 ∷ []) stays) ∙ gone)

-- ---- two seats of one name
first : Act
first = record { method = 0; args = 5 ∷ [] }

second : Act
second = record { method = 1; args = 5 ∷ [] }

-- a state with one row alone satisfies the uniqueness
one_row : (s : State) (row : List ℕ) → ((x : List ℕ) → has s 0 x ≡ true → row ≡ x) → Holds s one_of_each
one_row s row only x y at_x at_y same = sym (only x at_x) ∙ only y at_y

only_row : (row x : List ℕ) → has (after_steps (steps.Insert 0 row ∷ []) opening) 0 x ≡ true → row ≡ x
only_row row x h = by (is_row row x) refl
  where
    by : (b : Bool) → is_row row x ≡ b → row ≡ x
    by true e = is_row-same row x e
    by false e = absurd (nothing_there 0 x (sym (has-after_steps (steps.Insert 0 row ∷ []) opening 0 x ∙ rw e refl) ∙ h))

pub seats_clash : PermissibleRight (meaning seats) 0 1 → ⊥
unfolding first second
seats_clash c =
    let may_first : IsPermissible seats opening first = record { guards = λ i g is. absurd (none-some g is); invariants = one_holds (update seats first opening) one_of_each (one_row (update seats first opening) (1 ∷ 5 ∷ []) (only_row (1 ∷ 5 ∷ []))) } in
    let may_second : IsPermissible seats opening second = record { guards = λ i g is. absurd (none-some g is); invariants = one_holds (update seats second opening) one_of_each (one_row (update seats second opening) (2 ∷ 5 ∷ []) (only_row (2 ∷ 5 ∷ []))) } in
    let empty : AllHold seats opening = one_holds opening one_of_each (λ x y at_x at_y same. absurd (nothing_there 0 x at_x)) in
    let after : IsPermissible seats (update seats second opening) first = c first second opening (refl, refl) (refl, refl) (opening_well (columns_of seats)) empty may_first may_second in
    let both : State = update seats first (update seats second opening) in
    let one : has both 0 (1 ∷ 5 ∷ []) ≡ true = has-after_steps (net_of seats first) (update seats second opening) 0 (1 ∷ 5 ∷ []) in
    let two : has both 0 (2 ∷ 5 ∷ []) ≡ true = has-after_steps (net_of seats first) (update seats second opening) 0 (2 ∷ 5 ∷ []) ∙ has-after_steps (net_of seats second) opening 0 (2 ∷ 5 ∷ []) in
    let same : 1 ∷ 5 ∷ [] ≡ 2 ∷ 5 ∷ [] = after.invariants 0 one_of_each refl (1 ∷ 5 ∷ []) (2 ∷ 5 ∷ []) one two refl in
    absurd (heads same)
  where
    head_or : List ℕ → ℕ
    head_or [] = 0
    head_or (x ∷ xs) = x

    heads : ◌≡◌ {A = List ℕ} (1 ∷ 5 ∷ []) (2 ∷ 5 ∷ []) → ⊥
    heads e = let n : ◌≡◌ {A = ℕ} 1 2 = ap head_or e in absurd (omega arith)
