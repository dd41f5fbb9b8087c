-- Changes that change nothing, and what is sound with less room.
use Rattle.std.proofs.Common.{◌≡◌, ℕ, ◌+◌, ◌-◌, ◌<◌, ◌≤◌, Bool, true, false, not, ◌&&◌, ◌||◌, List, refl, sym, ap, ◌∙◌, subst, arith}
use Rattle.std.specs.Prelude.{ℤ, pos, unwrap_or, ◌==◌}
use Rattle.std.specs.HashMap as hash
use Rattle.std.specs.HashMap.{HashMap}
use Rattle.std.specs.HashSet as bag
use Rattle.std.specs.HashSet.{HashSet}
use Rattle.std.proofs.lemmas.Bool.{and_parts, eqb-true, true≢false}
use Rattle.ham_content.specs.declared.tables.FactKey.{FactKey}
use Rattle.ham_content.specs.declared.tables.Spot.{Spot}
use Rattle.ham_content.specs.declared.sieve.Sieve.{Sieve}
use Rattle.ham_watch.specs.declared.watch.Watch.{Watch}
use Rattle.ham_content.specs.Kept.{fact, spot, same_fact, same_spot, content}
use Rattle.ham_watch.specs.Watches.{AreSound}
use Rattle.ham_watch.proofs.Moves.{fewer}
use Rattle.ham_content.proofs.Contents.{has-content, value-content}
use Rattle.std.specs.Prelude.{◌^◌, nat_abs}
use Rattle.ham_steps.specs.declared.step.Step.{Step}
use Rattle.ham_steps.specs.declared.step.Step.TheVariants as steps
use Rattle.ham_steps.specs.Steps.{after_step, IsWithin}
use Rattle.ham_steps.proofs.Amounts.{grown}
use Rattle.ham_steps.specs.Pattern.{is_row, matches}
use Rattle.ham_steps.specs.Content.{State, has, value, with_row, without_rows}
use Rattle.ham_steps.proofs.ContentLaws.{same_state, is_row-same, has-with_row, has-without_rows, value-with_row, value-without_rows, value-with_change}

at_one : (s : State) (r q : ℕ) (row x : List ℕ) → ((r == q) && is_row row x) ≡ true → has s q x ≡ has s r row
at_one s r q row x e = let p = and_parts (r == q) (is_row row x) e in λ i. has s (sym (eqb-true r q p.0) i) (sym (is_row-same row x p.1) i)

pub with_row-again : (s : State) (r : ℕ) (row : List ℕ) → has s r row ≡ true → s ≡ with_row s r row
with_row-again s r row there = same_state s (with_row s r row) (λ q x. by q x ((r == q) && is_row row x) refl ∙ sym (has-with_row s r row q x)) (λ c k. sym (value-with_row s r row c k))
  where
    by : (q : ℕ) (x : List ℕ) (b : Bool) → ((r == q) && is_row row x) ≡ b → has s q x ≡ (((r == q) && is_row row x) || has s q x)
    by q x true e = at_one s r q row x e ∙ there ∙ sym (ap (λ b. b || has s q x) e)
    by q x false e = sym (ap (λ b. b || has s q x) e)

pub without-absent : (s : State) (r : ℕ) (row : List ℕ) → has s r row ≡ false → s ≡ without_rows s r (is_row row)
without-absent s r row absent = same_state s (without_rows s r (is_row row)) (λ q x. by q x ((r == q) && is_row row x) refl ∙ sym (has-without_rows s r (is_row row) q x)) (λ c k. sym (value-without_rows s r (is_row row) c k))
  where
    all : (b : Bool) → b ≡ (b && not false)
    all true = refl
    all false = refl

    none : (b : Bool) → b ≡ false → b ≡ (b && not true)
    none true e = absurd (true≢false e)
    none false e = refl

    by : (q : ℕ) (x : List ℕ) (b : Bool) → ((r == q) && is_row row x) ≡ b → has s q x ≡ (has s q x && not ((r == q) && is_row row x))
    by q x true e = none (has s q x) (at_one s r q row x e ∙ absent) ∙ sym (ap (λ b. has s q x && not b) e)
    by q x false e = all (has s q x) ∙ sym (ap (λ b. has s q x && not b) e)

pub sound_fewer : {S T : Type 0} (facts : HashSet FactKey S) (amounts : HashMap Spot ℤ T) (watches : List Watch) (sieves : List Sieve) (m n : ℕ) → m ≤ n → AreSound facts amounts watches sieves n → AreSound facts amounts watches sieves m
sound_fewer facts amounts watches sieves m n h s =
    let f = s.room_facts in
    let a = s.room_amounts in
    record { watched = s.watched; sieved = s.sieved; room_facts = omega arith; room_amounts = omega arith; room_watches = fewer m n watches h s.room_watches; room_sieves = λ i v e. let room = s.room_sieves i v e in let a = room.0 in let b = room.1 in let c = room.2 in (omega arith, omega arith, omega arith) }

-- tables that show the same keep one content
pub content-same : {S T U V : Type 0} (facts : HashSet FactKey S) (amounts : HashMap Spot ℤ T) (facts' : HashSet FactKey U) (amounts' : HashMap Spot ℤ V) → ((f : FactKey) → bag.contains same_fact facts' f ≡ bag.contains same_fact facts f) → ((s : Spot) → hash.get same_spot amounts' s ≡ hash.get same_spot amounts s) → content facts' amounts' ≡ content facts amounts
content-same facts amounts facts' amounts' f a =
    same_state _ _
    (λ q x. has-content facts' amounts' q x ∙ f (fact q x) ∙ sym (has-content facts amounts q x))
    (λ c k. value-content facts' amounts' c k ∙ ap (λ o. unwrap_or o (pos 0)) (a (spot c k)) ∙ sym (value-content facts amounts c k))

-- how far one step takes a counter
pub value_step : (st : Step) (s t : State) → IsWithin (2 ^ 50) st → t ≡ after_step st s → (c k n : ℕ) → nat_abs (value s c k) ≤ n → nat_abs (value t c k) ≤ n + 2 ^ 50
value_step (steps.Insert r row) s t small e c k n h = let is : value t c k ≡ value s c k = ap (λ u. value u c k) e ∙ value-with_row s r row c k in subst (λ z. nat_abs z ≤ n + 2 ^ 50) (sym is) (omega arith)
value_step (steps.Delete r pattern) s t small e c k n h = let is : value t c k ≡ value s c k = ap (λ u. value u c k) e ∙ value-without_rows s r (matches pattern) c k in subst (λ z. nat_abs z ≤ n + 2 ^ 50) (sym is) (omega arith)
value_step (steps.Change d l by) s t small e c k n h = grown (value s c k) by (value t c k) ((d == c) && (l == k)) n (ap (λ u. value u c k) e ∙ value-with_change s d l by c k) h small

-- room for n, as for one more than n - 1
pub one_less : {A : Type 0} (Has : ℕ → A → Type 0) (n : ℕ) (xs : A) → 0 < n → Has n xs → Has ((n - 1) + 1) xs
one_less Has n xs h has = let same : n ≡ (n - 1) + 1 = omega arith in subst (λ k. Has k xs) same has
