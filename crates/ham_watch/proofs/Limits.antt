-- The marks of a limit on a counter, after a change, and of every invariant that the change doesn't concern.
use Rattle.std.proofs.Common.{◌≡◌, ℕ, Bool, true, false, cond, not, ◌&&◌, List, [], ◌∷◌, refl, sym, ap, ◌∙◌}
use Rattle.std.specs.Prelude.{if◌then◌else◌, ◌==◌, nat_lt, ℤ, pos, ◌+ℤ◌, int_le}
use Rattle.std.specs.Cmp.{nat_eq_equiv}
use Rattle.std.proofs.lemmas.Bool.{and_parts, eqb-true}
use Rattle.ham_syntax.specs.declared.object.Invariant.TheVariants as invariants
use Rattle.ham_content.specs.Numbers.{same}
use Rattle.ham_watch.specs.Broken.{is_broken}
use Rattle.ham_content.proofs.Counting.{tally-with_change}
use Rattle.ham_steps.specs.Content.{State, value, with_change}
use Rattle.ham_steps.proofs.ContentLaws.{has-with_change, value-with_change, add_none}

and_true : (b : Bool) → (b && true) ≡ b
and_true true = refl
and_true false = refl

turned_at : (p : ℤ → Bool) (s : State) (c counter key k : ℕ) (by : ℤ) (m before : Bool) → before ≡ p (value s c k) → m ≡ p (value s counter key +ℤ by) → cond ((c == counter) && ((key == k) && true)) m before ≡ p (value (with_change s counter key by) c k)
turned_at p s c counter key k by m before was new = go ((c == counter) && ((key == k) && true)) refl
  where
    test : ((c == counter) && ((key == k) && true)) ≡ ((counter == c) && (key == k))
    test = λ i. nat_eq_equiv.symm c counter i && and_true (key == k) i

    go : (b : Bool) → ((c == counter) && ((key == k) && true)) ≡ b → cond ((c == counter) && ((key == k) && true)) m before ≡ p (value (with_change s counter key by) c k)
    go true e =
        let w = and_parts (c == counter) ((key == k) && true) e in
        let v = and_parts (key == k) true w.1 in
        ap (λ z. cond z m before) e ∙ new
        ∙ (λ i. p (value s (sym (eqb-true c counter w.0) i) (eqb-true key k v.0 i) +ℤ by))
        ∙ sym (ap p (value-with_change s counter key by c k ∙ ap (λ z. value s c k +ℤ (if z then by else pos 0)) (sym test ∙ e)))
    go false e =
        ap (λ z. cond z m before) e ∙ was
        ∙ sym (ap p (value-with_change s counter key by c k ∙ ap (λ z. value s c k +ℤ (if z then by else pos 0)) (sym test ∙ e) ∙ sym (add_none (value s c k))))

none_at : (a m before : Bool) → before ≡ false → cond (a && false) m before ≡ false
none_at true m before e = e
none_at false m before e = e

pub low_turned : (s : State) (c : ℕ) (limit : ℤ) (counter key : ℕ) (by : ℤ) (m : Bool) (marks before : List ℕ → Bool) → m ≡ not (int_le limit (value s counter key +ℤ by)) → ((q : List ℕ) → marks q ≡ cond ((c == counter) && same (key ∷ []) q) m (before q)) → ((q : List ℕ) → before q ≡ is_broken s (invariants.Low c limit) q) → (q : List ℕ) → marks q ≡ is_broken (with_change s counter key by) (invariants.Low c limit) q
low_turned s c limit counter key by m marks before new made was [] = made [] ∙ none_at (c == counter) m (before []) (was [])
low_turned s c limit counter key by m marks before new made was (k ∷ []) = made (k ∷ []) ∙ turned_at (λ v. not (int_le limit v)) s c counter key k by m (before (k ∷ [])) (was (k ∷ [])) new
low_turned s c limit counter key by m marks before new made was (k ∷ j ∷ ks) = made (k ∷ j ∷ ks) ∙ off ((key == k)) ∙ was (k ∷ j ∷ ks)
  where
    off : (b : Bool) → cond ((c == counter) && (b && false)) m (before (k ∷ j ∷ ks)) ≡ before (k ∷ j ∷ ks)
    off true = elim (c == counter) as (λ a. cond (a && false) m (before (k ∷ j ∷ ks)) ≡ before (k ∷ j ∷ ks)) [ true ↦ refl | false ↦ refl ]
    off false = elim (c == counter) as (λ a. cond (a && false) m (before (k ∷ j ∷ ks)) ≡ before (k ∷ j ∷ ks)) [ true ↦ refl | false ↦ refl ]

pub high_turned : (s : State) (c : ℕ) (limit : ℤ) (counter key : ℕ) (by : ℤ) (m : Bool) (marks before : List ℕ → Bool) → m ≡ not (int_le (value s counter key +ℤ by) limit) → ((q : List ℕ) → marks q ≡ cond ((c == counter) && same (key ∷ []) q) m (before q)) → ((q : List ℕ) → before q ≡ is_broken s (invariants.High c limit) q) → (q : List ℕ) → marks q ≡ is_broken (with_change s counter key by) (invariants.High c limit) q
high_turned s c limit counter key by m marks before new made was [] = made [] ∙ none_at (c == counter) m (before []) (was [])
high_turned s c limit counter key by m marks before new made was (k ∷ []) = made (k ∷ []) ∙ turned_at (λ v. not (int_le v limit)) s c counter key k by m (before (k ∷ [])) (was (k ∷ [])) new
high_turned s c limit counter key by m marks before new made was (k ∷ j ∷ ks) = made (k ∷ j ∷ ks) ∙ off ((key == k)) ∙ was (k ∷ j ∷ ks)
  where
    off : (b : Bool) → cond ((c == counter) && (b && false)) m (before (k ∷ j ∷ ks)) ≡ before (k ∷ j ∷ ks)
    off true = elim (c == counter) as (λ a. cond (a && false) m (before (k ∷ j ∷ ks)) ≡ before (k ∷ j ∷ ks)) [ true ↦ refl | false ↦ refl ]
    off false = elim (c == counter) as (λ a. cond (a && false) m (before (k ∷ j ∷ ks)) ≡ before (k ∷ j ∷ ks)) [ true ↦ refl | false ↦ refl ]

-- ---- what doesn't concern the invariant
pub low-same : (s t : State) (c : ℕ) (limit : ℤ) → ((k : ℕ) → value t c k ≡ value s c k) → (q : List ℕ) → is_broken s (invariants.Low c limit) q ≡ is_broken t (invariants.Low c limit) q
low-same s t c limit e [] = refl
low-same s t c limit e (k ∷ []) = ap (λ v. not (int_le limit v)) (sym (e k))
low-same s t c limit e (k ∷ j ∷ ks) = refl

pub high-same : (s t : State) (c : ℕ) (limit : ℤ) → ((k : ℕ) → value t c k ≡ value s c k) → (q : List ℕ) → is_broken s (invariants.High c limit) q ≡ is_broken t (invariants.High c limit) q
high-same s t c limit e [] = refl
high-same s t c limit e (k ∷ []) = ap (λ v. not (int_le v limit)) (sym (e k))
high-same s t c limit e (k ∷ j ∷ ks) = refl

pub reference-same : (s : State) (counter key : ℕ) (by : ℤ) (from : ℕ) (columns : List ℕ) (to : ℕ) (q : List ℕ) → is_broken s (invariants.Reference from columns to) q ≡ is_broken (with_change s counter key by) (invariants.Reference from columns to) q
reference-same s counter key by from columns to q = λ i. nat_lt 0 (sym (tally-with_change s counter key by from columns q) i) && not (sym (has-with_change s counter key by to q) i)

pub unique-same : (s : State) (counter key : ℕ) (by : ℤ) (r : ℕ) (columns q : List ℕ) → is_broken s (invariants.Unique r columns) q ≡ is_broken (with_change s counter key by) (invariants.Unique r columns) q
unique-same s counter key by r columns q = ap (nat_lt 1) (sym (tally-with_change s counter key by r columns q))
