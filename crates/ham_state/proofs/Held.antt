-- An invariant holds exactly where no spot is broken.
use Rattle.std.proofs.Common.{◌≡◌, ℕ, Bool, true, false, not, List, [], ◌∷◌, refl, sym, ap, ◌∙◌, subst}
use Rattle.std.specs.Prelude.{ℤ, ◌≤ℤ◌, int_le, nat_lt, ◌↔◌, T}
use Rattle.std.proofs.lemmas.Bool.{true≢false, both_ways, ltb-true, lt-ltb, false_from_ne_true}
use Rattle.ham_content.specs.Numbers.{same, IsNumber}
use Rattle.ham_content.proofs.Numbers.{alike, one_number, none_at_zero, zero_from_none}
use Rattle.ham_syntax.specs.declared.object.Invariant.{Invariant}
use Rattle.ham_syntax.specs.declared.object.Invariant.TheVariants as invariants
use Rattle.ham_steps.specs.Content.{State, has, value}
use Rattle.ham_content.specs.Counted.{at_columns, tally}
use Rattle.ham_watch.specs.Broken.{is_broken}
use Rattle.ham_state.specs.Holding.{Holds}
use Rattle.ham_state.proofs.Breaks.{reference_holds}
use Rattle.ham_content.proofs.Tallies.{itself}
use Rattle.ham_state.proofs.Standing.{two_at, two_of}

pub le_true : (x y : ℤ) → x ≤ℤ y → int_le x y ≡ true
le_true x y h = true_of (int_le x y) h.le
  where
    true_of : (b : Bool) → T b → b ≡ true
    true_of true h = refl
    true_of false h = absurd h

true_le : (x y : ℤ) → int_le x y ≡ true → x ≤ℤ y
true_le x y e = record { le = subst T (sym e) tt }

kept : (b : Bool) → not b ≡ false → b ≡ true
kept true e = refl
kept false e = absurd (true≢false e)

apart_or_same : (s : State) (r : ℕ) (columns x y : List ℕ) → nat_lt 1 (tally s r columns (at_columns columns x)) ≡ false → has s r x ≡ true → has s r y ≡ true → at_columns columns x ≡ at_columns columns y → (b : Bool) → same x y ≡ b → x ≡ y
apart_or_same s r columns x y few hx hy e true is = alike x y is
apart_or_same s r columns x y few hx hy e false is = absurd (both_ways _ few (lt-ltb 1 _ (two_at s r columns (at_columns columns x) x y hx hy refl (sym e) is)))

pub holds_exactly : (s : State) (v : Invariant) → ((k : List ℕ) → is_broken s v k ≡ false) ↔ Holds s v
holds_exactly s (invariants.Reference from columns to) = reference_holds s from columns to
holds_exactly s (invariants.Unique r columns) = (
  λ sound x y hx hy e. apart_or_same s r columns x y (sound (at_columns columns x)) hx hy e (same x y) refl,
  λ all k. false_from_ne_true (nat_lt 1 (tally s r columns k)) (λ e.
      let w = two_of s r columns k (ltb-true 1 (tally s r columns k) e) in
      let one : w.0 ≡ w.1 = all w.0 w.1 w.2 w.3 (w.4 ∙ sym w.5) in
      true≢false (sym (ap (same w.0) (sym one) ∙ itself w.0) ∙ w.6)),
)
holds_exactly s (invariants.Low c limit) = (
  λ sound k. true_le limit (value s c k) (kept (int_le limit (value s c k)) (sound (k ∷ []))),
  λ all k. low all k,
)
  where
    low : ((k : ℕ) → limit ≤ℤ value s c k) → (k : List ℕ) → is_broken s (invariants.Low c limit) k ≡ false
    low all [] = refl
    low all (k ∷ []) = ap not (le_true limit (value s c k) (all k))
    low all (k ∷ j ∷ ks) = refl
holds_exactly s (invariants.High c limit) = (
  λ sound k. true_le (value s c k) limit (kept (int_le (value s c k) limit) (sound (k ∷ []))),
  λ all k. high all k,
)
  where
    high : ((k : ℕ) → value s c k ≤ℤ limit) → (k : List ℕ) → is_broken s (invariants.High c limit) k ≡ false
    high all [] = refl
    high all (k ∷ []) = ap not (le_true (value s c k) limit (all k))
    high all (k ∷ j ∷ ks) = refl

-- so it holds exactly where the number of broken keys is 0
pub holds_where_none : (s : State) (v : Invariant) (n : ℕ) → IsNumber (is_broken s v) n → (n ≡ 0) ↔ Holds s v
holds_where_none s v n number = (
  λ e. (holds_exactly s v).0 (none_at_zero (is_broken s v) (subst (IsNumber (is_broken s v)) e number)),
  λ h. one_number (is_broken s v) n 0 number (zero_from_none (is_broken s v) ((holds_exactly s v).1 h)),
)
