-- Tallies of the content after one change.
use Rattle.std.proofs.Common.{◌≡◌, ℕ, ◌+◌, ◌≤◌, Bool, true, false, not, ◌&&◌, ◌||◌, List, refl, sym, ap, ◌∙◌, arith}
use Rattle.std.specs.Prelude.{if◌then◌else◌, ◌==◌, ℤ}
use Rattle.std.specs.Cmp.{nat_eq_equiv}
use Rattle.std.proofs.lemmas.Bool.{eqb-true}
use Rattle.ham_content.specs.Numbers.{same}
use Rattle.ham_content.specs.Counted.{at_columns, tally}
use Rattle.ham_content.proofs.Tallies.{tally-same, tally-more, tally-less}
use Rattle.ham_steps.specs.Pattern.{is_row}
use Rattle.ham_steps.specs.Content.{State, has, with_row, without_rows, with_change}
use Rattle.ham_steps.proofs.ContentLaws.{has-with_row, has-without_rows, has-with_change}
use Rattle.ham_content.proofs.Contents.{pointwise-row}
use Rattle.std.proofs.lemmas.Bool.{and_right}
use Rattle.ham_content.specs.Tallies.{has_at}
use Rattle.ham_content.proofs.Numbers.{one_number, zero_from_none}
use Rattle.ham_content.proofs.Tallies.{number-tally}
use Rattle.ham_steps.specs.Content.{opening}
use Rattle.ham_steps.proofs.ContentLaws.{has-opening}

pub swap : (a b : Bool) → (b && not a) ≡ (not a && b)
swap true true = refl
swap true false = refl
swap false true = refl
swap false false = refl

pub or_false : (a b : Bool) → a ≡ false → (a || b) ≡ b
or_false a b e = ap (λ z. z || b) e

pub and_not_false : (a b : Bool) → a ≡ false → (b && not a) ≡ b
and_not_false a true e = ap not e
and_not_false a false e = refl

pub at_most_one : (b : Bool) → (if b then 1 else 0) ≤ 1
at_most_one true = omega arith
at_most_one false = omega arith

-- ---- what is there
pub there_more : (s : State) (r : ℕ) (row : List ℕ) (q : ℕ) (x : List ℕ) → has (with_row s r row) q x ≡ (((q == r) && same row x) || has s q x)
there_more s r row q x = has-with_row s r row q x ∙ (λ i. (nat_eq_equiv.symm r q i && sym (pointwise-row row x) i) || has s q x)

pub there_less : (s : State) (r : ℕ) (row : List ℕ) (q : ℕ) (x : List ℕ) → has (without_rows s r (is_row row)) q x ≡ (has s q x && not ((q == r) && same row x))
there_less s r row q x = has-without_rows s r (is_row row) q x ∙ (λ i. has s q x && not (nat_eq_equiv.symm r q i && sym (pointwise-row row x) i))

-- ---- tallies
pub tally-with_row : (s : State) (r : ℕ) (row : List ℕ) (q : ℕ) (columns k : List ℕ) → has s r row ≡ false → tally (with_row s r row) q columns k ≡ tally s q columns k + (if (q == r) && same (at_columns columns row) k then 1 else 0)
tally-with_row s r row q columns k absent = by (q == r) refl
  where
    by : (b : Bool) → (q == r) ≡ b → tally (with_row s r row) q columns k ≡ tally s q columns k + (if (q == r) && same (at_columns columns row) k then 1 else 0)
    by true e =
        tally-more s (with_row s r row) q row columns k (ap (λ z. has s z row) (eqb-true q r e) ∙ absent) (λ x. there_more s r row q x ∙ ap (λ b. (b && same row x) || has s q x) e)
        ∙ sym (ap (λ b. tally s q columns k + (if b && same (at_columns columns row) k then 1 else 0)) e)
    by false e =
        tally-same s (with_row s r row) q columns k (λ x. there_more s r row q x ∙ ap (λ b. (b && same row x) || has s q x) e)
        ∙ sym (ap (λ b. tally s q columns k + (if b && same (at_columns columns row) k then 1 else 0)) e ∙ omega arith)

pub tally-without_row : (s : State) (r : ℕ) (row : List ℕ) (q : ℕ) (columns k : List ℕ) → has s r row ≡ true → tally (without_rows s r (is_row row)) q columns k + (if (q == r) && same (at_columns columns row) k then 1 else 0) ≡ tally s q columns k
tally-without_row s r row q columns k there = by (q == r) refl
  where
    t : State
    t = without_rows s r (is_row row)

    all : (b : Bool) → (b && not false) ≡ b
    all true = refl
    all false = refl

    by : (b : Bool) → (q == r) ≡ b → tally t q columns k + (if (q == r) && same (at_columns columns row) k then 1 else 0) ≡ tally s q columns k
    by true e =
        ap (λ b. tally t q columns k + (if b && same (at_columns columns row) k then 1 else 0)) e
        ∙ tally-less s t q row columns k (ap (λ z. has s z row) (eqb-true q r e) ∙ there) (λ x. there_less s r row q x ∙ ap (λ b. has s q x && not (b && same row x)) e ∙ swap (same row x) (has s q x))
    by false e =
        ap (λ b. tally t q columns k + (if b && same (at_columns columns row) k then 1 else 0)) e ∙ plain ∙ tally-same s t q columns k (λ x. there_less s r row q x ∙ ap (λ b. has s q x && not (b && same row x)) e ∙ all (has s q x))
      where
        plain : tally t q columns k + 0 ≡ tally t q columns k
        plain = omega arith

pub tally-with_change : (s : State) (c k : ℕ) (by : ℤ) (q : ℕ) (columns x : List ℕ) → tally (with_change s c k by) q columns x ≡ tally s q columns x
tally-with_change s c k by q columns x = tally-same s (with_change s c k by) q columns x (λ y. has-with_change s c k by q y)

pub tally-nowhere_more : (s : State) (r : ℕ) (row : List ℕ) (q : ℕ) (columns k : List ℕ) → has s r row ≡ false → ((q == r) && same (at_columns columns row) k) ≡ false → tally (with_row s r row) q columns k ≡ tally s q columns k
tally-nowhere_more s r row q columns k absent e = tally-with_row s r row q columns k absent ∙ ap (λ b. tally s q columns k + (if b then 1 else 0)) e ∙ omega arith

pub tally-nowhere_less : (s : State) (r : ℕ) (row : List ℕ) (q : ℕ) (columns k : List ℕ) → has s r row ≡ true → ((q == r) && same (at_columns columns row) k) ≡ false → tally (without_rows s r (is_row row)) q columns k ≡ tally s q columns k
tally-nowhere_less s r row q columns k there e =
    let less : tally (without_rows s r (is_row row)) q columns k + 0 ≡ tally s q columns k = ap (λ b. tally (without_rows s r (is_row row)) q columns k + (if b then 1 else 0)) (sym e) ∙ tally-without_row s r row q columns k there in
    omega arith

-- ---- in the opening state
pub tally-opening : (r : ℕ) (columns k : List ℕ) → tally opening r columns k ≡ 0
tally-opening r columns k =
    let here = has_at (at_columns columns) (has opening r) k in
    one_number here (tally opening r columns k) 0 (number-tally opening r columns k) (zero_from_none here (λ x. and_right (same (at_columns columns x) k) (has opening r x) (has-opening r x)))
