-- Tallies and broken spots of the content after one change.
use Rattle.std.proofs.Common.{◌≡◌, ℕ, Bool, true, false, cond, not, ◌&&◌, ◌||◌, List, refl, sym, ap, ◌∙◌, subst}
use Rattle.std.specs.Prelude.{◌==◌, nat_lt}
use Rattle.std.proofs.lemmas.Bool.{and_parts, true≢false}
use Rattle.ham_syntax.specs.declared.object.Invariant.TheVariants as invariants
use Rattle.ham_content.specs.Numbers.{same}
use Rattle.ham_content.proofs.Numbers.{alike}
use Rattle.ham_content.specs.Counted.{at_columns, tally}
use Rattle.ham_watch.specs.Broken.{is_broken}
use Rattle.ham_steps.specs.Pattern.{is_row}
use Rattle.ham_steps.specs.Content.{State, has, value, with_row, without_rows}
use Rattle.ham_content.proofs.Counting.{or_false, and_not_false, there_more, there_less, tally-nowhere_more, tally-nowhere_less}

-- ---- marks, made anew at one key and at another
pub settled : (a b : List ℕ → Bool) (va vb : Bool) (kept new marks before : List ℕ → Bool) → ((q : List ℕ) → marks q ≡ cond (a q) va (cond (b q) vb (before q))) → ((q : List ℕ) → before q ≡ kept q) → ((q : List ℕ) → a q ≡ true → va ≡ new q) → ((q : List ℕ) → b q ≡ true → vb ≡ new q) → ((q : List ℕ) → a q ≡ false → b q ≡ false → kept q ≡ new q) → (q : List ℕ) → marks q ≡ new q
settled a b va vb kept new marks before made was at_a at_b other q = made q ∙ by (a q) refl (b q) refl
  where
    by : (x : Bool) → a q ≡ x → (y : Bool) → b q ≡ y → cond (a q) va (cond (b q) vb (before q)) ≡ new q
    by true e y h = ap (λ z. cond z va (cond (b q) vb (before q))) e ∙ at_a q e
    by false e true h = ap (λ z. cond z va (cond (b q) vb (before q))) e ∙ ap (λ z. cond z vb (before q)) h ∙ at_b q h
    by false e false h = ap (λ z. cond z va (cond (b q) vb (before q))) e ∙ ap (λ z. cond z vb (before q)) h ∙ was q ∙ other q e h

-- a reference's, after a row came
pub vain_more : (s : State) (r : ℕ) (row : List ℕ) (from : ℕ) (columns : List ℕ) (to : ℕ) (key : List ℕ) (m : Bool) (marks before : List ℕ → Bool) → key ≡ at_columns columns row → has s r row ≡ false →
    m ≡ is_broken (with_row s r row) (invariants.Reference from columns to) key →
    ((q : List ℕ) → marks q ≡ cond ((to == r) && same row q) false (cond ((from == r) && same key q) m (before q))) →
    ((q : List ℕ) → before q ≡ is_broken s (invariants.Reference from columns to) q) →
    (q : List ℕ) → marks q ≡ is_broken (with_row s r row) (invariants.Reference from columns to) q
vain_more s r row from columns to key m marks before is absent value made was =
    settled (λ q. (to == r) && same row q) (λ q. (from == r) && same key q) false m (is_broken s (invariants.Reference from columns to)) (is_broken (with_row s r row) (invariants.Reference from columns to)) marks before made was
    (λ q e. sym (none (nat_lt 0 (tally (with_row s r row) from columns q)) (has (with_row s r row) to q) (there_more s r row to q ∙ ap (λ b. b || has s to q) e)))
    (λ q e. value ∙ ap (is_broken (with_row s r row) (invariants.Reference from columns to)) (alike key q (and_parts (from == r) (same key q) e).1))
    (λ q e h. λ i. nat_lt 0 (sym (tally-nowhere_more s r row from columns q absent (subst (λ z. ((from == r) && same z q) ≡ false) is h)) i) && not (sym (there_more s r row to q ∙ or_false ((to == r) && same row q) (has s to q) e) i))
  where
    none : (a b : Bool) → b ≡ true → (a && not b) ≡ false
    none true b e = ap not e
    none false b e = refl

-- a reference's, after a row went
pub vain_less : (s : State) (r : ℕ) (row : List ℕ) (from : ℕ) (columns : List ℕ) (to : ℕ) (key : List ℕ) (m v : Bool) (marks before : List ℕ → Bool) → key ≡ at_columns columns row → has s r row ≡ true →
    m ≡ is_broken (without_rows s r (is_row row)) (invariants.Reference from columns to) key →
    v ≡ nat_lt 0 (tally (without_rows s r (is_row row)) from columns row) →
    ((q : List ℕ) → marks q ≡ cond ((to == r) && same row q) v (cond ((from == r) && same key q) m (before q))) →
    ((q : List ℕ) → before q ≡ is_broken s (invariants.Reference from columns to) q) →
    (q : List ℕ) → marks q ≡ is_broken (without_rows s r (is_row row)) (invariants.Reference from columns to) q
vain_less s r row from columns to key m v marks before is there value at_row made was =
    settled (λ q. (to == r) && same row q) (λ q. (from == r) && same key q) v m (is_broken s (invariants.Reference from columns to)) (is_broken (without_rows s r (is_row row)) (invariants.Reference from columns to)) marks before made was
    (λ q e. at_row ∙ ap (λ z. nat_lt 0 (tally (without_rows s r (is_row row)) from columns z)) (alike row q (and_parts (to == r) (same row q) e).1) ∙ sym (and_not_false (has (without_rows s r (is_row row)) to q) (nat_lt 0 (tally (without_rows s r (is_row row)) from columns q)) (there_less s r row to q ∙ ap (λ b. has s to q && not b) e ∙ gone (has s to q))))
    (λ q e. value ∙ ap (is_broken (without_rows s r (is_row row)) (invariants.Reference from columns to)) (alike key q (and_parts (from == r) (same key q) e).1))
    (λ q e h. λ i. nat_lt 0 (sym (tally-nowhere_less s r row from columns q there (subst (λ z. ((from == r) && same z q) ≡ false) is h)) i) && not (sym (there_less s r row to q ∙ and_not_false ((to == r) && same row q) (has s to q) e) i))
  where
    gone : (b : Bool) → (b && false) ≡ false
    gone true = refl
    gone false = refl

-- a key's that more than one row has, after a row came and after one went
pub shared_more : (s : State) (r : ℕ) (row : List ℕ) (relation : ℕ) (columns : List ℕ) (key : List ℕ) (m : Bool) (marks before : List ℕ → Bool) → key ≡ at_columns columns row → has s r row ≡ false →
    m ≡ is_broken (with_row s r row) (invariants.Unique relation columns) key →
    ((q : List ℕ) → marks q ≡ cond ((relation == r) && same key q) m (before q)) →
    ((q : List ℕ) → before q ≡ is_broken s (invariants.Unique relation columns) q) →
    (q : List ℕ) → marks q ≡ is_broken (with_row s r row) (invariants.Unique relation columns) q
shared_more s r row relation columns key m marks before is absent value made was =
    settled (λ q. false) (λ q. (relation == r) && same key q) false m (is_broken s (invariants.Unique relation columns)) (is_broken (with_row s r row) (invariants.Unique relation columns)) marks before made was
    (λ q e. absurd (true≢false (sym e)))
    (λ q e. value ∙ ap (is_broken (with_row s r row) (invariants.Unique relation columns)) (alike key q (and_parts (relation == r) (same key q) e).1))
    (λ q e h. ap (nat_lt 1) (sym (tally-nowhere_more s r row relation columns q absent (subst (λ z. ((relation == r) && same z q) ≡ false) is h))))

pub shared_less : (s : State) (r : ℕ) (row : List ℕ) (relation : ℕ) (columns : List ℕ) (key : List ℕ) (m : Bool) (marks before : List ℕ → Bool) → key ≡ at_columns columns row → has s r row ≡ true →
    m ≡ is_broken (without_rows s r (is_row row)) (invariants.Unique relation columns) key →
    ((q : List ℕ) → marks q ≡ cond ((relation == r) && same key q) m (before q)) →
    ((q : List ℕ) → before q ≡ is_broken s (invariants.Unique relation columns) q) →
    (q : List ℕ) → marks q ≡ is_broken (without_rows s r (is_row row)) (invariants.Unique relation columns) q
shared_less s r row relation columns key m marks before is there value made was =
    settled (λ q. false) (λ q. (relation == r) && same key q) false m (is_broken s (invariants.Unique relation columns)) (is_broken (without_rows s r (is_row row)) (invariants.Unique relation columns)) marks before made was
    (λ q e. absurd (true≢false (sym e)))
    (λ q e. value ∙ ap (is_broken (without_rows s r (is_row row)) (invariants.Unique relation columns)) (alike key q (and_parts (relation == r) (same key q) e).1))
    (λ q e h. ap (nat_lt 1) (sym (tally-nowhere_less s r row relation columns q there (subst (λ z. ((relation == r) && same z q) ≡ false) is h))))
