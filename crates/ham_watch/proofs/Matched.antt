-- The rows that match a pattern, taken one by one.
use Rattle.std.proofs.Common.{◌≡◌, ℕ, Bool, true, false, not, ◌&&◌, List, Option, Some, None, map, refl, sym, ap, ◌∙◌, subst}
use Rattle.std.specs.Prelude.{ℤ, ◌==◌}
use Rattle.std.specs.List.{list_any}
use Rattle.std.specs.HashMap.{HashMap}
use Rattle.std.specs.HashSet as bag
use Rattle.std.specs.HashSet.{HashSet}
use Rattle.std.proofs.lemmas.Bool.{and_parts, and_from, true≢false}
use Rattle.ham_content.specs.declared.tables.FactKey.{FactKey}
use Rattle.ham_content.specs.declared.tables.Spot.{Spot}
use Rattle.ham_content.specs.Kept.{fact, same_fact, content}
use Rattle.ham_content.proofs.Contents.{has-content}
use Rattle.ham_syntax.specs.declared.term.Term.{Term}
use Rattle.ham_syntax.specs.declared.term.Term.TheVariants.{Const}
use Rattle.ham_steps.specs.Pattern.{is_row, matches}
use Rattle.ham_steps.specs.Content.{State, has, without_rows}
use Rattle.ham_steps.proofs.ContentLaws.{same_state, is_row-same, has-without_rows, value-without_rows}
use Rattle.ham_content.proofs.Matched.{found_too}
use Rattle.ham_content.proofs.Searching.{FoundMatch}

all_of : (a t u : Bool) → (t ≡ true → u ≡ true) → ((a && not t) && not u) ≡ (a && not u)
all_of true true true h = refl
all_of true true false h = absurd (true≢false (sym (h refl)))
all_of true false u h = refl
all_of false t u h = refl

-- a row that matches, taken first
pub one_first : (s : State) (r : ℕ) (row : List ℕ) (p : List ℕ → Bool) → p row ≡ true → without_rows (without_rows s r (is_row row)) r p ≡ without_rows s r p
one_first s r row p passes =
    same_state _ _
    (λ q x. has-without_rows (without_rows s r (is_row row)) r p q x ∙ ap (λ b. b && not ((r == q) && p x)) (has-without_rows s r (is_row row) q x)
    ∙ all_of (has s q x) ((r == q) && is_row row x) ((r == q) && p x) (λ e. let w = and_parts (r == q) (is_row row x) e in and_from (r == q) (p x) w.0 (ap p (sym (is_row-same row x w.1)) ∙ passes))
    ∙ sym (has-without_rows s r p q x))
    (λ c k. value-without_rows (without_rows s r (is_row row)) r p c k ∙ value-without_rows s r (is_row row) c k ∙ sym (value-without_rows s r p c k))

-- where none matches nothing goes
pub none_matches : {S T : Type 0} (facts : HashSet FactKey S) (amounts : HashMap Spot ℤ T) (r : ℕ) (p : List ℕ → Bool) → list_any (λ f. (f.relation == r) && p f.row) facts.keys ≡ false → content facts amounts ≡ without_rows (content facts amounts) r p
none_matches facts amounts r p none =
    same_state _ _
    (λ q x. by q x (has (content facts amounts) q x) refl ((r == q) && p x) refl ∙ sym (has-without_rows (content facts amounts) r p q x))
    (λ c k. sym (value-without_rows (content facts amounts) r p c k))
  where
    by : (q : ℕ) (x : List ℕ) (b : Bool) → has (content facts amounts) q x ≡ b → (t : Bool) → ((r == q) && p x) ≡ t → has (content facts amounts) q x ≡ (has (content facts amounts) q x && not ((r == q) && p x))
    by q x true e true h =
        let w = and_parts (r == q) (p x) h in
        absurd (true≢false (sym (found_too facts.keys r q x p (sym (has-content facts amounts q x) ∙ e) w.0 w.1) ∙ none))
    by q x true e false h = (λ i. e i) ∙ (λ i. sym e i && not (sym h i))
    by q x false e t h = e ∙ (λ i. sym e i && not ((r == q) && p x))

-- ---- what a search answered
pub found_is : {S : Type 0} (facts : HashSet FactKey S) (r : ℕ) (p : List ℕ → Bool) (o : Option (List ℕ)) (row : List ℕ) → o ≡ Some row → FoundMatch facts r p o → (bag.contains same_fact facts (fact r row) ≡ true) × (p row ≡ true)
found_is facts r p o row e h = subst (FoundMatch facts r p) e h

pub found_not : {S : Type 0} (facts : HashSet FactKey S) (r : ℕ) (p : List ℕ → Bool) (o : Option (List ℕ)) → ((row : List ℕ) → o ≡ Some row → ⊥) → FoundMatch facts r p o → list_any (λ f. (f.relation == r) && p f.row) facts.keys ≡ false
found_not facts r p None none h = h
found_not facts r p (Some row) none h = absurd (none row refl)

pub constants_gone : (s : State) (r : ℕ) (row : List ℕ) (pattern : List Term) → map Const row ≡ pattern → without_rows s r (is_row row) ≡ without_rows s r (matches pattern)
constants_gone s r row pattern e = ap (λ p. without_rows s r (matches p)) e
