-- Rows found by their seats.
use Rattle.std.proofs.Common.{◌≡◌, ℕ, zero, suc, ◌+◌, ◌≤◌, Bool, true, false, not, ◌&&◌, List, [], ◌∷◌, Option, Some, None, is_some, refl, sym, ap, ◌∙◌, inl, inr, arith}
use Rattle.std.specs.Prelude.{◌==◌, ℤ, MatchOption, slice_get, slice_index}
use Rattle.std.specs.List.{list_any}
use Rattle.std.specs.HashMap as hash
use Rattle.std.specs.HashMap.{HashMap}
use Rattle.std.specs.HashSet as bag
use Rattle.std.specs.HashSet.{HashSet}
use Rattle.std.proofs.lemmas.Bool.{and_parts, true≢false, false_from_ne_true, eqb-true, eq-eqb, cases_lt}
use Rattle.std.proofs.lemmas.Option.{same_Some}
use Rattle.ham_syntax.specs.declared.term.Term.{Term}
use Rattle.ham_syntax.specs.declared.term.Term.TheVariants.{Const}
use Rattle.ham_steps.specs.Pattern.{fits, matches}
use Rattle.ham_steps.specs.Content.{State, has}
use Rattle.ham_content.specs.Numbers.{same}
use Rattle.ham_content.specs.Tallies.{count}
use Rattle.ham_content.specs.Counted.{at_columns}
use Rattle.ham_content.specs.Kept.{fact, same_fact, content}
use Rattle.ham_content.specs.Seats.{seat, same_seat, IsSieve}
use Rattle.ham_content.specs.declared.sieve.Sieve.{Sieve}
use Rattle.ham_content.specs.declared.tables.FactKey.{FactKey}
use Rattle.ham_content.specs.declared.tables.Spot.{Spot}
use Rattle.ham_content.proofs.Contents.{has-content}
use Rattle.ham_content.proofs.Matched.{row_in, found_too}

-- the row at the so many-th seat of the key
abbrev pub at_seat : Sieve → List ℕ → ℕ → Option (List ℕ)
at_seat v key n = hash.get same_seat v.seats (seat key n)

-- the rows at the key from a seat on pass
abbrev pub PassFrom : Sieve → List ℕ → (List ℕ → Bool) → ℕ → Type 0
PassFrom v key test i = (n : ℕ) (x : List ℕ) → i ≤ n → at_seat v key n ≡ Some x → test x ≡ true

module _ (s : State) (v : Sieve) (sieve : IsSieve s v) (key : List ℕ) where
  pub none_past : (test : List ℕ → Bool) (i : ℕ) → i ≡ count v.tallies key → PassFrom v key test i
  none_past test i e n x h is = absurd (let below = (sieve.listed.knows key x n is).2 in omega arith)

  pub seated_is : (n : ℕ) (row : List ℕ) → at_seat v key n ≡ Some row → (has s v.relation row ≡ true) × (at_columns v.columns row ≡ key)
  seated_is n row is =
      let known = sieve.listed.knows key row n is in
      (sym (sieve.has_all row) ∙ ap is_some known.1, known.0)

  pub all_pass : (test : List ℕ → Bool) (i : ℕ) → i ≡ 0 → PassFrom v key test i → (x : List ℕ) → has s v.relation x ≡ true → at_columns v.columns x ≡ key → test x ≡ true
  all_pass test i e pass x there here = by (hash.get same v.numbers x) refl
    where
      by : (o : Option ℕ) → hash.get same v.numbers x ≡ o → test x ≡ true
      by None is = absurd (true≢false (sym (sym (ap is_some is) ∙ (sieve.has_all x ∙ there))))
      by (Some n) is = pass n x (omega arith) (ap (λ k. at_seat v k n) (sym here) ∙ sieve.listed.seated x n is)

-- one seat more
pub seat_passes : (v : Sieve) (key : List ℕ) (test : List ℕ → Bool) (left i : ℕ) (row : List ℕ) → i + 1 ≡ left → at_seat v key i ≡ Some row → test row ≡ true → PassFrom v key test left → PassFrom v key test i
seat_passes v key test left i row e is passed pass n x h at =
    elim (cases_lt i n) [
      | inl above ↦ pass n x (omega arith) at
      | inr here ↦ let one : n ≡ i = omega arith in ap test (same_Some x row (sym at ∙ ap (at_seat v key) one ∙ is)) ∙ passed
    ]

pub seat_empty : (v : Sieve) (key : List ℕ) (test : List ℕ → Bool) (left i : ℕ) → i + 1 ≡ left → at_seat v key i ≡ None → PassFrom v key test left → PassFrom v key test i
seat_empty v key test left i e is pass n x h at =
    elim (cases_lt i n) [
      | inl above ↦ pass n x (omega arith) at
      | inr here ↦ let one : n ≡ i = omega arith in absurd (none_some x (sym (ap (at_seat v key) one ∙ is) ∙ at))
    ]
  where
    none_some : (y : List ℕ) → None ≡ Some y → ⊥
    none_some y e = cc

-- ---- patterns
-- what a pattern says of a place
pub matches_at : (ts : List Term) (xs : List ℕ) (i id : ℕ) → slice_get ts i ≡ Some (Const id) → matches ts xs ≡ true → slice_index xs i ≡ id
matches_at [] xs i id e m = cc
matches_at (t ∷ ts) [] i id e m = absurd (true≢false (sym m))
matches_at (t ∷ ts) (x ∷ xs) zero id e m =
    let is : t ≡ Const id = same_Some t (Const id) e in
    let first : fits t x ≡ true = (and_parts (fits t x) (matches ts xs) m).0 in
    sym (eqb-true id x (ap (λ u. fits u x) (sym is) ∙ first))
matches_at (t ∷ ts) (x ∷ xs) (suc i) id e m = matches_at ts xs i id e (and_parts (fits t x) (matches ts xs) m).1

-- ---- a match, as it is found
-- what a search for a match answers
abbrev pub FoundMatch : {S : Type 0} → HashSet FactKey S → ℕ → (List ℕ → Bool) → Option (List ℕ) → Type 0
FoundMatch facts r p o = MatchOption o (list_any (λ f. (f.relation == r) && p f.row) facts.keys ≡ false) (λ row. (bag.contains same_fact facts (fact r row) ≡ true) × (p row ≡ true))

not_true : (b : Bool) → not b ≡ true → b ≡ true → ⊥
not_true b e h = true≢false (sym (sym (ap not h) ∙ e))

not_false : (b : Bool) → not b ≡ false → b ≡ true
not_false true e = refl
not_false false e = absurd (true≢false e)

pub match_found : {S T : Type 0} (facts : HashSet FactKey S) (amounts : HashMap Spot ℤ T) (v : Sieve) (r : ℕ) (p : List ℕ → Bool) (key : List ℕ) (o : Option (List ℕ)) → v.relation ≡ r → ((x : List ℕ) → p x ≡ true → at_columns v.columns x ≡ key)
    → MatchOption o ((x : List ℕ) → has (content facts amounts) v.relation x ≡ true → at_columns v.columns x ≡ key → not (p x) ≡ true) (λ row. (has (content facts amounts) v.relation row ≡ true) × (at_columns v.columns row ≡ key) × (not (p row) ≡ false))
    → FoundMatch facts r p o
match_found facts amounts v r p key None same_relation said none =
    false_from_ne_true _ (λ e.
    let w = row_in facts.keys r p e in
    not_true (p w.0) (none w.0 (ap (λ q. has (content facts amounts) q w.0) same_relation ∙ has-content facts amounts r w.0 ∙ w.1) (said w.0 w.2)) w.2)
match_found facts amounts v r p key (Some row) same_relation said found =
    (sym (has-content facts amounts r row) ∙ ap (λ q. has (content facts amounts) q row) (sym same_relation) ∙ found.0, not_false (p row) found.2)

pub match_some : {S : Type 0} (facts : HashSet FactKey S) (r : ℕ) (p : List ℕ → Bool) (o : Option (List ℕ)) → FoundMatch facts r p o → is_some o ≡ list_any (λ f. (f.relation == r) && p f.row) facts.keys
match_some facts r p None none = sym none
match_some facts r p (Some row) found = sym (found_too facts.keys r r row p found.0 (eq-eqb r r refl) found.1)
