-- A sieve after one row more and one row less.
use Rattle.std.proofs.Common.{◌≡◌, ℕ, ◌+◌, ◌<◌, Bool, true, false, not, ◌&&◌, ◌||◌, List, [], Some, None, is_some, refl, sym, ap, ◌∙◌, subst, arith}
use Rattle.std.specs.Prelude.{if◌then◌else◌, ◌==◌, ℤ, IsSome, unwrap_or}
use Rattle.std.specs.Map.{lookup}
use Rattle.std.specs.HashMap as hash
use Rattle.std.specs.HashMap.{HashMap}
use Rattle.ham_steps.specs.Pattern.{is_row}
use Rattle.ham_steps.specs.Content.{State, has, opening, with_row, without_rows, with_change}
use Rattle.ham_steps.proofs.ContentLaws.{has-opening, has-with_change}
use Rattle.ham_content.specs.Numbers.{same}
use Rattle.ham_content.specs.Tallies.{count}
use Rattle.ham_content.specs.Counted.{at_columns, tally}
use Rattle.ham_content.specs.Seats.{seat, same_seat, AreListed, is_seated, IsSieve, AreSieves}
use Rattle.ham_content.specs.declared.sieve.Sieve.{Sieve}
use Rattle.ham_content.proofs.Counting.{there_more, there_less, tally-with_row, tally-without_row, tally-with_change, tally-opening}

module _ (s : State) (r : ℕ) (row : List ℕ) where
  -- a row of another relation concerns a sieve not
  pub sieve_beside_more : (v : Sieve) → (v.relation == r) ≡ false → has s r row ≡ false → IsSieve s v → IsSieve (with_row s r row) v
  sieve_beside_more v other absent h = record {
    tallied = λ k. h.tallied k ∙ sym (tally-with_row s r row v.relation v.columns k absent ∙ ap (λ b. tally s v.relation v.columns k + (if b && same (at_columns v.columns row) k then 1 else 0)) other ∙ omega arith);
    listed = h.listed;
    has_all = λ x. h.has_all x ∙ sym (there_more s r row v.relation x ∙ ap (λ b. (b && same row x) || has s v.relation x) other);
  }

  all : (b : Bool) → (b && not false) ≡ b
  all true = refl
  all false = refl

  pub sieve_beside_less : (v : Sieve) → (v.relation == r) ≡ false → has s r row ≡ true → IsSieve s v → IsSieve (without_rows s r (is_row row)) v
  sieve_beside_less v other there h = record {
    tallied = λ k.
        let less : tally (without_rows s r (is_row row)) v.relation v.columns k + 0 ≡ tally s v.relation v.columns k = ap (λ b. tally (without_rows s r (is_row row)) v.relation v.columns k + (if b && same (at_columns v.columns row) k then 1 else 0)) (sym other) ∙ tally-without_row s r row v.relation v.columns k there in
        let is = h.tallied k in
        omega arith;
    listed = h.listed;
    has_all = λ x. h.has_all x ∙ sym (there_less s r row v.relation x ∙ ap (λ b. has s v.relation x && not (b && same row x)) other ∙ all (has s v.relation x));
  }

  pub sieve_more : (v w : Sieve) → w.relation ≡ v.relation → w.columns ≡ v.columns → (v.relation == r) ≡ true → has s r row ≡ false
      → ((q : List ℕ) → count w.tallies q ≡ count v.tallies q + (if same (at_columns v.columns row) q then 1 else 0)) → AreListed v.columns w.tallies w.seats w.numbers → ((x : List ℕ) → is_seated w.numbers x ≡ (same row x || is_seated v.numbers x))
      → IsSieve s v → IsSieve (with_row s r row) w
  sieve_more v w a b here absent counts listed rows h = record {
    tallied = λ k.
        counts k ∙ (λ i. h.tallied k i + (if (sym here i) && same (at_columns v.columns row) k then 1 else 0))
        ∙ sym (tally-with_row s r row v.relation v.columns k absent)
        ∙ (λ i. tally (with_row s r row) (sym a i) (sym b i) k);
    listed = subst (λ cs. AreListed cs w.tallies w.seats w.numbers) (sym b) listed;
    has_all = λ x.
        rows x ∙ (λ i. (sym here i && same row x) || h.has_all x i) ∙ sym (there_more s r row v.relation x) ∙ (λ i. has (with_row s r row) (sym a i) x);
  }

  swap : (a b : Bool) → (not a && b) ≡ (b && not a)
  swap true true = refl
  swap true false = refl
  swap false true = refl
  swap false false = refl

  pub sieve_less : (v w : Sieve) → w.relation ≡ v.relation → w.columns ≡ v.columns → (v.relation == r) ≡ true → has s r row ≡ true
      → ((q : List ℕ) → count w.tallies q + (if same (at_columns v.columns row) q then 1 else 0) ≡ count v.tallies q) → AreListed v.columns w.tallies w.seats w.numbers → ((x : List ℕ) → is_seated w.numbers x ≡ (not (same row x) && is_seated v.numbers x))
      → IsSieve s v → IsSieve (without_rows s r (is_row row)) w
  sieve_less v w a b here there counts listed rows h = record {
    tallied = λ k.
        let t = without_rows s r (is_row row) in
        let both : count w.tallies k + (if same (at_columns v.columns row) k then 1 else 0) ≡ tally (without_rows s r (is_row row)) v.relation v.columns k + (if same (at_columns v.columns row) k then 1 else 0) =
        counts k ∙ h.tallied k ∙ sym (ap (λ z. tally (without_rows s r (is_row row)) v.relation v.columns k + (if z && same (at_columns v.columns row) k then 1 else 0)) (sym here) ∙ tally-without_row s r row v.relation v.columns k there) in
        let one : count w.tallies k ≡ tally (without_rows s r (is_row row)) v.relation v.columns k = omega arith in
        one ∙ (λ i. tally (without_rows s r (is_row row)) (sym a i) (sym b i) k);
    listed = subst (λ cs. AreListed cs w.tallies w.seats w.numbers) (sym b) listed;
    has_all = λ x.
        rows x ∙ (λ i. not (same row x) && h.has_all x i) ∙ swap (same row x) (has s v.relation x) ∙ (λ i. has s v.relation x && not (sym here i && same row x))
        ∙ sym (there_less s r row v.relation x) ∙ (λ i. has (without_rows s r (is_row row)) (sym a i) x);
  }

-- a change of a counter concerns no sieve
pub sieve_changed : (s : State) (c k : ℕ) (by : ℤ) (v : Sieve) → IsSieve s v → IsSieve (with_change s c k by) v
sieve_changed s c k by v h = record {
  tallied = λ x. h.tallied x ∙ sym (tally-with_change s c k by v.relation v.columns x);
  listed = h.listed;
  has_all = λ x. h.has_all x ∙ sym (has-with_change s c k by v.relation x);
}

pub AreSieves-changed : (s : State) (c k : ℕ) (by : ℤ) (sieves : List Sieve) → AreSieves s sieves → AreSieves (with_change s c k by) sieves
AreSieves-changed s c k by sieves h i v e = sieve_changed s c k by v (h i v e)

-- ---- tables that show the same, and empty ones
pub sieve_same : (s : State) (v w : Sieve) → w.relation ≡ v.relation → w.columns ≡ v.columns → ((k : List ℕ) → hash.get same w.tallies k ≡ hash.get same v.tallies k) → ((k : List ℕ) (n : ℕ) → hash.get same_seat w.seats (seat k n) ≡ hash.get same_seat v.seats (seat k n)) → ((x : List ℕ) → hash.get same w.numbers x ≡ hash.get same v.numbers x) → IsSieve s v → IsSieve s w
sieve_same s v w a b tallies seats numbers h = record {
  tallied = λ k. counts k ∙ h.tallied k ∙ (λ i. tally s (sym a i) (sym b i) k);
  listed = record {
    seated = λ x n e. seats (at_columns w.columns x) n ∙ ap (λ cs. hash.get same_seat v.seats (seat (at_columns cs x) n)) b ∙ h.listed.seated x n (sym (numbers x) ∙ e);
    knows = λ k x n e.
        let known = h.listed.knows k x n (sym (seats k n) ∙ e) in
        let below : n < count w.tallies k = subst (λ z. n < z) (sym (counts k)) known.2 in
        (ap (λ cs. at_columns cs x) b ∙ known.0, numbers x ∙ known.1, below);
    taken = λ k n l. subst IsSome (sym (seats k n)) (h.listed.taken k n (subst (λ z. n < z) (counts k) l));
  };
  has_all = λ x. ap is_some (numbers x) ∙ h.has_all x ∙ (λ i. has s (sym a i) x);
}
  where
    counts : (k : List ℕ) → count w.tallies k ≡ count v.tallies k
    counts k = ap (λ o. unwrap_or o 0) (tallies k)

pub get_empty : {K X S : Type 0} (R : K → K → Bool) (m : HashMap K X S) (q : K) → m.entries ≡ [] → hash.get R m q ≡ None
get_empty R m q e = ap (lookup (R q)) e

pub empty_is : (v : Sieve) → v.tallies.entries ≡ [] → v.seats.entries ≡ [] → v.numbers.entries ≡ [] → IsSieve opening v
empty_is v t e n = record {
  tallied = λ k. zero k ∙ sym (tally-opening v.relation v.columns k);
  listed = record {
    seated = λ x i is. absurd (none_some i (sym (get_empty same v.numbers x n) ∙ is));
    knows = λ k x i is. absurd (none_some x (sym (get_empty same_seat v.seats (seat k i) e) ∙ is));
    taken = λ k i l. absurd (let z = zero k in omega arith);
  };
  has_all = λ x. ap is_some (get_empty same v.numbers x n) ∙ sym (has-opening v.relation x);
}
  where
    none_some : {A : Type 0} (x : A) → None ≡ Some x → ⊥
    none_some x h = cc

    zero : (k : List ℕ) → count v.tallies k ≡ 0
    zero k = ap (λ o. unwrap_or o 0) (get_empty same v.tallies k t)
