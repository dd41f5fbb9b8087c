-- Room for the marks of a reference: each mark has a tally, and a mark is lost only with a tally.
use Rattle.std.proofs.Common.{◌≡◌, ℕ, ◌+◌, ◌<◌, ◌≤◌, Bool, true, false, cond, not, ◌&&◌, ◌||◌, List, ◌∷◌, Option, Some, None, refl, sym, ap, ◌∙◌, subst, arith, length}
use Rattle.std.specs.Prelude.{if◌then◌else◌, nat_lt, nat_eq, IsSome, unwrap_or}
use Rattle.std.specs.List.{list_any}
use Rattle.std.specs.HashMap as hash
use Rattle.std.specs.HashMap.{HashMap}
use Rattle.std.specs.HashSet as bag
use Rattle.std.specs.HashSet.{HashSet}
use Rattle.std.specs.Cmp.Lexicographic.{nat_list_eq_equiv}
use Rattle.std.proofs.lemmas.Bool.{and_parts, true≢false, ltb-false, eq-eqb}
use Rattle.std.proofs.lemmas.Map.Steps.{length-le_from_keys}
use Rattle.std.proofs.lemmas.Map.Keys.{IsDistinct-cons}
use Rattle.ham_content.specs.Numbers.{same}
use Rattle.ham_content.specs.Tallies.{count}
use Rattle.ham_content.proofs.Numbers.{alike, none_pass}

some_number : (o : Option ℕ) → nat_lt 0 (unwrap_or o 0) ≡ true → IsSome o
some_number None e = absurd (true≢false (sym e))
some_number (Some n) e = refl

-- a key that has a tally and no mark: there is room for its mark
pub room_to_mark : {S T : Type 0} (tallies : HashMap (List ℕ) ℕ S) (broken : HashSet (List ℕ) T) (key : List ℕ) → bag.IsUnique same broken → ((q : List ℕ) → bag.contains same broken q ≡ true → nat_lt 0 (count tallies q) ≡ true) → bag.contains same broken key ≡ false → nat_lt 0 (count tallies key) ≡ true → hash.hash_map_len tallies ≤ bag.hash_set_len broken + bag.spare broken → 0 < bag.spare broken
room_to_mark tallies broken key unique all off on room =
    let more : length (key ∷ broken.keys) ≤ length tallies.entries = length-le_from_keys nat_list_eq_equiv (key ∷ broken.keys) tallies.entries (IsDistinct-cons same key broken.keys (none_pass (same key) broken.keys off) unique) (λ q e. some_number (hash.get same tallies q) (member q (same q key) refl e)) in
    omega arith
  where
    member : (q : List ℕ) → (s : Bool) → same q key ≡ s → (s || list_any (same q) broken.keys) ≡ true → nat_lt 0 (count tallies q) ≡ true
    member q true a e = subst (λ z. nat_lt 0 (count tallies z) ≡ true) (sym (alike q key a)) on
    member q false a e = all q e

-- no more marks than tallies
pub marks_within : {S T : Type 0} (tallies : HashMap (List ℕ) ℕ S) (broken : HashSet (List ℕ) T) → bag.IsUnique same broken → ((q : List ℕ) → bag.contains same broken q ≡ true → nat_lt 0 (count tallies q) ≡ true) → bag.hash_set_len broken ≤ hash.hash_map_len tallies
marks_within tallies broken unique all = length-le_from_keys nat_list_eq_equiv broken.keys tallies.entries unique (λ q e. some_number (hash.get same tallies q) (all q e))

-- a mark that isn't the key's has its tally after the key's went down
pub first_keep : (counted : Bool) (key : List ℕ) (b : List ℕ → Bool) (c d : List ℕ → ℕ) → ((q : List ℕ) → d q + (if counted && same key q then 1 else 0) ≡ c q) → ((q : List ℕ) → b q ≡ true → nat_lt 0 (c q) ≡ true) → b key ≡ false → (q : List ℕ) → b q ≡ true → nat_lt 0 (d q) ≡ true
first_keep counted key b c d counts all off q on = by (counted && same key q) refl
  where
    by : (x : Bool) → (counted && same key q) ≡ x → nat_lt 0 (d q) ≡ true
    by true e = absurd (true≢false (sym on ∙ ap b (sym (alike key q (and_parts counted (same key q) e).1)) ∙ off))
    by false e =
        let same_count : d q + 0 ≡ c q = ap (λ x. d q + (if x then 1 else 0)) (sym e) ∙ counts q in
        let n : d q ≡ c q = omega arith in
        ap (nat_lt 0) n ∙ all q on

pub second_keep : (counted : Bool) (key : List ℕ) (m : Bool) (b marks : List ℕ → Bool) (c d : List ℕ → ℕ) → ((q : List ℕ) → marks q ≡ cond (counted && same key q) m (b q)) → ((q : List ℕ) → d q + (if counted && same key q then 1 else 0) ≡ c q) → ((q : List ℕ) → b q ≡ true → nat_lt 0 (c q) ≡ true) → (m ≡ true → nat_lt 0 (d key) ≡ true) → (q : List ℕ) → marks q ≡ true → nat_lt 0 (d q) ≡ true
second_keep counted key m b marks c d made counts all some q on = by (counted && same key q) refl
  where
    by : (x : Bool) → (counted && same key q) ≡ x → nat_lt 0 (d q) ≡ true
    by true e =
        let at : m ≡ true = sym (made q ∙ ap (λ x. cond x m (b q)) e) ∙ on in
        subst (λ z. nat_lt 0 (d z) ≡ true) (alike key q (and_parts counted (same key q) e).1) (some at)
    by false e =
        let same_count : d q + 0 ≡ c q = ap (λ x. d q + (if x then 1 else 0)) (sym e) ∙ counts q in
        let n : d q ≡ c q = omega arith in
        let was : b q ≡ true = sym (made q ∙ ap (λ x. cond x m (b q)) e) ∙ on in
        ap (nat_lt 0) n ∙ all q was

pub lost_with : (x b m e : Bool) → (b ≡ true → m ≡ false → e ≡ true) → (if x && (b && not m) then 1 else 0) ≤ (if x && e then 1 else 0)
lost_with false b m e h = omega arith
lost_with true false m e h = by e
  where
    by : (e : Bool) → 0 ≤ (if e then 1 else 0)
    by true = omega arith
    by false = omega arith
lost_with true true true e h = by e
  where
    by : (e : Bool) → 0 ≤ (if e then 1 else 0)
    by true = omega arith
    by false = omega arith
lost_with true true false true h = omega arith
lost_with true true false false h = absurd (true≢false (sym (h refl refl)))

pub none_lost : (x b v : Bool) → (b ≡ true → v ≡ true) → ◌≡◌ {A = ℕ} (if x && (b && not v) then 1 else 0) 0
none_lost false b v h = refl
none_lost true false v h = refl
none_lost true true true h = refl
none_lost true true false h = absurd (true≢false (sym (h refl)))

-- a broken key of a reference that is not broken any more, after a row went, has no tally
pub emptied : (n : ℕ) (h g : Bool) (m b : Bool) → (h ≡ false → g ≡ false) → (k : ℕ) → b ≡ (nat_lt 0 k && not h) → m ≡ (nat_lt 0 n && not g) → b ≡ true → m ≡ false → nat_eq n 0 ≡ true
emptied n h g m b less k was is on off = eq-eqb n 0 zero
  where
    not_there : (x : Bool) → not x ≡ true → x ≡ false
    not_there true e = absurd (true≢false (sym e))
    not_there false e = refl

    all : (x y : Bool) → y ≡ false → (x && not y) ≡ false → x ≡ false
    all true y e f = absurd (true≢false (sym (ap not e) ∙ f))
    all false y e f = refl

    gone : g ≡ false
    gone = less (not_there h (and_parts (nat_lt 0 k) (not h) (sym was ∙ on)).1)

    zero : n ≡ 0
    zero = let l = ltb-false 0 n (all (nat_lt 0 n) g gone (sym is ∙ off)) in omega arith
