-- First indexes of places.
use Rattle.std.proofs.Common.{◌≡◌, ◌++◌, ℕ, ◌+◌, ◌<◌, ◌≤◌, zero, suc, Bool, true, false, List, [], ◌∷◌, ◌-◌, length, take, get_or, refl, sym, subst, ap, ◌∙◌, inl, inr, Some, None, Option, arith}
use Rattle.std.specs.Prelude.{is_some, nat_lt, slice_get}
use Rattle.std.specs.Option.{option_map}
use Rattle.std.proofs.lemmas.Bool.{lt-ltb, le-ltb, cases_lt}
use Rattle.ham_syntax.specs.declared.act.Place.{Place}
use Rattle.ham_plan.proofs.Lists.{true_or_false}
use Rattle.ham_turns.specs.Words.{same_place}
use Rattle.ham_records.specs.declared.records.Logged.{Logged}
use Rattle.ham_audit.specs.Records.{log_of, or_empty, places, stands, act_at, deciding_log}
use Rattle.ham_turns.specs.Settings.{Setting}
use Rattle.std.specs.BTreeMap as tree
use Rattle.std.specs.BTreeMap.{BTreeMap}
use Rattle.ham_audit.specs.Faults.{decided_fault}
use Rattle.ham_audit.specs.Indexed.{by_place, first_index, first_act, fault_by_act, kept_or, IsIndex}

map_kept : (o : Option ℕ) (here : Bool) (n : ℕ) → option_map (λ i. i + 1) (kept_or o here n) ≡ kept_or (option_map (λ i. i + 1) o) here (n + 1)
map_kept (Some i) here n = refl
map_kept None true n = refl
map_kept None false n = refl

kept_at : (here : Bool) (n m : ℕ) → n ≡ m → kept_or None here n ≡ kept_or None here m
kept_at here n m q = ap (λ k. kept_or None here k) q

-- one place more
pub first_push : (c x : Place) (xs : List Place) → first_index c (xs ++ x ∷ []) ≡ kept_or (first_index c xs) (same_place x c) (length xs)
first_push c x [] = elim (true_or_false (same_place x c)) [ inl t ↦ rw t refl | inr f ↦ rw f refl ]
first_push c x (z ∷ xs) = elim (true_or_false (same_place z c)) [
  | inl t ↦ rw t refl
  | inr f ↦ rw f (ap (option_map (λ i. i + 1)) (first_push c x xs) ∙ map_kept (first_index c xs) (same_place x c) (length xs)
      ∙ ap (kept_or (option_map (λ i. i + 1) (first_index c xs)) (same_place x c)) (let h : length xs + 1 ≡ length (z ∷ xs) = omega arith in h))
]

abbrev pub is_below : ℕ → Option ℕ → Bool
is_below i None = false
is_below i (Some j) = nat_lt j i

some_map : (o : Option ℕ) → is_some (option_map (λ i. i + 1) o) ≡ is_some o
some_map (Some i) = refl
some_map None = refl

below_map : (o : Option ℕ) (i : ℕ) → is_below (suc i) (option_map (λ i. i + 1) o) ≡ is_below i o
below_map None i = refl
below_map (Some j) i = elim (cases_lt j i) [
  | inl h ↦ lt-ltb (j + 1) (suc i) (omega arith) ∙ sym (lt-ltb j i h)
  | inr h ↦ le-ltb (j + 1) (suc i) (omega arith) ∙ sym (le-ltb j i h)
]

pub stands_first : (c : Place) (xs : List Place) → stands c xs ≡ is_some (first_index c xs)
stands_first c [] = refl
stands_first c (x ∷ xs) = elim (true_or_false (same_place x c)) [
  | inl t ↦ rw t refl
  | inr f ↦ rw f (stands_first c xs ∙ sym (some_map (first_index c xs)))
]

-- a place stands among the first so many exactly where its first index is below
pub stands_below : (c : Place) (i : ℕ) (log : List Logged) → stands c (places (take i log)) ≡ is_below i (first_index c (places log))
stands_below c zero log = sym (none_below (first_index c (places log)))
  where
    none_below : (o : Option ℕ) → is_below 0 o ≡ false
    none_below None = refl
    none_below (Some j) = le-ltb j 0 (omega arith)
stands_below c (suc i) [] = refl
stands_below c (suc i) (e ∷ log) = elim (true_or_false (same_place e.place c)) [
  | inl t ↦ rw t (sym (lt-ltb 0 (suc i) (omega arith)))
  | inr f ↦ rw f (stands_below c i log ∙ sym (below_map (first_index c (places log)) i))
]

none_some : (j : ℕ) → None ≡ Some j → ⊥
none_some j h = cc

some_is : (a b : ℕ) → Some a ≡ Some b → a ≡ b
some_is a b h = cc

pub one_less : (o : Option ℕ) (j : ℕ) → option_map (λ i. i + 1) o ≡ Some j → (i : ℕ) × (o ≡ Some i) × (j ≡ suc i)
one_less None j h = absurd (none_some j h)
one_less (Some i) j h = let q = some_is (i + 1) j h in (i, refl, omega arith)

-- the act at a place is that of its first index
pub act_first : (c : Place) (log : List Logged) (j : ℕ) → first_index c (places log) ≡ Some j → (e : Logged) × (slice_get log j ≡ Some e) × (act_at c log ≡ e.act)
act_first c [] j h = absurd (none_some j h)
act_first c (e ∷ log) j h = elim (true_or_false (same_place e.place c)) [
  | inl t ↦
      let q : 0 ≡ j = some_is 0 j (rw t at h) in
      (e, subst (λ k. slice_get (e ∷ log) k ≡ Some e) q refl, rw t refl)
  | inr f ↦
      let w = one_less (first_index c (places log)) j (rw f at h) in
      let v = act_first c log w.0 w.1 in
      (v.0, subst (λ k. slice_get (e ∷ log) k ≡ Some v.0) (sym w.2) v.1, rw f v.2)
]

-- what the index finds
pub found_at : (map : BTreeMap (ℕ × ℕ) ℕ) (log : List Logged) (c : Place) (j : ℕ) → IsIndex map log → tree.get by_place map (c.lane, c.number) ≡ Some j →
    (e : Logged) × (slice_get log j ≡ Some e) × (first_act c log ≡ Some e.act)
found_at map log c j is q =
    let i : first_index c (places log) ≡ Some j = sym (is c) ∙ q in
    let w = act_first c log j i in
    let t : stands c (places log) ≡ true = stands_first c (places log) ∙ ap is_some i in
    (w.0, w.1, rw t (ap (λ a. Some a) w.2))

pub found_not : (map : BTreeMap (ℕ × ℕ) ℕ) (log : List Logged) (c : Place) → IsIndex map log → tree.get by_place map (c.lane, c.number) ≡ None → first_act c log ≡ None
found_not map log c is q =
    let f : stands c (places log) ≡ false = stands_first c (places log) ∙ ap is_some (sym (is c) ∙ q) in rw f refl

pub by_act : (y : Setting) (records : List (List Logged)) (r index : ℕ) (next : Bool) (e : Logged) →
    fault_by_act r index next e.act (first_act e.place (deciding_log y records e.place)) ≡ decided_fault y records r index next e
by_act y records r index next e = elim (true_or_false (stands e.place (places (deciding_log y records e.place)))) [ inl t ↦ rw t refl | inr f ↦ rw f refl ]

-- the log of a replica by its number
pub log_at : (records : List (List Logged)) (r : ℕ) (log : List Logged) → 0 < r → r ≤ length records → log ≡ get_or records (r - 1) log → log ≡ log_of records r
log_at records zero log low high q = absurd (omega arith)
log_at records (suc n) log low high q =
    let k : suc n - 1 ≡ n = omega arith in
    at_index records n log (omega arith) (q ∙ ap (λ i. get_or records i log) k)
  where
    at_index : (records : List (List Logged)) (n : ℕ) (log : List Logged) → n < length records → log ≡ get_or records n log → log ≡ or_empty (slice_get records n)
    at_index [] n log h q = absurd (omega arith)
    at_index (l ∷ rest) zero log h q = q
    at_index (l ∷ rest) (suc n) log h q = at_index rest n log (omega arith) q
