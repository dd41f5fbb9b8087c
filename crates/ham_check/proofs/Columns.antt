-- Columns, each beside those before it.
use Rattle.std.proofs.Common.{◌≡◌, ℕ, suc, ◌+◌, ◌<◌, ◌≤◌, Bool, true, false, ◌||◌, eqb, ltb, List, [], ◌∷◌, ◌++◌, length, get_or, take, drop, refl, sym, subst, arith}
use Rattle.std.specs.List.{AllByRecursion, IsDistinct, list_any}
use Rattle.std.specs.Cmp.{nat_eq_equiv}
use Rattle.std.proofs.lemmas.Bool.{eqb-false, eqb-true, ne_eqb, ltb-false}
use Rattle.std.proofs.lemmas.List.{take_more, drop_more, length_push, append-nil}
use Rattle.std.proofs.lemmas.Map.Keys.{IsDistinct-push, IsDistinct-cons}
use Rattle.std.proofs.lemmas.Map.Steps.{length-le_from_distinct_below}
use Rattle.std.proofs.Math.Seq.{append_snoc}
use Rattle.ham_syntax.specs.Checked.{AreColumns}
use Rattle.ham_check.specs.Faults.{is_bad_column, has_bad_column}
use Rattle.ham_check.proofs.Lists.{or-none, AllByRecursion-push}

pub AreColumns-none : (width : ℕ) → AreColumns width []
unfolding IsDistinct
AreColumns-none width = record { each = tt; once = tt }

pub AreColumns-push : (width : ℕ) (cs : List ℕ) (c : ℕ) → AreColumns width cs → is_bad_column width cs c ≡ false → AreColumns width (cs ++ c ∷ [])
AreColumns-push width cs c are good =
    let parts = or-none (eqb c 0) (ltb width c || list_any (λ b. eqb c b) cs) good in
    let more = or-none (ltb width c) (list_any (λ b. eqb c b) cs) parts.1 in
    let other = eqb-false c 0 parts.0 in
    let below = ltb-false width c more.0 in
    record {
      each = AllByRecursion-push (λ x. (0 < x) × (x ≤ width)) cs c are.each (omega arith, below);
      once = IsDistinct-push nat_eq_equiv cs c are.once more.1;
    }

none-is_0 : (width : ℕ) (cs : List ℕ) → AllByRecursion (λ c. (0 < c) × (c ≤ width)) cs → AllByRecursion (λ y. eqb 0 y ≡ false) cs
none-is_0 width [] all = tt
none-is_0 width (c ∷ cs) all = (positive c all.0.0, none-is_0 width cs all.1)
  where
    positive : (c : ℕ) → 0 < c → eqb 0 c ≡ false
    positive c h = ne_eqb 0 c (λ e. omega arith)

each-below : (width q : ℕ) (cs : List ℕ) → AllByRecursion (λ c. (0 < c) × (c ≤ width)) cs → list_any (eqb q) cs ≡ true → q < suc width
each-below width q [] all e = absurd cc
each-below width q (c ∷ cs) all e = by (eqb q c) refl e (λ h. each-below width q cs all.1 h)
  where
    by : (b : Bool) → eqb q c ≡ b → (b || list_any (eqb q) cs) ≡ true → (list_any (eqb q) cs ≡ true → q < suc width) → q < suc width
    by true same h next = let is = eqb-true q c same in let within = all.0.1 in omega arith
    by false other h next = next h

-- columns that differ are no more than there are
pub AreColumns-few : (width : ℕ) (cs : List ℕ) → AreColumns width cs → length cs ≤ width
AreColumns-few width cs are =
    let apart = IsDistinct-cons eqb 0 cs (none-is_0 width cs are.each) are.once in
    let few = length-le_from_distinct_below (0 ∷ cs) (suc width) apart (λ q e. below q e) in
    omega arith
  where
    below : (q : ℕ) → list_any (eqb q) (0 ∷ cs) ≡ true → q < suc width
    below q e = by (eqb q 0) refl e
      where
        by : (b : Bool) → eqb q 0 ≡ b → (b || list_any (eqb q) cs) ≡ true → q < suc width
        by true same h = let is = eqb-true q 0 same in omega arith
        by false other h = each-below width q cs are.each h

-- a good column finds room
pub AreColumns-room : (width : ℕ) (cs : List ℕ) (c : ℕ) → width ≤ 4 → AreColumns width cs → is_bad_column width cs c ≡ false → length cs < 4
AreColumns-room width cs c h are good =
    let few = AreColumns-few width (cs ++ c ∷ []) (AreColumns-push width cs c are good) in
    let more = length_push cs c in
    omega arith

-- a column, and then those after it
pub has_bad_column-step : (width : ℕ) (cs : List ℕ) (i : ℕ) → i < length cs → has_bad_column width (take i cs) (drop i cs) ≡ (is_bad_column width (take i cs) (get_or cs i 0) || has_bad_column width (take (i + 1) cs) (drop (i + 1) cs))
has_bad_column-step width cs i h = rw (drop_more cs i 0 h, take_more cs i 0 h) refl

-- where none is bad they are columns
AreColumns-after : (width : ℕ) (before cs : List ℕ) → AreColumns width before → has_bad_column width before cs ≡ false → AreColumns width (before ++ cs)
AreColumns-after width before [] are none = subst (AreColumns width) (sym (append-nil before)) are
AreColumns-after width before (c ∷ cs) are none =
    let parts = or-none (is_bad_column width before c) (has_bad_column width (before ++ c ∷ []) cs) none in
    subst (AreColumns width) (append_snoc before c cs) (AreColumns-after width (before ++ c ∷ []) cs (AreColumns-push width before c are parts.0) parts.1)

pub AreColumns-known : (width : ℕ) (cs : List ℕ) → has_bad_column width [] cs ≡ false → AreColumns width cs
AreColumns-known width cs none = AreColumns-after width [] cs (AreColumns-none width) none
