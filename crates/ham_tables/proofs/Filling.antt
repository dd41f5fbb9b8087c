-- A row of a table that is filled, one cell after another.
use Rattle.std.proofs.Common.{◌≡◌, ◌≢◌, ℕ, ◌+◌, ◌<◌, ◌≤◌, Bool, true, false, ◌&&◌, ◌||◌, eqb, List, length, get_or, set, refl, sym, subst, ◌∙◌, arith}
use Rattle.std.proofs.lemmas.Bool.{eqb-true, eqb-false}
use Rattle.std.proofs.lemmas.List.{get_or-set_same, get_or-set_other}
use Rattle.ham_plan.specs.Grids.{cell}

-- cells of row m up to n hold the test, those after it nothing, and other rows what they held
pub record IsFilled (test : ℕ → Bool) (m n : ℕ) (old new : List (List Bool)) : Type 0 where
  pub row : (q : ℕ) → q < n → cell new m q ≡ test q
  pub rest : (q : ℕ) → n ≤ q → cell new m q ≡ false
  pub others : (p q : ℕ) → p ≢ m → cell new p q ≡ cell old p q

pub IsFilled-none : (test : ℕ → Bool) (m : ℕ) (old : List (List Bool)) → ((q : ℕ) → cell old m q ≡ false) → IsFilled test m 0 old old
IsFilled-none test m old fresh = record { row = λ q h. absurd (omega arith); rest = λ q h. fresh q; others = λ p q h. refl }

eqb-refl : (n : ℕ) → eqb n n ≡ true
eqb-refl n = by (eqb n n) refl
  where
    by : (t : Bool) → eqb n n ≡ t → t ≡ true
    by true e = refl
    by false e = absurd (eqb-false n n e refl)

eqb-other : (a b : ℕ) → a ≢ b → eqb a b ≡ false
eqb-other a b h = by (eqb a b) refl
  where
    by : (t : Bool) → eqb a b ≡ t → t ≡ false
    by false e = refl
    by true e = absurd (h (eqb-true a b e))

-- the next cell is made true
pub IsFilled-true : (test : ℕ → Bool) (m n : ℕ) (old now new : List (List Bool)) → IsFilled test m n old now → ((p q : ℕ) → cell new p q ≡ ((eqb p m && eqb q n) || cell now p q)) → test n ≡ true → IsFilled test m (n + 1) old new
IsFilled-true test m n old now new is set here = record {
  row = λ q h. row q h (eqb q n) refl;
  rest = λ q h. set m q ∙ rw (eqb-refl m, eqb-other q n (λ e. omega arith)) (is.rest q (omega arith));
  others = λ p q h. set p q ∙ rw (eqb-other p m h) (is.others p q h);
}
  where
    row : (q : ℕ) → q < n + 1 → (t : Bool) → eqb q n ≡ t → cell new m q ≡ test q
    row q h true e = set m q ∙ rw (eqb-refl m, e) (sym (subst (λ (k : ℕ). test k ≡ true) (sym (eqb-true q n e)) here))
    row q h false e = let other = eqb-false q n e in set m q ∙ rw (eqb-refl m, e) (is.row q (omega arith))

-- or it stays false
pub IsFilled-false : (test : ℕ → Bool) (m n : ℕ) (old now : List (List Bool)) → IsFilled test m n old now → test n ≡ false → IsFilled test m (n + 1) old now
IsFilled-false test m n old now is here = record {
  row = λ q h. row q h (eqb q n) refl;
  rest = λ q h. is.rest q (omega arith);
  others = is.others;
}
  where
    row : (q : ℕ) → q < n + 1 → (t : Bool) → eqb q n ≡ t → cell now m q ≡ test q
    row q h true e =
        let same = eqb-true q n e in
        is.rest q (omega arith) ∙ sym (subst (λ (k : ℕ). test k ≡ false) (sym same) here)
    row q h false e = let other = eqb-false q n e in is.row q (omega arith)

-- ---- rows below m hold the test, and those from m on nothing
pub record AreFilled (test : ℕ → ℕ → Bool) (methods m : ℕ) (rows : List (List Bool)) : Type 0 where
  pub done : (p q : ℕ) → p < m → q < methods → cell rows p q ≡ test p q
  pub fresh : (p q : ℕ) → m ≤ p → cell rows p q ≡ false

pub AreFilled-none : (test : ℕ → ℕ → Bool) (methods : ℕ) (rows : List (List Bool)) → ((p q : ℕ) → cell rows p q ≡ false) → AreFilled test methods 0 rows
AreFilled-none test methods rows empty = record { done = λ p q h. absurd (omega arith); fresh = λ p q h. empty p q }

pub AreFilled-more : (test : ℕ → ℕ → Bool) (methods m : ℕ) (rows new : List (List Bool)) → AreFilled test methods m rows → ((q : ℕ) → q < methods → cell new m q ≡ test m q) → ((p q : ℕ) → p ≢ m → cell new p q ≡ cell rows p q) → AreFilled test methods (m + 1) new
AreFilled-more test methods m rows new are row others = record {
  done = λ p q h k. done p q h k (eqb p m) refl;
  fresh = λ p q h. others p q (λ e. omega arith) ∙ are.fresh p q (omega arith);
}
  where
    done : (p q : ℕ) → p < m + 1 → q < methods → (t : Bool) → eqb p m ≡ t → cell new p q ≡ test p q
    done p q h k true e = let same = eqb-true p m e in rw same (row q k)
    done p q h k false e = let other = eqb-false p m e in others p q other ∙ are.done p q (omega arith) k

-- ---- the first m of a list are answers of the test, and one more is set
pub known_more : (test : ℕ → Bool) (each : List Bool) (m : ℕ) (b : Bool) → m < length each → ((q : ℕ) → q < m → get_or each q false ≡ test q) → b ≡ test m → (q : ℕ) → q < m + 1 → get_or (set each m b) q false ≡ test q
known_more test each m b long before is q h = by (eqb q m) refl
  where
    by : (same : Bool) → eqb q m ≡ same → get_or (set each m b) q false ≡ test q
    by true e = rw (eqb-true q m e) (get_or-set_same each m b false long ∙ is)
    by false e = let other = eqb-false q m e in get_or-set_other each m q b false other ∙ before q (omega arith)
