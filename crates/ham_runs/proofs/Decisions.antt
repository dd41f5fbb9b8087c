-- What is read off the decisions of a run.
use Rattle.std.proofs.Common.{◌≡◌, ◌⊎◌, ◌++◌, ℕ, zero, suc, ◌+◌, ◌≤◌, ◌<◌, Bool, true, false, cond, eqb, List, [], ◌∷◌, map, length, refl, sym, subst, ap, ◌∙◌, inl, inr, arith}
use Rattle.std.specs.Prelude.{Some, slice_get, count_by}
use Rattle.ham_laws.proofs.Counts.{count_by-cons}
use Rattle.std.proofs.lemmas.Bool.{eqb-true, eq-eqb, true≢false, and_parts}
use Rattle.ham_syntax.specs.declared.act.Place.{Place}
use Rattle.ham_plan.specs.Lists.{In}
use Rattle.ham_plan.proofs.Lists.{true_or_false}
use Rattle.ham_syntax.specs.declared.act.Call.{Call}
use Rattle.ham_turns.specs.Words.{numbered, in_lane, same_place, place_of}
use Rattle.ham_runs.specs.Runs.{Decision, no_act, of_place, calls_of_lane}

pub same_place_refl : (a : Place) → same_place a a ≡ true
same_place_refl a = rw (eq-eqb a.lane a.lane refl, eq-eqb a.number a.number refl) refl

pub same_place_true : (a b : Place) → same_place a b ≡ true → a ≡ b
same_place_true a b h =
    let w = and_parts (eqb a.lane b.lane) (eqb a.number b.number) h in
    let l = eqb-true a.lane b.lane w.0 in
    let n = eqb-true a.number b.number w.1 in
    λ i. record { lane = l i; number = n i }

abbrev pub places_of : List Decision → List Place
places_of ds = map (λ d. (place_of d.call)) ds

pub places_push : (xs : List Decision) (d : Decision) → places_of (xs ++ d ∷ []) ≡ places_of xs ++ (place_of d.call) ∷ []
places_push [] d = refl
places_push (x ∷ xs) d = ap (λ l. (place_of x.call) ∷ l) (places_push xs d)

pub place_in : (xs : List Decision) (d : Decision) → In d xs → In (place_of d.call) (places_of xs)
place_in [] d h = absurd h
place_in (x ∷ xs) d (inl q) = inl (ap (λ z. (place_of z.call)) q)
place_in (x ∷ xs) d (inr k) = inr (place_in xs d k)

pub say_old : {B : Type 0} (none : B) (say : Decision → B) (xs : List Decision) (d : Decision) (c : Place) → In c (places_of xs) →
    of_place none say (xs ++ d ∷ []) c ≡ of_place none say xs c
say_old none say [] d c h = absurd h
say_old none say (x ∷ xs) d c h = elim (true_or_false (same_place (place_of x.call) c)) [
  | inl t ↦ rw t refl
  | inr f ↦ rw f (say_old none say xs d c
      (elim h [ inl q ↦ absurd (true≢false (sym (same_place_refl (place_of x.call)) ∙ subst (λ z. same_place (place_of x.call) z ≡ false) q f)) | inr k ↦ k ]))
]

pub say_new : {B : Type 0} (none : B) (say : Decision → B) (xs : List Decision) (d : Decision) → (In (place_of d.call) (places_of xs) → ⊥) →
    of_place none say (xs ++ d ∷ []) (place_of d.call) ≡ say d
say_new none say [] d new = rw (same_place_refl (place_of d.call)) refl
say_new none say (x ∷ xs) d new = elim (true_or_false (same_place (place_of x.call) (place_of d.call))) [
  | inl t ↦ absurd (new (inl (sym (same_place_true (place_of x.call) (place_of d.call) t))))
  | inr f ↦ rw f (say_new none say xs d (λ k. new (inr k)))
]

-- the decision that the look-up of a place finds
pub record Found (ds : List Decision) (c : Place) : Type 0 where
  pub decision : Decision
  pub stands : In decision ds
  pub place : place_of decision.call ≡ c
  pub act : of_place no_act (λ d. d.call.act) ds c ≡ decision.call.act
  pub by : of_place 0 (λ d. d.by) ds c ≡ decision.by
  pub before : of_place [] (λ d. d.before) ds c ≡ decision.before

pub found : (ds : List Decision) (c : Place) → In c (places_of ds) → Found ds c
found [] c h = absurd h
found (d ∷ ds) c h = elim (true_or_false (same_place (place_of d.call) c)) [
  | inl t ↦ record { decision = d; stands = inl refl; place = same_place_true (place_of d.call) c t; act = rw t refl; by = rw t refl; before = rw t refl }
  | inr f ↦
      let k : In c (places_of ds) =
      elim h [ inl q ↦ absurd (true≢false (sym (same_place_refl (place_of d.call)) ∙ subst (λ z. same_place (place_of d.call) z ≡ false) q f)) | inr j ↦ j ] in
      let w = found ds c k in
      record { decision = w.decision; stands = inr w.stands; place = w.place; act = rw f w.act; by = rw f w.by; before = rw f w.before }
]

-- the calls of a lane
pub lane_push : (lane : ℕ) (xs : List Decision) (d : Decision) →
    calls_of_lane lane (xs ++ d ∷ []) ≡ calls_of_lane lane xs ++ cond (in_lane lane (place_of d.call)) (d.call ∷ []) []
lane_push lane [] d = by_test (in_lane lane (place_of d.call))
  where
    by_test : (b : Bool) → cond b (d.call ∷ []) [] ≡ cond b (d.call ∷ []) []
    by_test b = refl
lane_push lane (x ∷ xs) d = elim (true_or_false (in_lane lane (place_of x.call))) [
  | inl t ↦ rw (t, lane_push lane xs d) refl
  | inr f ↦ rw (f, lane_push lane xs d) refl
]

pub lane_length : (lane : ℕ) (xs : List Decision) → length (calls_of_lane lane xs) ≡ count_by (in_lane lane) (places_of xs)
lane_length lane [] = refl
lane_length lane (x ∷ xs) = sym (by_test (true_or_false (in_lane lane (place_of x.call))) (lane_length lane xs))
  where
    by_test : (in_lane lane (place_of x.call) ≡ true) ⊎ (in_lane lane (place_of x.call) ≡ false) → length (calls_of_lane lane xs) ≡ count_by (in_lane lane) (places_of xs) →
        count_by (in_lane lane) (places_of (x ∷ xs)) ≡ length (calls_of_lane lane (x ∷ xs))
    by_test (inl t) rest = count_by-cons (in_lane lane) (place_of x.call) (places_of xs) ∙ rw (t, ← rest) (omega arith)
    by_test (inr f) rest = count_by-cons (in_lane lane) (place_of x.call) (places_of xs) ∙ rw (f, ← rest) (omega arith)

-- a call of a lane was decided, in that lane
pub lane_in : (lane : ℕ) (xs : List Decision) (c : Call) → In c (calls_of_lane lane xs) →
    (d : Decision) × In d xs × (c ≡ d.call) × (c.lane ≡ lane)
lane_in lane [] c h = absurd h
lane_in lane (x ∷ xs) c h = by_test (true_or_false (in_lane lane (place_of x.call))) (lane_in lane xs c)
  where
    by_test : (in_lane lane (place_of x.call) ≡ true) ⊎ (in_lane lane (place_of x.call) ≡ false) →
        (In c (calls_of_lane lane xs) → (d : Decision) × In d xs × (c ≡ d.call) × (c.lane ≡ lane)) →
        (d : Decision) × In d (x ∷ xs) × (c ≡ d.call) × (c.lane ≡ lane)
    by_test (inl t) rest = elim (rw t at h) [
      | inl q ↦ (x, inl refl, q, ap (λ z. z.lane) q ∙ eqb-true x.call.lane lane t)
      | inr k ↦ let w = rest k in (w.0, inr w.1, w.2, w.3)
    ]
    by_test (inr f) rest = let w = rest (rw f at h) in (w.0, inr w.1, w.2, w.3)

-- numbers of items
pub get_length : {X : Type 0} (xs : List X) (n : ℕ) (x : X) → slice_get xs n ≡ Some x → n < length xs
get_length [] n x h = absurd (cc)
get_length (y ∷ ys) zero x h = omega arith
get_length (y ∷ ys) (suc n) x h = let k = get_length ys n x h in omega arith

pub numbered_within : {X : Type 0} (xs : List X) (n : ℕ) (x : X) → numbered xs n ≡ Some x → n ≤ length xs
numbered_within xs zero x h = omega arith
numbered_within xs (suc n) x h = let k = get_length xs n x h in omega arith

pub get_in : {X : Type 0} (xs : List X) (n : ℕ) (x : X) → slice_get xs n ≡ Some x → In x xs
get_in [] n x h = absurd (cc)
get_in (y ∷ ys) zero x h = inl (cc)
get_in (y ∷ ys) (suc n) x h = inr (get_in ys n x h)

pub numbered_in : {X : Type 0} (xs : List X) (n : ℕ) (x : X) → numbered xs n ≡ Some x → In x xs
numbered_in xs zero x h = absurd (cc)
numbered_in xs (suc n) x h = get_in xs n x h

get_push : {X : Type 0} (xs ys : List X) (n : ℕ) (x : X) → slice_get xs n ≡ Some x → slice_get (xs ++ ys) n ≡ Some x
get_push [] ys n x h = absurd (cc)
get_push (z ∷ zs) ys zero x h = h
get_push (z ∷ zs) ys (suc n) x h = get_push zs ys n x h

pub numbered_push : {X : Type 0} (xs ys : List X) (n : ℕ) (x : X) → numbered xs n ≡ Some x → numbered (xs ++ ys) n ≡ Some x
numbered_push xs ys zero x h = absurd (cc)
numbered_push xs ys (suc n) x h = get_push xs ys n x h

get_last : {X : Type 0} (xs : List X) (x : X) → slice_get (xs ++ x ∷ []) (length xs) ≡ Some x
get_last [] x = refl
get_last (y ∷ ys) x = get_last ys x

pub numbered_last : {X : Type 0} (xs : List X) (x : X) → numbered (xs ++ x ∷ []) (length xs + 1) ≡ Some x
numbered_last xs x =
    let e : suc (length xs) ≡ length xs + 1 = omega arith in
    subst (λ n. numbered (xs ++ x ∷ []) n ≡ Some x) e (get_last xs x)

-- an item of the longer list was there, or is the new one, by its number
get_split : {X : Type 0} (xs : List X) (y : X) (n : ℕ) (x : X) → slice_get (xs ++ y ∷ []) n ≡ Some x → (slice_get xs n ≡ Some x) ⊎ ((x ≡ y) × (n ≡ length xs))
get_split [] y zero x h = inr (cc, refl)
get_split [] y (suc n) x h = absurd (cc)
get_split (z ∷ zs) y zero x h = inl h
get_split (z ∷ zs) y (suc n) x h = elim (get_split zs y n x h) [ inl k ↦ inl k | inr w ↦ inr (w.0, let e = w.1 in omega arith) ]

pub numbered_split : {X : Type 0} (xs : List X) (y : X) (n : ℕ) (x : X) → numbered (xs ++ y ∷ []) n ≡ Some x → (numbered xs n ≡ Some x) ⊎ ((x ≡ y) × (n ≡ length xs + 1))
numbered_split xs y zero x h = absurd (cc)
numbered_split xs y (suc n) x h = elim (get_split xs y n x h) [ inl k ↦ inl k | inr w ↦ inr (w.0, let e = w.1 in omega arith) ]
