-- What stands in the lists that the table makes.
use Rattle.std.proofs.Common.{◌≡◌, ◌⊎◌, ◌++◌, ℕ, zero, suc, ◌+◌, ◌≤◌, ◌<◌, true, false, cond, eqb, List, [], ◌∷◌, map, take, drop, length, length-append, append_assoc, refl, sym, subst, ap, ◌∙◌, inl, inr, arith}
use Rattle.std.specs.Prelude.{Option, Some, None, slice_get, is_some}
use Rattle.std.specs.List.{flat_map}
use Rattle.std.proofs.lemmas.List.Concat.{flat_map-cons}
use Rattle.std.proofs.lemmas.Bool.{eqb-true}
use Rattle.ham_syntax.specs.declared.act.Act.{Act}
use Rattle.ham_frame.specs.declared.frame.Ruling.{Ruling}
use Rattle.ham_turns.specs.declared.turn.Out.{Out}
use Rattle.ham_frame.specs.declared.frame.Frame.{Frame}
use Rattle.ham_frame.specs.declared.frame.Frame.TheVariants.{Request}
use Rattle.ham_syntax.specs.declared.act.Place.{Place}
use Rattle.ham_syntax.specs.declared.act.Call.{Call}
use Rattle.ham_plan.specs.Lists.{In}
use Rattle.ham_plan.proofs.Lists.{in_parts, true_or_false}
use Rattle.ham_turns.specs.Settings.{Setting}
use Rattle.ham_turns.specs.Words.{numbered, place_of, same_place}
use Rattle.ham_turns.specs.Work.{at_place, first_of_two}
use Rattle.ham_runs.proofs.Decisions.{same_place_refl, same_place_true}
use Rattle.ham_turns.specs.Sends.{decided_by, open_requests}
use Rattle.ham_runs.specs.Runs.{addressed, Decision, calls_of_lane}

pub some_inj : {X : Type 0} (it z : X) → Some it ≡ Some z → it ≡ z
some_inj it z h = cc

pub none_some : {X : Type 0} (it : X) → None ≡ Some it → ⊥
none_some it h = cc

pub in_map : {X Y : Type 0} (f : X → Y) (xs : List X) (z : Y) → In z (map f xs) → (it : X) × In it xs × (z ≡ f it)
in_map f [] z h = absurd h
in_map f (it ∷ xs) z (inl q) = (it, inl refl, q)
in_map f (it ∷ xs) z (inr k) = let w = in_map f xs z k in (w.0, inr w.1, w.2)

pub in_flat_map : {X Y : Type 0} (f : X → List Y) (xs : List X) (z : Y) → In z (flat_map f xs) → (it : X) × In it xs × In z (f it)
in_flat_map f [] z h = absurd h
in_flat_map {X} f (it ∷ xs) z h = elim (in_parts z (f it) (flat_map f xs) (rw flat_map-cons at h)) [
  | inl k ↦ (it, inl refl, k)
  | inr k ↦ let w = in_flat_map f xs z k in (w.0, inr w.1, w.2)
]

pub in_take : {X : Type 0} (n : ℕ) (xs : List X) (it : X) → In it (take n xs) → In it xs
in_take zero xs it h = absurd h
in_take (suc n) [] it h = absurd h
in_take (suc n) (z ∷ zs) it (inl q) = inl q
in_take (suc n) (z ∷ zs) it (inr k) = inr (in_take n zs it k)

pub in_drop : {X : Type 0} (n : ℕ) (xs : List X) (it : X) → In it (drop n xs) → In it xs
in_drop zero xs it h = h
in_drop (suc n) [] it h = absurd h
in_drop (suc n) (z ∷ zs) it h = inr (in_drop n zs it h)

pub in_addressed : (to : ℕ) (outs : List Out) (f : Frame) → In f (addressed to outs) →
    (it : Out) × In it outs × (it.to ≡ to) × (f ≡ it.frame)
in_addressed to [] f h = absurd h
in_addressed to (it ∷ xs) f h = by_test (true_or_false (eqb it.to to)) (in_addressed to xs f)
  where
    by_test : (eqb it.to to ≡ true) ⊎ (eqb it.to to ≡ false) → (In f (addressed to xs) → (z : Out) × In z xs × (z.to ≡ to) × (f ≡ z.frame)) →
        (z : Out) × In z (it ∷ xs) × (z.to ≡ to) × (f ≡ z.frame)
    by_test (inl t) rest = elim (rw t at h) [
      | inl q ↦ (it, inl refl, eqb-true it.to to t, q)
      | inr k ↦ let w = rest k in (w.0, inr w.1, w.2, w.3)
    ]
    by_test (inr t) rest = let w = rest (rw t at h) in (w.0, inr w.1, w.2, w.3)

pub in_decided_by : (y : Setting) (r n lane : ℕ) → In lane (decided_by y r n) → (lane < n) × (y.decider lane ≡ r)
in_decided_by y r zero lane h = absurd h
in_decided_by y r (suc n) lane h = elim (in_parts lane (decided_by y r n) (cond (eqb (y.decider n) r) (n ∷ []) []) h) [
  | inl k ↦ let w = in_decided_by y r n lane k in (let b : lane < n = w.0 in omega arith, w.1)
  | inr k ↦ last (true_or_false (eqb (y.decider n) r)) k
]
  where
    last : (eqb (y.decider n) r ≡ true) ⊎ (eqb (y.decider n) r ≡ false) → In lane (cond (eqb (y.decider n) r) (n ∷ []) []) → (lane < suc n) × (y.decider lane ≡ r)
    last (inl t) k = elim (rw t at k) [ inl q ↦ (let e : lane ≡ n = q in omega arith, ap y.decider q ∙ eqb-true (y.decider n) r t) | inr j ↦ absurd j ]
    last (inr t) k = absurd (rw t at k)

-- a request that a tick sends is one of the requests, with its number
pub in_open : (g : ℕ) (verdict : ℕ → Option Ruling) (before rest : List Act) (f : Frame) →
    In f (open_requests g verdict (length before + 1) rest) → (n : ℕ) × (a : Act) × (f ≡ Request g n a) × (numbered (before ++ rest) n ≡ Some a)
in_open g verdict before [] f h = absurd h
in_open g verdict before (a ∷ rest) f h =
    elim (in_parts f (cond (is_some (verdict (length before + 1))) [] (Request g (length before + 1) a ∷ [])) (open_requests g verdict (length before + 1 + 1) rest) h) [
      | inl k ↦ here (true_or_false (is_some (verdict (length before + 1)))) k
      | inr k ↦
          let e : length before + 1 + 1 ≡ length (before ++ a ∷ []) + 1 = rw (length-append before (a ∷ [])) refl in
          let w = in_open g verdict (before ++ a ∷ []) rest f (subst (λ n. In f (open_requests g verdict n rest)) e k) in
          (w.0, w.1, w.2, subst (λ l. numbered l w.0 ≡ Some w.1) (append_assoc before (a ∷ []) rest) w.3)
    ]
  where
    at_length : (xs ys : List Act) → slice_get (xs ++ a ∷ ys) (length xs) ≡ Some a
    at_length [] ys = refl
    at_length (it ∷ xs) ys = at_length xs ys

    here : (is_some (verdict (length before + 1)) ≡ true) ⊎ (is_some (verdict (length before + 1)) ≡ false) →
        In f (cond (is_some (verdict (length before + 1))) [] (Request g (length before + 1) a ∷ [])) →
        (n : ℕ) × (b : Act) × (f ≡ Request g n b) × (numbered (before ++ a ∷ rest) n ≡ Some b)
    here (inl t) k = absurd (rw t at k)
    here (inr t) k = elim (rw t at k) [
      | inl q ↦ (length before + 1, a, q, let e : suc (length before) ≡ length before + 1 = omega arith in subst (λ n. numbered (before ++ a ∷ rest) n ≡ Some a) e (at_length before rest))
      | inr j ↦ absurd j
    ]

-- lists that grow
pub lane_more : (lane : ℕ) (xs ys : List Decision) → length (calls_of_lane lane xs) ≤ length (calls_of_lane lane (xs ++ ys))
lane_more lane [] ys = omega arith
lane_more lane (it ∷ xs) ys = let k = lane_more lane xs ys in elim (true_or_false (eqb it.call.lane lane)) [ inl t ↦ rw t (omega arith) | inr f ↦ rw f k ]

-- ---- the call of a place
pub at_place_in : (xs : List Call) (p : Place) (c : Call) → at_place xs p ≡ Some c → In c xs × (place_of c ≡ p)
at_place_in [] p c h = absurd (none_some c h)
at_place_in (z ∷ zs) p c h = by_test (true_or_false (same_place (place_of z) p)) (at_place_in zs p c)
  where
    by_test : (same_place (place_of z) p ≡ true) ⊎ (same_place (place_of z) p ≡ false) → (at_place zs p ≡ Some c → In c zs × (place_of c ≡ p)) → In c (z ∷ zs) × (place_of c ≡ p)
    by_test (inl t) rest = let q = some_inj z c (rw t at h) in (inl (sym q), ap place_of (sym q) ∙ same_place_true (place_of z) p t)
    by_test (inr f) rest = let w = rest (rw f at h) in (inr w.0, w.1)

pub at_place_finds : (xs : List Call) (c : Call) → In c xs → (z : Call) × (at_place xs (place_of c) ≡ Some z) × (place_of z ≡ place_of c)
at_place_finds [] c k = absurd k
at_place_finds (z ∷ zs) c k = by_test (true_or_false (same_place (place_of z) (place_of c))) (at_place_finds zs c)
  where
    differ : true ≡ false → ⊥
    differ h = cc

    by_test : (same_place (place_of z) (place_of c) ≡ true) ⊎ (same_place (place_of z) (place_of c) ≡ false) →
        (In c zs → (u : Call) × (at_place zs (place_of c) ≡ Some u) × (place_of u ≡ place_of c)) → (u : Call) × (at_place (z ∷ zs) (place_of c) ≡ Some u) × (place_of u ≡ place_of c)
    by_test (inl t) rest = (z, rw t refl, same_place_true (place_of z) (place_of c) t)
    by_test (inr f) rest = elim k [
      | inl q ↦ absurd (differ (sym (same_place_refl (place_of c)) ∙ subst (λ u. same_place (place_of u) (place_of c) ≡ false) (sym q) f))
      | inr j ↦ let w = rest j in (w.0, rw f w.1, w.2)
    ]

pub at_place_push : (xs ys : List Call) (p : Place) → at_place (xs ++ ys) p ≡ first_of_two (at_place xs p) (at_place ys p)
at_place_push [] ys p = refl
at_place_push (c ∷ xs) ys p = elim (true_or_false (same_place (place_of c) p)) [
  | inl t ↦ rw t refl
  | inr f ↦ rw f (at_place_push xs ys p)
]

pub place_of_call : (xs : List Call) (c : Call) → In c xs → In (place_of c) (map place_of xs)
place_of_call [] c k = absurd k
place_of_call (z ∷ zs) c (inl q) = inl (ap place_of q)
place_of_call (z ∷ zs) c (inr k) = inr (place_of_call zs c k)
