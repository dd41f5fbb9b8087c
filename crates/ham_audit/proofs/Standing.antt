-- What stands in a list, and what precedes it.
use Rattle.std.proofs.Common.{◌≡◌, ◌≢◌, ◌⊎◌, ◌++◌, ℕ, ◌+◌, ◌<◌, ◌≤◌, zero, suc, true, false, List, [], ◌∷◌, length, refl, sym, subst, ap, ◌∙◌, inl, inr, Some, None, Option, arith}
use Rattle.std.proofs.lemmas.Bool.{true≢false, cases_eq}
use Rattle.std.specs.List.{range_with_len}
use Rattle.std.specs.Prelude.{slice_get}
use Rattle.ham_syntax.specs.declared.act.Place.{Place}
use Rattle.ham_plan.specs.Lists.{In, Within, StartsWith}
use Rattle.ham_plan.proofs.Lists.{true_or_false}
use Rattle.ham_turns.specs.Words.{same_place}
use Rattle.ham_turns.specs.Work.{first_of_two}
use Rattle.ham_runs.proofs.Decisions.{same_place_refl, same_place_true, get_length}
use Rattle.ham_records.specs.declared.records.Logged.{Logged}
use Rattle.ham_audit.specs.Records.{log_of, or_empty, replicas, places, stands, front_of, act_at}

pub stands_in : (c : Place) (xs : List Place) → stands c xs ≡ true → In c xs
stands_in c [] h = absurd (true≢false (sym h))
stands_in c (x ∷ xs) h = elim (true_or_false (same_place x c)) [
  | inl t ↦ inl (sym (same_place_true x c t))
  | inr f ↦ inr (stands_in c xs (rw f at h))
]

pub in_stands : (c : Place) (xs : List Place) → In c xs → stands c xs ≡ true
in_stands c [] h = absurd h
in_stands c (x ∷ xs) (inl q) = subst (λ z. stands c (z ∷ xs) ≡ true) q (rw (same_place_refl c) refl)
in_stands c (x ∷ xs) (inr h) = elim (true_or_false (same_place x c)) [ inl t ↦ rw t refl | inr f ↦ rw f (in_stands c xs h) ]

pub stands_not : (c : Place) (xs : List Place) → stands c xs ≡ false → In c xs → ⊥
stands_not c xs f k = true≢false (sym (in_stands c xs k) ∙ f)

-- what precedes the place stands in the list
pub front_within : (c : Place) (xs : List Place) → Within (front_of c xs) xs
front_within c [] z k = absurd k
front_within c (x ∷ xs) z k = elim (true_or_false (same_place x c)) [
  | inl t ↦ absurd (rw t at k)
  | inr f ↦ let j : In z (x ∷ front_of c xs) = rw f at k in elim j [ inl q ↦ inl q | inr i ↦ inr (front_within c xs z i) ]
]

-- the list begins with what precedes the place, and with the place
pub front_starts : (c : Place) (xs : List Place) → In c xs → StartsWith (front_of c xs ++ c ∷ []) xs
front_starts c [] k = absurd k
front_starts c (x ∷ xs) k = elim (true_or_false (same_place x c)) [
  | inl t ↦ rw t (xs, ap (λ z. z ∷ xs) (same_place_true x c t))
  | inr f ↦
      let j : In c xs = elim k [ inl q ↦ absurd (true≢false (sym (same_place_refl c) ∙ subst (λ z. same_place z c ≡ false) (sym q) f)) | inr i ↦ i ] in
      let w = front_starts c xs j in rw f (w.0, ap (λ l. x ∷ l) w.1)
]

other_in : (c x : Place) (xs : List Place) → In c (x ∷ xs) → same_place x c ≡ false → In c xs
other_in c x xs (inl q) f = absurd (true≢false (sym (same_place_refl c) ∙ subst (λ z. same_place z c ≡ false) (sym q) f))
other_in c x xs (inr k) f = k

-- of two places in a list one precedes the other
pub either_front : (c d : Place) (xs : List Place) → In c xs → In d xs → c ≢ d → In c (front_of d xs) ⊎ In d (front_of c xs)
either_front c d [] hc hd ne = absurd hc
either_front c d (x ∷ xs) hc hd ne = elim (true_or_false (same_place x c)) [
  | inl tc ↦ elim (true_or_false (same_place x d)) [
    | inl td ↦ absurd (ne (sym (same_place_true x c tc) ∙ same_place_true x d td))
    | inr fd ↦ inl (rw fd (inl (sym (same_place_true x c tc))))
  ]
  | inr fc ↦ elim (true_or_false (same_place x d)) [
    | inl td ↦ inr (rw fc (inl (sym (same_place_true x d td))))
    | inr fd ↦ elim (either_front c d xs (other_in c x xs hc fc) (other_in d x xs hd fd) ne) [
      | inl k ↦ inl (rw fd (inr k))
      | inr k ↦ inr (rw fc (inr k))
    ]
  ]
]

-- the call of a place that stands in a log
pub entry_at : (c : Place) (log : List Logged) → In c (places log) → (e : Logged) × In e log × (e.place ≡ c) × (act_at c log ≡ e.act)
entry_at c [] k = absurd k
entry_at c (e ∷ rest) k = elim (true_or_false (same_place e.place c)) [
  | inl t ↦ rw t (e, inl refl, same_place_true e.place c t, refl)
  | inr f ↦ let w = entry_at c rest (other_in c e.place (places rest) k f) in rw f (w.0, inr w.1, w.2, w.3)
]

pub place_in : (e : Logged) (log : List Logged) → In e log → In e.place (places log)
place_in e [] k = absurd k
place_in e (x ∷ rest) (inl q) = inl (ap (λ (z : Logged). z.place) q)
place_in e (x ∷ rest) (inr k) = inr (place_in e rest k)

-- ---- replicas
in_range : (r a n : ℕ) → a ≤ r → r < a + n → In r (range_with_len a n)
in_range r a zero low high = absurd (omega arith)
in_range r a (suc n) low high = elim (cases_eq r a) [
  | inl q ↦ inl q
  | inr ne ↦ inr (in_range r (a + 1) n (omega arith) (omega arith))
]

-- a replica has a number of one of the records, or an empty log
pub replica_or_empty : (records : List (List Logged)) (r : ℕ) → In r (replicas records) ⊎ (log_of records r ≡ [])
replica_or_empty records zero = inr refl
replica_or_empty records (suc n) = told records n (slice_get records n) refl
  where
    told : (records : List (List Logged)) (n : ℕ) (o : Option (List Logged)) → slice_get records n ≡ o → In (suc n) (replicas records) ⊎ (or_empty o ≡ [])
    told records n None q = inr refl
    told records n (Some log) q = inl (in_range (suc n) 1 (length records) (omega arith) (omega (arith, get_length records n log q)))

-- ---- first of two
pub none_first : {X : Type 0} (a b : Option X) → first_of_two a b ≡ None → a ≡ None
none_first None b h = refl
none_first (Some x) b h = h

pub none_second : {X : Type 0} (a b : Option X) → first_of_two a b ≡ None → b ≡ None
none_second None b h = h
none_second (Some x) b h = absurd (cc)

pub some_either : {X : Type 0} (a b : Option X) (c : X) → first_of_two a b ≡ Some c → (a ≡ Some c) ⊎ (b ≡ Some c)
some_either None b c h = inr h
some_either (Some x) b c h = inl h
