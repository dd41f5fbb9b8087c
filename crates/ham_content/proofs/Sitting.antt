-- What one row more, or one less, does to all sieves, and what keeps them.
use Rattle.std.proofs.Common.{◌≡◌, ℕ, ◌+◌, ◌<◌, ◌≤◌, List, Some, sym, ◌∙◌, subst, arith, length, get_or, set, inl, inr, ◌⊎◌}
use Rattle.std.specs.Prelude.{slice_get}
use Rattle.std.proofs.lemmas.List.{get_or_past}
use Rattle.std.proofs.lemmas.Bool.{cases_lt}
use Rattle.std.proofs.lemmas.Option.{slice_get-get_or}
use Rattle.ham_steps.specs.Content.{State}
use Rattle.ham_content.specs.declared.sieve.Sieve.{Sieve}
use Rattle.ham_content.specs.Seats.{IsSieve, HasSeats, AreSieves, AllHaveSeats}
use Rattle.ham_content.proofs.Each.{Changed, all_changed, one_changed, weaker, any_read}

-- a sieve that had room for g n rows is one of the state t, and has room for n
pub record Sits (t : State) (g : ℕ → ℕ) (w v : Sieve) : Type 0 where
  pub sieve : IsSieve t v
  pub room : (n : ℕ) → HasSeats (g n) w → HasSeats n v

pub AreSieves-moved : (t : State) (g : ℕ → ℕ) (start xs : List Sieve) (i : ℕ) → length xs ≤ i → Changed (Sits t g) start xs i → AreSieves t xs
AreSieves-moved t g start xs i h c j w e = (all_changed (Sits t g) start xs i h c j w e).2.sieve

pub AllHaveSeats-moved : (t : State) (g : ℕ → ℕ) (start xs : List Sieve) (i : ℕ) → length xs ≤ i → Changed (Sits t g) start xs i → (n : ℕ) → AllHaveSeats (g n) start → AllHaveSeats n xs
AllHaveSeats-moved t g start xs i h c n room j w e = let found = all_changed (Sits t g) start xs i h c j w e in found.2.room n (room j found.0 found.1)

-- one that isn't changed yet is as it was
pub not_yet : (t : State) (g : ℕ → ℕ) (start xs : List Sieve) (i : ℕ) (P : Sieve → Type 0) → i < length xs → Changed (Sits t g) start xs i → ((j : ℕ) (w : Sieve) → slice_get start j ≡ Some w → P w) → (d : Sieve) → P (get_or xs i d)
not_yet t g start xs i P h c all d =
    let long = c.long in
    subst P (sym (c.left i d (omega arith))) (all i (get_or start i d) (slice_get-get_or start i d (omega arith)))

pub sits_next : (t : State) (g : ℕ → ℕ) (start xs : List Sieve) (i : ℕ) (r y : Sieve) → i < length start → IsSieve t y → ((n : ℕ) → HasSeats (g n) (get_or xs i r) → HasSeats n y) → Changed (Sits t g) start xs i → Changed (Sits t g) start (set xs i y) (i + 1)
sits_next t g start xs i r y h sieve room c =
    let long = c.long in
    let within : i < length xs = omega arith in
    one_changed (Sits t g) start xs i y within (λ d. record {
      sieve = sieve;
      room = subst (λ z. (n : ℕ) → HasSeats (g n) z → HasSeats n y) (any_read xs i r d within ∙ c.left i d (omega arith)) room;
    }) c

-- what it has stays, and its room
pub record Keeps (w v : Sieve) : Type 0 where
  pub sieve : (s : State) → IsSieve s w → IsSieve s v
  pub kept : (n : ℕ) → HasSeats n w → HasSeats n v

itself : (w : Sieve) → Keeps w w
itself w = record { sieve = λ s h. h; kept = λ n h. h }

-- those after the one that is reached are as they were
pub keeps_all : (start xs : List Sieve) (i : ℕ) → Changed Keeps start xs i → Changed Keeps start xs (length xs)
keeps_all start xs i c = record {
  done = λ j d h. by j d (cases_lt j i);
  left = λ j d h. past j d h;
  long = c.long;
}
  where
    by : (j : ℕ) (d : Sieve) → (j < i) ⊎ (i ≤ j) → Keeps (get_or start j d) (get_or xs j d)
    by j d (inl h) = c.done j d h
    by j d (inr h) = subst (Keeps (get_or start j d)) (sym (c.left j d h)) (itself (get_or start j d))

    past : (j : ℕ) (d : Sieve) → length xs ≤ j → get_or xs j d ≡ get_or start j d
    past j d h = let long = c.long in get_or_past xs j d h ∙ sym (get_or_past start j d (omega arith))

pub AreSieves-kept : (start xs : List Sieve) (i : ℕ) → Changed Keeps start xs i → (s : State) → AreSieves s start → AreSieves s xs
AreSieves-kept start xs i c s all j w e = let found = all_changed Keeps start xs (length xs) (omega arith) (keeps_all start xs i c) j w e in found.2.sieve s (all j found.0 found.1)

pub AllHaveSeats-kept : (start xs : List Sieve) (i : ℕ) → Changed Keeps start xs i → (n : ℕ) → AllHaveSeats n start → AllHaveSeats n xs
AllHaveSeats-kept start xs i c n all j w e = let found = all_changed Keeps start xs (length xs) (omega arith) (keeps_all start xs i c) j w e in found.2.kept n (all j found.0 found.1)

-- and there is room for n rows
pub record Prepared (n : ℕ) (w v : Sieve) : Type 0 where
  pub keeps : Keeps w v
  pub room : HasSeats n v

pub prepared_keeps : (n : ℕ) (start xs : List Sieve) (i : ℕ) → Changed (Prepared n) start xs i → Changed Keeps start xs i
prepared_keeps n start xs i c = weaker (Prepared n) Keeps (λ w v p. p.keeps) start xs i c

pub prepared_next : (n : ℕ) (start xs : List Sieve) (i : ℕ) (r y : Sieve) → i < length start → Keeps (get_or xs i r) y → HasSeats n y → Changed (Prepared n) start xs i → Changed (Prepared n) start (set xs i y) (i + 1)
prepared_next n start xs i r y h keeps room c = let long = c.long in let within : i < length xs = omega arith in one_changed (Prepared n) start xs i y within (λ d. record { keeps = subst (λ z. Keeps z y) (any_read xs i r d within ∙ c.left i d (omega arith)) keeps; room = room }) c

pub kept_next : (n : ℕ) (start xs : List Sieve) (i : ℕ) (r y : Sieve) → i < length start → Keeps (get_or xs i r) y → Changed (Prepared n) start xs i → Changed Keeps start (set xs i y) (i + 1)
kept_next n start xs i r y h keeps c = let long = c.long in let within : i < length xs = omega arith in one_changed Keeps start xs i y within (λ d. subst (λ z. Keeps z y) (any_read xs i r d within ∙ c.left i d (omega arith)) keeps) (prepared_keeps n start xs i c)

pub AllHaveSeats-prepared : (n : ℕ) (start xs : List Sieve) (i : ℕ) → length xs ≤ i → Changed (Prepared n) start xs i → AllHaveSeats n xs
AllHaveSeats-prepared n start xs i h c j w e = (all_changed (Prepared n) start xs i h c j w e).2.room
