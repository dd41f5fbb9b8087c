-- The rows that stand at one key, numbered from 0: a list for each key, kept in tables.
use Rattle.std.specs.Prelude.{◌≡◌, ℕ, ◌<◌, ◌≤◌, ◌&&◌, ◌==◌, Bool, List, Option, Some, IsSome, is_some, slice_get}
use Rattle.std.specs.HashMap as hash
use Rattle.std.specs.HashMap.{HashMap}
use Rattle.ham_steps.specs.Content.{State, has}
use Rattle.ham_content.specs.Numbers.{same}
use Rattle.ham_content.specs.Tallies.{count}
use Rattle.ham_content.specs.Counted.{at_columns, tally}
use Rattle.ham_content.specs.declared.seats.Seat.{Seat}
use Rattle.ham_content.specs.declared.sieve.Sieve.{Sieve}

abbrev pub seat : List ℕ → ℕ → Seat
seat k n = record { key = k; number = n }

abbrev pub same_seat : Seat → Seat → Bool
same_seat a b = same a.key b.key && (a.number == b.number)

-- each numbered row sits at its key under its number, each seat's row knows it, and the seats below the count are taken
pub record IsListed (key : List ℕ → List ℕ) (count : List ℕ → ℕ) (at : List ℕ → ℕ → Option (List ℕ)) (number : List ℕ → Option ℕ) : Type 0 where
  pub seated : (x : List ℕ) (n : ℕ) → number x ≡ Some n → at (key x) n ≡ Some x
  pub knows : (k x : List ℕ) (n : ℕ) → at k n ≡ Some x → (key x ≡ k) × (number x ≡ Some n) × (n < count k)
  pub taken : (k : List ℕ) (n : ℕ) → n < count k → IsSome (at k n)

-- the same of the three tables that keep it
abbrev pub AreListed : {S T U : Type 0} → List ℕ → HashMap (List ℕ) ℕ S → HashMap Seat (List ℕ) T → HashMap (List ℕ) ℕ U → Type 0
AreListed columns tallies seats numbers = IsListed (at_columns columns) (count tallies) (λ k n. hash.get same_seat seats (seat k n)) (hash.get same numbers)

-- the row has a number
abbrev pub is_seated : {S : Type 0} → HashMap (List ℕ) ℕ S → List ℕ → Bool
is_seated numbers x = is_some (hash.get same numbers x)

-- so many rows more fit
abbrev pub HaveSeats : {S T U : Type 0} → ℕ → HashMap (List ℕ) ℕ S → HashMap Seat (List ℕ) T → HashMap (List ℕ) ℕ U → Type 0
HaveSeats n tallies seats numbers = (n ≤ hash.spare tallies) × (n ≤ hash.spare seats) × (n ≤ hash.spare numbers)

-- the sieve has the rows of its relation in the state, by their ids at its columns
pub record IsSieve (s : State) (v : Sieve) : Type 0 where
  pub tallied : (k : List ℕ) → count v.tallies k ≡ tally s v.relation v.columns k
  pub listed : AreListed v.columns v.tallies v.seats v.numbers
  pub has_all : (x : List ℕ) → is_seated v.numbers x ≡ has s v.relation x

abbrev pub HasSeats : ℕ → Sieve → Type 0
HasSeats n v = HaveSeats n v.tallies v.seats v.numbers

-- each is a sieve of the state, and each has room for so many rows more
abbrev pub AreSieves : State → List Sieve → Type 0
AreSieves s sieves = (i : ℕ) (v : Sieve) → slice_get sieves i ≡ Some v → IsSieve s v

abbrev pub AllHaveSeats : ℕ → List Sieve → Type 0
AllHaveSeats n sieves = (i : ℕ) (v : Sieve) → slice_get sieves i ≡ Some v → HasSeats n v
