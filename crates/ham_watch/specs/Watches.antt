-- What is kept beside the content for one invariant.
use Rattle.std.specs.Prelude.{◌≡◌, ℕ, ℤ, ◌+◌, ◌*◌, ◌≤◌, List, Some, slice_get}
use Rattle.std.specs.HashMap as hash
use Rattle.std.specs.HashMap.{HashMap}
use Rattle.std.specs.HashSet as bag
use Rattle.std.specs.HashSet.{HashSet}
use Rattle.ham_syntax.specs.declared.object.Invariant.{Invariant}
use Rattle.ham_syntax.specs.declared.object.Invariant.TheVariants as invariants
use Rattle.ham_steps.specs.Content.{State}
use Rattle.ham_content.specs.Numbers.{same}
use Rattle.ham_content.specs.Tallies.{count}
use Rattle.ham_content.specs.declared.tables.FactKey.{FactKey}
use Rattle.ham_content.specs.declared.tables.Spot.{Spot}
use Rattle.ham_content.specs.declared.sieve.Sieve.{Sieve}
use Rattle.ham_content.specs.Seats.{AreSieves, AllHaveSeats}
use Rattle.ham_watch.specs.declared.watch.Watch.{Watch}
use Rattle.ham_content.specs.Kept.{content}
use Rattle.ham_watch.specs.Broken.{tally_of, is_broken}

-- the tallies are the numbers of rows, and the marks are the broken spots
pub record IsWatchOf {S T : Type 0} (s : State) (v : Invariant) (tallies : HashMap (List ℕ) ℕ S) (broken : HashSet (List ℕ) T) : Type 0 where
  pub tallied : (k : List ℕ) → count tallies k ≡ tally_of s v k
  pub marked : (k : List ℕ) → bag.contains same broken k ≡ is_broken s v k

abbrev pub IsWatch : State → Watch → Type 0
IsWatch s w = IsWatchOf s w.invariant w.tallies w.broken

-- So many steps fit. For a reference each key that has a tally may become broken, whatever the steps are; one insert
-- into a relation that refers to itself takes a tally and drops a mark, so a step counts three times.
abbrev pub HasRoomBy : {S T : Type 0} → Invariant → ℕ → HashMap (List ℕ) ℕ S → HashSet (List ℕ) T → Type 0
HasRoomBy (invariants.Reference from columns to) n tallies broken = (n ≤ hash.spare tallies) × (hash.hash_map_len tallies + 3 * n ≤ bag.hash_set_len broken + bag.spare broken)
HasRoomBy (invariants.Unique r columns) n tallies broken = (n ≤ hash.spare tallies) × (n ≤ bag.spare broken)
HasRoomBy (invariants.Low c limit) n tallies broken = (n ≤ hash.spare tallies) × (n ≤ bag.spare broken)
HasRoomBy (invariants.High c limit) n tallies broken = (n ≤ hash.spare tallies) × (n ≤ bag.spare broken)

abbrev pub HasRoomIn : ℕ → Watch → Type 0
HasRoomIn n w = HasRoomBy w.invariant n w.tallies w.broken

-- each is a watch of the state
abbrev pub AreWatches : State → List Watch → Type 0
AreWatches s watches = (i : ℕ) (w : Watch) → slice_get watches i ≡ Some w → IsWatch s w

-- each has room for so many steps
abbrev pub HaveRoom : ℕ → List Watch → Type 0
HaveRoom n watches = (i : ℕ) (w : Watch) → slice_get watches i ≡ Some w → HasRoomIn n w

-- what is kept beside the content is exact, and there is room
pub record AreSound {S T : Type 0} (facts : HashSet FactKey S) (amounts : HashMap Spot ℤ T) (watches : List Watch) (sieves : List Sieve) (room : ℕ) : Type 0 where
  pub watched : AreWatches (content facts amounts) watches
  pub sieved : AreSieves (content facts amounts) sieves
  pub room_facts : room ≤ bag.spare facts
  pub room_amounts : room ≤ hash.spare amounts
  pub room_watches : HaveRoom room watches
  pub room_sieves : AllHaveSeats room sieves
