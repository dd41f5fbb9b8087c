-- The boxes of a node, as they are held.
use Rattle.std.specs.Prelude.{ℕ, ◌≤◌, List, map}
use Rattle.std.specs.List.{AllByRecursion}
use Rattle.std.specs.declared.collections.VecDeque.{VecDeque}
use Rattle.std.specs.Global.{Global}
use Rattle.ham_journal.specs.declared.limits.TheConstants.{MAX_WAITING}
use Rattle.ham_core.specs.declared.waiting.Waiting.{Waiting}

abbrev pub Queue : Type 0
Queue = VecDeque Waiting Global

abbrev pub lists_of : List Queue → List (List Waiting)
lists_of held = map (λ q. q.items) held

-- all the room was taken
abbrev pub AreRoomy : List Queue → Type 0
AreRoomy held = AllByRecursion (λ q. MAX_WAITING ≤ q.cap) held
