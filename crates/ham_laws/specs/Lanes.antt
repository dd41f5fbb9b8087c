-- What a turn owes, so that the calls of each lane stay ordered and numbered.
use Rattle.std.specs.Prelude.{◌≡◌, ℕ, ◌+◌, List, count_by}
use Rattle.ham_syntax.specs.declared.act.Place.{Place}
use Rattle.ham_meaning.specs.Relations.{Meaning}
use Rattle.ham_plan.specs.Lists.{In}
use Rattle.ham_laws.specs.Executions.{Constraints, Execution, IsWellCoordinated}
use Rattle.ham_laws.specs.Turns.{IsDecision, IsDelivery, IsDrain}
use Rattle.ham_laws.specs.Drain.{LanesOrdered}
use Rattle.ham_laws.specs.Counts.{of_lane, IsNumbered}

-- the replica r that decides c has logged every call of its lane, and the number of c is the next in it
pub record IsNextInLane {C A : Type 0} (e later : Execution C A) (r : ℕ) (c : C) (number : C → ℕ) : Type 0 where
  pub logged : (d : C) → In d e.decided → e.lane d ≡ later.lane c → In d (e.log r)
  pub next : number c ≡ count_by (of_lane e (later.lane c)) e.decided + 1

-- a decision of the next call of a lane keeps lanes ordered and numbered
abbrev pub DecisionsKeepLanes : Meaning → Type 0
DecisionsKeepLanes m =
    (p : Constraints) (e later : Execution Place m.Act) (r : ℕ) (c : Place) (number : Place → ℕ) → IsWellCoordinated m p e →
    IsDecision m p e later r c → IsNextInLane e later r c number → LanesOrdered e → IsNumbered e number →
    LanesOrdered later × IsNumbered later number

-- a drain keeps lanes ordered and numbered
abbrev pub DrainsKeepLanes : Meaning → Type 0
DrainsKeepLanes m =
    (p : Constraints) (e later : Execution Place m.Act) (r : ℕ) (delivered : List Place) (number : Place → ℕ) → IsWellCoordinated m p e →
    IsDrain m p e later r delivered → LanesOrdered e → IsNumbered e number →
    LanesOrdered later × IsNumbered later number

-- whatever is delivered keeps lanes ordered and numbered
abbrev pub DeliveriesKeepLanes : Meaning → Type 0
DeliveriesKeepLanes m =
    (p : Constraints) (e later : Execution Place m.Act) (number : Place → ℕ) → IsWellCoordinated m p e →
    IsDelivery m p e later → LanesOrdered e → IsNumbered e number →
    LanesOrdered later × IsNumbered later number
