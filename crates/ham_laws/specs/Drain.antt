-- What a turn logs: the reach of a log, and the drain that lists it.
use Rattle.std.specs.Prelude.{◌≡◌, ◌≢◌, ◌⊎◌, ◌++◌, ◌↔◌, ◌≤◌, List, [], ◌∷◌}
use Rattle.ham_syntax.specs.declared.act.Place.{Place}
use Rattle.ham_meaning.specs.Relations.{Meaning}
use Rattle.ham_plan.specs.Lists.{In, Within, StartsWith, SameCalls}
use Rattle.ham_laws.specs.Executions.{Constraints, Execution, Needs, IsClosed}

-- the least set that holds the log (with the decided call at its end), and each delivered call whose needs are all in the set
pub data InReach {C : Type 0} (m : Meaning) (p : Constraints) (e : Execution C m.Act) (log delivered : List C) : C → Type 0 where
  Logged : {c : C} → In c log → InReach m p e log delivered c
  Delivered : {c : C} → In c delivered → ((n : C) → Needs m p e c n → InReach m p e log delivered n) → InReach m p e log delivered c

-- a delivered call that may be logged next
pub record IsWaiting {C : Type 0} (m : Meaning) (p : Constraints) (e : Execution C m.Act) (log delivered : List C) (c : C) : Type 0 where
  pub came : In c delivered
  pub new : In c log → ⊥
  pub needs : (n : C) → Needs m p e c n → In n log

-- from the first log to the second: the call of the least lane that may be logged, again and again until there is none
pub data Drains {C : Type 0} (m : Meaning) (p : Constraints) (e : Execution C m.Act) (delivered : List C) : List C → List C → Type 0 where
  Settled : {log : List C} → ((c : C) → IsWaiting m p e log delivered c → ⊥) → Drains m p e delivered log log
  Next : {log after : List C} (c : C) → IsWaiting m p e log delivered c →
      ((d : C) → IsWaiting m p e log delivered d → e.lane c ≤ e.lane d) →
      Drains m p e delivered (log ++ c ∷ []) after → Drains m p e delivered log after

-- from the first log to the second: calls that may be logged, one after another, and then it stops, whatever is left
pub data LogsWaiting {C : Type 0} (m : Meaning) (p : Constraints) (e : Execution C m.Act) (delivered : List C) : List C → List C → Type 0 where
  Stop : {log : List C} → LogsWaiting m p e delivered log log
  Log : {log after : List C} (c : C) → IsWaiting m p e log delivered c → LogsWaiting m p e delivered (log ++ c ∷ []) after → LogsWaiting m p e delivered log after

-- from each log there is a drain
abbrev pub DrainsExist : Meaning → Type 0
DrainsExist m =
    (p : Constraints) (e : Execution Place m.Act) (delivered log : List Place) → (after : List Place) × Drains m p e delivered log after

-- of two calls of one lane, the replica of one had logged the other
abbrev pub LanesOrdered : {C A : Type 0} → Execution C A → Type 0
LanesOrdered {C} e =
    (c d : C) → In c e.decided → In d e.decided → c ≢ d → e.lane c ≡ e.lane d → In c (e.before d) ⊎ In d (e.before c)

-- a drain lists exactly the reach after what was logged, leaves a closed log closed, and where lanes are ordered it leaves one log, in whatever order the calls came
abbrev pub DrainsReach : Meaning → Type 0
DrainsReach m =
    (p : Constraints) (e : Execution Place m.Act) (delivered log after : List Place) → Within delivered e.decided →
    Drains m p e delivered log after →
    ((c : Place) → In c after ↔ InReach m p e log delivered c) ×
    (IsClosed m p e log → IsClosed m p e after) ×
    (LanesOrdered e → (reordered other : List Place) → SameCalls delivered reordered → Drains m p e reordered log other → after ≡ other) ×
    StartsWith log after
