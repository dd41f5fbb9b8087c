-- Readiness by number and dependency counts. A slot is the calls of one method in one lane.
use Rattle.std.specs.Prelude.{◌≡◌, ◌↔◌, ℕ, ◌+◌, ◌≤◌, Bool, true, ◌&&◌, ◌==◌, List, count_by}
use Rattle.ham_syntax.specs.declared.act.Place.{Place}
use Rattle.ham_meaning.specs.Relations.{Meaning}
use Rattle.ham_plan.specs.Lists.{In}
use Rattle.ham_laws.specs.Executions.{Constraints, Execution, IsClosed, IsWellCoordinated, method_of}
use Rattle.ham_laws.specs.Drain.{IsWaiting, LanesOrdered}

-- the call is in the lane
abbrev pub of_lane : {C A : Type 0} → Execution C A → ℕ → C → Bool
of_lane e lane c = e.lane c == lane

-- the call is in the slot
abbrev pub of_slot : {C : Type 0} (m : Meaning) → Execution C m.Act → ℕ → ℕ → C → Bool
of_slot m e method lane c = (e.lane c == lane) && (method_of m e c == method)

-- the call's number is the next of its lane, and of each slot it depends on the log has as many calls as its replica had
pub record IsReadyByCounts {C : Type 0} (m : Meaning) (p : Constraints) (e : Execution C m.Act) (number : C → ℕ) (log : List C) (c : C) : Type 0 where
  pub next : number c ≡ count_by (of_lane e (e.lane c)) log + 1
  pub counts : (method lane : ℕ) → p.depends (method_of m e c) method ≡ true →
      count_by (of_slot m e method lane) (e.before c) ≤ count_by (of_slot m e method lane) log

-- a call's number is one more than the calls of its lane that its replica had logged
abbrev pub IsNumbered : {C A : Type 0} → Execution C A → (C → ℕ) → Type 0
IsNumbered {C} e number = (c : C) → In c e.decided → number c ≡ count_by (of_lane e (e.lane c)) (e.before c) + 1

-- calls of methods that conflict are in one lane
abbrev pub ConflictsShareLanes : {C : Type 0} (m : Meaning) → Constraints → Execution C m.Act → Type 0
ConflictsShareLanes {C} m p e =
    (c d : C) → In c e.decided → In d e.decided → p.conflict (method_of m e c) (method_of m e d) ≡ true → e.lane c ≡ e.lane d

-- a call is ready by number and counts exactly where it is new and its needs are logged
abbrev pub ReadyExactly : Meaning → Type 0
ReadyExactly m =
    (p : Constraints) (e : Execution Place m.Act) (number : Place → ℕ) →
    IsWellCoordinated m p e → LanesOrdered e → ConflictsShareLanes m p e → IsNumbered e number →
    (log : List Place) (c : Place) → IsClosed m p e log → In c e.decided →
    IsReadyByCounts m p e number log c ↔ IsWaiting m p e log e.decided c
