-- The laws of well-coordinated executions under a sound plan.
use Rattle.std.specs.Prelude.{◌≡◌, ◌++◌, List, ◌∷◌}
use Rattle.ham_syntax.specs.declared.act.Place.{Place}
use Rattle.ham_meaning.specs.Relations.{Meaning}
use Rattle.ham_plan.specs.Lists.{Within, IsOnceEach, SameCalls}
use Rattle.ham_laws.specs.Executions.{Constraints, IsSound, Execution, IsClosed, IsWellCoordinated, end_of}

-- the lists end in one state
abbrev pub EndAlike : {C : Type 0} (m : Meaning) → Execution C m.Act → List C → List C → Type 0
EndAlike m e xs ys = end_of m e xs ≡ end_of m e ys

-- each call of the list is permissible at its place
abbrev pub IsPermissibleThroughout : {C : Type 0} (m : Meaning) → Execution C m.Act → List C → Type 0
IsPermissibleThroughout {C} m e calls =
    (earlier later : List C) (c : C) → calls ≡ earlier ++ c ∷ later → m.Permissible (end_of m e earlier) (e.act c)

-- the invariant holds after every prefix of the list
abbrev pub HoldsThroughout : {C : Type 0} (m : Meaning) → Execution C m.Act → List C → Type 0
HoldsThroughout {C} m e calls =
    (earlier later : List C) → calls ≡ earlier ++ later → m.Invariant (end_of m e earlier)

-- decided calls, none twice, in any order
abbrev pub IsListing : {C A : Type 0} → Execution C A → List C → Type 0
IsListing e calls = Within calls e.decided × IsOnceEach calls

-- what the laws say of one execution
pub record IsCoordinated {C : Type 0} (m : Meaning) (p : Constraints) (e : Execution C m.Act) : Type 0 where
  pub states_agree : (xs ys : List C) → IsClosed m p e xs → IsClosed m p e ys → SameCalls xs ys → EndAlike m e xs ys
  pub permissible : (xs : List C) → IsClosed m p e xs → IsPermissibleThroughout m e xs
  pub invariant : (xs : List C) → IsClosed m p e xs → HoldsThroughout m e xs

-- closed lists of the same calls end in one state
abbrev pub StatesAgree : Meaning → Type 0
StatesAgree m =
    (p : Constraints) (e : Execution Place m.Act) → IsSound m p → IsWellCoordinated m p e →
    (xs ys : List Place) → IsClosed m p e xs → IsClosed m p e ys → SameCalls xs ys → EndAlike m e xs ys

-- each call of a closed list is permissible at its place
abbrev pub CallsArePermissible : Meaning → Type 0
CallsArePermissible m =
    (p : Constraints) (e : Execution Place m.Act) → IsSound m p → IsWellCoordinated m p e →
    (xs : List Place) → IsClosed m p e xs → IsPermissibleThroughout m e xs

-- the invariant holds after every prefix of a closed list
abbrev pub InvariantHolds : Meaning → Type 0
InvariantHolds m =
    (p : Constraints) (e : Execution Place m.Act) → IsSound m p → IsWellCoordinated m p e →
    (xs : List Place) → IsClosed m p e xs → HoldsThroughout m e xs
