-- The steps of the reordering: a closed list is cut in two, and an act is moved past others.
use Rattle.std.specs.Prelude.{◌⊎◌, ◌++◌, ◌↔◌, ⊤, List, [], ◌∷◌}
use Rattle.ham_syntax.specs.declared.act.Place.{Place}
use Rattle.ham_meaning.specs.Relations.{Meaning, InvariantSufficient, PermissibleRight, PermissibleLeft}
use Rattle.ham_plan.specs.Lists.{In}
use Rattle.ham_laws.specs.Executions.{Constraints, IsSound, Execution, IsClosed, IsWellCoordinated}
use Rattle.ham_laws.specs.Coordinated.{EndAlike}

-- some of a list, in its order
pub data IsPart {X : Type 0} : List X → List X → Type 0 where
  Ended : IsPart [] []
  Taken : {x : X} {part xs : List X} → IsPart part xs → IsPart (x ∷ part) (x ∷ xs)
  Passed : {x : X} {part xs : List X} → IsPart part xs → IsPart part (x ∷ xs)

-- xs in another order: first its calls that stand in ys too, and then the rest, each in the order of xs
pub record Cut {C : Type 0} (m : Meaning) (p : Constraints) (e : Execution C m.Act) (xs ys : List C) : Type 0 where
  pub common : List C
  pub rest : List C
  pub common_exact : (c : C) → In c common ↔ (In c xs × In c ys)
  pub rest_exact : (c : C) → In c rest ↔ (In c xs × (In c ys → ⊥))
  pub common_order : IsPart common xs
  pub rest_order : IsPart rest xs
  pub closed : IsClosed m p e (common ++ rest)

-- of two closed lists, one is cut by the other
abbrev pub CutsClosed : Meaning → Type 0
CutsClosed m =
    (p : Constraints) (e : Execution Place m.Act) (xs ys : List Place) → IsClosed m p e xs → IsClosed m p e ys → Cut m p e xs ys

-- and the list that is cut so ends in the state of the first
abbrev pub CutsEndAlike : Meaning → Type 0
CutsEndAlike m =
    (p : Constraints) (e : Execution Place m.Act) (xs ys : List Place) → IsSound m p → IsWellCoordinated m p e →
    IsClosed m p e xs → IsClosed m p e ys → (cut : Cut m p e xs ys) → EndAlike m e xs (cut.common ++ cut.rest)

-- the state after acts, from s
abbrev pub after_acts : (m : Meaning) → m.State → List m.Act → m.State
after_acts m s [] = s
after_acts m s (a ∷ acts) = after_acts m (m.update a s) acts

-- each act fits, and is permissible at its place from s on
abbrev pub ArePermissible : (m : Meaning) → m.State → List m.Act → Type 0
ArePermissible m s [] = ⊤
ArePermissible m s (a ∷ acts) = m.Fits a × m.Permissible s a × ArePermissible m (m.update a s) acts

-- a is invariant-sufficient, or permissible-left of each of the acts
abbrev pub MayMoveLeft : (m : Meaning) → m.Act → List m.Act → Type 0
MayMoveLeft m a acts = (b : m.Act) → In b acts → InvariantSufficient m (m.method a) ⊎ PermissibleLeft m (m.method a) (m.method b)

-- a is invariant-sufficient, or permissible-right of each of the acts
abbrev pub MayMoveRight : (m : Meaning) → m.Act → List m.Act → Type 0
MayMoveRight m a acts = (b : m.Act) → In b acts → InvariantSufficient m (m.method a) ⊎ PermissibleRight m (m.method a) (m.method b)

-- an act that is permissible after permissible acts that it may move left past was permissible before them
abbrev pub MovesLeft : Meaning → Type 0
MovesLeft m =
    (s : m.State) (a : m.Act) (acts : List m.Act) → m.IsWellFormed s → m.Invariant s → m.Fits a → ArePermissible m s acts →
    MayMoveLeft m a acts → m.Permissible (after_acts m s acts) a → m.Permissible s a

-- an act that is permissible before permissible acts that it may move right past is permissible after them
abbrev pub MovesRight : Meaning → Type 0
MovesRight m =
    (s : m.State) (a : m.Act) (acts : List m.Act) → m.IsWellFormed s → m.Invariant s → m.Fits a → ArePermissible m s acts →
    MayMoveRight m a acts → m.Permissible s a → m.Permissible (after_acts m s acts) a
