-- What a case shows.
--     Breaks           for the state and the acts, the claim's relation has true premises and a false conclusion
--     IsShown          what is shown of it
--     IsFirst          the first of a list with a property
--     IsFirstExample   the first case in order that breaks the relation, with what it shows
use Rattle.std.specs.Prelude.{◌≡◌, ◌≢◌, ℕ, List, ◌∷◌, ◌++◌, Option, Some, None}
use Rattle.std.specs.List.{AllByRecursion}
use Rattle.ham_syntax.specs.declared.act.Act.{Act}
use Rattle.ham_syntax.specs.Objects.{Schema}
use Rattle.ham_steps.specs.Content.{State}
use Rattle.ham_meaning.specs.Meaning.{update, AllHold, IsPermissible, IsOutcome}
use Rattle.ham_meaning.specs.Relations.{IsActOf}
use Rattle.ham_meaning.specs.OfObjects.{HasColumns, meaning}
use Rattle.ham_syntax.specs.Objects.{columns_of}
use Rattle.ham_rules.specs.declared.claim.Claim.{Claim}
use Rattle.ham_rules.specs.declared.claim.Claim.TheVariants.{Sc, Is, Pr, Pl}
use Rattle.ham_rules.specs.Claims.{Derivable}
use Rattle.ham_witness.specs.declared.answers.Example.{Example}
use Rattle.ham_witness.specs.declared.answers.Shown.{Shown}
use Rattle.ham_witness.specs.declared.answers.Shown.TheVariants as shown
use Rattle.ham_witness.specs.declared.answers.NoExample.{NoExample}
use Rattle.ham_witness.specs.declared.answers.NoExample.TheVariants as causes
use Rattle.ham_witness.specs.Cases.{Case, cases}

-- ---- a relation with true premises and a false conclusion, for one state and acts

-- acts of m and n that fit, in a well-formed state, give two states in the two orders
pub record BreaksStateCommute (o : Schema) (m n : ℕ) (s : State) (a b : Act) : Type 0 where
  pub first : IsActOf (meaning o) m a
  pub second : IsActOf (meaning o) n b
  pub well_formed : HasColumns (columns_of o) s
  pub differ : update o a (update o b s) ≢ update o b (update o a s)

-- an act of m that fits isn't permissible in a well-formed state that satisfies the invariant
pub record BreaksInvariantSufficient (o : Schema) (m : ℕ) (s : State) (a : Act) : Type 0 where
  pub first : IsActOf (meaning o) m a
  pub well_formed : HasColumns (columns_of o) s
  pub invariant : AllHold o s
  pub impermissible : ¬ IsPermissible o s a

-- an act of m that is permissible isn't so after a permissible act of n
pub record BreaksPermissibleRight (o : Schema) (m n : ℕ) (s : State) (a b : Act) : Type 0 where
  pub first : IsActOf (meaning o) m a
  pub second : IsActOf (meaning o) n b
  pub well_formed : HasColumns (columns_of o) s
  pub invariant : AllHold o s
  pub permissible : IsPermissible o s a
  pub other_permissible : IsPermissible o s b
  pub impermissible : ¬ IsPermissible o (update o b s) a

-- an act of m that is permissible after a permissible act of n isn't so before it
pub record BreaksPermissibleLeft (o : Schema) (m n : ℕ) (s : State) (a b : Act) : Type 0 where
  pub first : IsActOf (meaning o) m a
  pub second : IsActOf (meaning o) n b
  pub well_formed : HasColumns (columns_of o) s
  pub invariant : AllHold o s
  pub other_permissible : IsPermissible o s b
  pub permissible : IsPermissible o (update o b s) a
  pub impermissible : ¬ IsPermissible o s a

abbrev pub BreaksBy : Schema → Claim → State → Act → Option Act → Type 0
BreaksBy o (Sc m n) s a (Some b) = BreaksStateCommute o m n s a b
BreaksBy o (Pr m n) s a (Some b) = BreaksPermissibleRight o m n s a b
BreaksBy o (Pl m n) s a (Some b) = BreaksPermissibleLeft o m n s a b
BreaksBy o (Is m) s a b = BreaksInvariantSufficient o m s a
BreaksBy o (Sc m n) s a None = ⊥
BreaksBy o (Pr m n) s a None = ⊥
BreaksBy o (Pl m n) s a None = ⊥

abbrev pub Breaks : Schema → Claim → Case → Type 0
Breaks o claim case = BreaksBy o claim case.state case.m case.n

-- ---- what is shown

-- the state at which the conclusion asks for m's act
abbrev pub asked : Schema → Claim → State → Option Act → State
asked o (Pr m n) s (Some b) = update o b s
asked o (Pr m n) s None = s
asked o (Sc m n) s b = s
asked o (Is m) s b = s
asked o (Pl m n) s b = s

-- of a sc that the states differ, and else the outcome of m's act where the conclusion fails
abbrev pub IsShownBy : Schema → Claim → State → Act → Option Act → Shown → Type 0
IsShownBy o (Sc m n) s a b shown.Unequal = Unit {0}
IsShownBy o (Sc m n) s a b (shown.Outcome outcome) = ⊥
IsShownBy o (Is m) s a b shown.Unequal = ⊥
IsShownBy o (Pr m n) s a b shown.Unequal = ⊥
IsShownBy o (Pl m n) s a b shown.Unequal = ⊥
IsShownBy o (Is m) s a b (shown.Outcome outcome) = IsOutcome o (asked o (Is m) s b) a outcome
IsShownBy o (Pr m n) s a b (shown.Outcome outcome) = IsOutcome o (asked o (Pr m n) s b) a outcome
IsShownBy o (Pl m n) s a b (shown.Outcome outcome) = IsOutcome o (asked o (Pl m n) s b) a outcome

-- the act isn't permissible, and this is its outcome
abbrev pub IsWhyNot : Schema → State → Act → Shown → Type 0
IsWhyNot o s a shown.Unequal = ⊥
IsWhyNot o s a (shown.Outcome outcome) = IsOutcome o s a outcome × (¬ IsPermissible o s a)

-- something is shown, or the relation isn't broken
abbrev pub Shows : Schema → Claim → State → Act → Option Act → Option Shown → Type 0
Shows o claim s a b None = ¬ BreaksBy o claim s a b
Shows o claim s a b (Some what) = BreaksBy o claim s a b × IsShownBy o claim s a b what

-- ---- the first

-- x is in the list with the property, and none before it has it
pub record IsFirst {A : Type 0} (P : A → Type 0) (xs : List A) (x : A) : Type 0 where
  pub before : List A
  pub after : List A
  pub split : xs ≡ before ++ x ∷ after
  pub none : AllByRecursion (λ y. ¬ P y) before
  pub here : P x

abbrev pub case_of_example : Example → Case
case_of_example e = record { state = e.state.content; m = e.m; n = e.n }

-- the first case in order that breaks the relation, with what it shows; its state is one of the object's
pub record IsFirstExample (o : Schema) (claim : Claim) (all : List Case) (e : Example) : Type 0 where
  pub first : IsFirst (Breaks o claim) all (case_of_example e)
  pub shown : IsShownBy o claim e.state.content e.m e.n e.shown
  pub opened : e.state.invariants ≡ o.invariants

-- no case breaks the relation
abbrev pub NoneBreaks : Schema → Claim → List Case → Type 0
NoneBreaks o claim all = AllByRecursion (λ case. ¬ Breaks o claim case) all

-- why there is no example
abbrev pub IsCause : Schema → Claim → NoExample → Type 0
IsCause o claim causes.Derivable = Derivable o claim
IsCause o claim causes.NotShown = (¬ Derivable o claim) × NoneBreaks o claim (cases o claim)
IsCause o claim causes.NoMemory = Unit {0}

-- the state satisfies the invariant where the claim isn't sc
abbrev pub HoldsUnlessSc : Schema → Claim → State → Type 0
HoldsUnlessSc o (Sc m n) s = Unit {0}
HoldsUnlessSc o (Is m) s = AllHold o s
HoldsUnlessSc o (Pr m n) s = AllHold o s
HoldsUnlessSc o (Pl m n) s = AllHold o s
