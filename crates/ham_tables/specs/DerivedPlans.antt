-- The plan that the rules derive from an object.
--     conflict_of       two methods conflict: the rules don't derive that they concur
--     depends_of        a method depends on another: the rules don't derive that it needn't
--     Derived           an object's conflicts and dependencies, as tables
--     IsDerivedPlan     a plan of these conflicts and dependencies
use Rattle.std.specs.Prelude.{◌≡◌, ℕ, ◌<◌, ◌≤◌, Bool, List, not, ◌&&◌, ◌||◌, length}
use Rattle.ham_syntax.specs.Objects.{Schema}
use Rattle.ham_rules.specs.declared.claim.Claim.TheVariants.{Sc, Is, Pr, Pl}
use Rattle.ham_rules.specs.Derivations.{is_derivable}
use Rattle.ham_plan.specs.Plans.{Plan, IsPlan, among, conflicts, depends_on}
use Rattle.ham_plan.specs.Grids.{cell}
use Rattle.ham_syntax.specs.declared.limits.TheConstants.{MAX_METHODS}

-- acts of m are derived to stay permissible after acts of n
abbrev pub stays : Schema → ℕ → ℕ → Bool
stays o m n = is_derivable o (Is m) || is_derivable o (Pr m n)

-- acts of m and n are derived to commute, and to stay permissible after each other
abbrev pub concur : Schema → ℕ → ℕ → Bool
concur o m n = is_derivable o (Sc m n) && (stays o m n && stays o n m)

-- the two methods don't concur
unfoldable pub conflict_of : Schema → ℕ → ℕ → Bool
conflict_of o m n = not (concur o m n)

-- an act of m isn't derived to have been permissible before an act of n
unfoldable pub depends_of : Schema → ℕ → ℕ → Bool
depends_of o m n = not (is_derivable o (Is m) || is_derivable o (Pl m n))

-- which methods conflict, and which depend on which
pub record Derived : Type 0 where
  pub methods : ℕ
  pub conflict : List (List Bool)
  pub depends : List (List Bool)

-- the tables are those of the object
pub record IsDerived (o : Schema) (d : Derived) : Type 0 where
  pub methods : d.methods ≡ length o.methods
  pub conflict : (m n : ℕ) → m < length o.methods → n < length o.methods → cell d.conflict m n ≡ conflict_of o m n
  pub depends : (m n : ℕ) → m < length o.methods → n < length o.methods → cell d.depends m n ≡ depends_of o m n

-- what tables keep, of whatever object they are
pub record AreTables (d : Derived) : Type 0 where
  pub few_methods : d.methods ≤ MAX_METHODS
  pub symmetric : (m n : ℕ) → among d.methods d.conflict m n ≡ among d.methods d.conflict n m

pub record IsDerivedPlan (o : Schema) (p : Plan) : Type 0 where
  pub plan : IsPlan p
  pub methods : p.methods ≡ length o.methods
  pub conflict : (m n : ℕ) → m < length o.methods → n < length o.methods → conflicts p m n ≡ conflict_of o m n
  pub depends : (m n : ℕ) → m < length o.methods → n < length o.methods → depends_on p m n ≡ depends_of o m n
