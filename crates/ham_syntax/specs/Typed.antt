-- What the types of an object's values keep: names are names, and limits and constants have 64 bits.
use Rattle.std.specs.Prelude.{◌^◌, ◌<◌, ℤ, pos, negsuc, List, IsTrue, Option, Some, None}
use Rattle.std.specs.List.{AllByRecursion}
use Rattle.ham_syntax.specs.declared.object.Invariant.{Invariant}
use Rattle.ham_syntax.specs.declared.object.Invariant.TheVariants as invariants
use Rattle.ham_syntax.specs.declared.object.Guard.{Guard}
use Rattle.ham_syntax.specs.declared.object.Guard.TheVariants as guards
use Rattle.ham_syntax.specs.declared.object.Effect.{Effect}
use Rattle.ham_syntax.specs.declared.object.Effect.TheVariants as effects
use Rattle.ham_syntax.specs.declared.object.Method.{Method}
use Rattle.ham_syntax.specs.declared.term.Term.{Term}
use Rattle.ham_syntax.specs.declared.term.Term.TheVariants as terms
use Rattle.ham_syntax.specs.Names.{is_name}
use Rattle.ham_syntax.specs.Objects.{Schema}

-- a number of 64 bits, with a sign
abbrev pub IsLimit : ℤ → Type 0
IsLimit (pos n) = n < 2 ^ 63
IsLimit (negsuc n) = n < 2 ^ 63

-- a constant has 64 bits
abbrev pub IsTypedTerm : Term → Type 0
IsTypedTerm (terms.Param p) = Unit {0}
IsTypedTerm (terms.Const n) = n < 2 ^ 64
IsTypedTerm terms.Any = Unit {0}

abbrev pub AreTyped : List Term → Type 0
AreTyped ts = AllByRecursion IsTypedTerm ts

abbrev pub IsTypedKey : Option Term → Type 0
IsTypedKey None = Unit {0}
IsTypedKey (Some key) = IsTypedTerm key

abbrev pub IsTypedGuard : Guard → Type 0
IsTypedGuard (guards.Present r ts) = AreTyped ts
IsTypedGuard (guards.Absent r ts) = AreTyped ts
IsTypedGuard (guards.AtLeast c key amount) = IsTypedKey key × IsTypedTerm amount
IsTypedGuard (guards.AtMost c key amount) = IsTypedKey key × IsTypedTerm amount

abbrev pub IsTypedEffect : Effect → Type 0
IsTypedEffect (effects.Insert r ts) = AreTyped ts
IsTypedEffect (effects.Delete r ts) = AreTyped ts
IsTypedEffect (effects.Add c key amount) = IsTypedKey key × IsTypedTerm amount
IsTypedEffect (effects.Subtract c key amount) = IsTypedKey key × IsTypedTerm amount

abbrev pub IsTypedInvariant : Invariant → Type 0
IsTypedInvariant (invariants.Reference from columns to) = Unit {0}
IsTypedInvariant (invariants.Unique r columns) = Unit {0}
IsTypedInvariant (invariants.Low c limit) = IsLimit limit
IsTypedInvariant (invariants.High c limit) = IsLimit limit

pub record IsTypedMethod (m : Method) : Type 0 where
  pub named : IsTrue (is_name m.name)
  pub params : AllByRecursion (λ p. IsTrue (is_name p.name)) m.params
  pub guards : AllByRecursion IsTypedGuard m.guards
  pub effects : AllByRecursion IsTypedEffect m.effects

pub record IsTyped (o : Schema) : Type 0 where
  pub relations : AllByRecursion (λ r. IsTrue (is_name r.name)) o.relations
  pub counters : AllByRecursion (λ c. IsTrue (is_name c.name)) o.counters
  pub invariants : AllByRecursion IsTypedInvariant o.invariants
  pub methods : AllByRecursion IsTypedMethod o.methods
