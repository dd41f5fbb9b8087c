-- A raw object with its names resolved to numbers. Where a name is unknown or a part has a fault, some value stands.
use Rattle.std.specs.Prelude.{ℕ, List, [], ◌∷◌, map, unwrap_or, Option, Some, None}
use Rattle.ham_syntax.specs.declared.object.Relation.{Relation}
use Rattle.ham_syntax.specs.declared.object.Counter.{Counter}
use Rattle.ham_syntax.specs.declared.object.Param.{Param}
use Rattle.ham_syntax.specs.declared.object.Invariant.{Invariant}
use Rattle.ham_syntax.specs.declared.object.Invariant.TheVariants as invariants
use Rattle.ham_syntax.specs.declared.object.Guard.{Guard}
use Rattle.ham_syntax.specs.declared.object.Guard.TheVariants as guards
use Rattle.ham_syntax.specs.declared.object.Effect.{Effect}
use Rattle.ham_syntax.specs.declared.object.Effect.TheVariants as effects
use Rattle.ham_syntax.specs.declared.object.Method.{Method}
use Rattle.ham_syntax.specs.declared.term.Term.{Term}
use Rattle.ham_syntax.specs.declared.term.Term.TheVariants as terms
use Rattle.ham_check.specs.declared.raw.Verb.{Verb}
use Rattle.ham_check.specs.declared.raw.Verb.TheVariants.{Present, Absent, AtLeast, AtMost, Insert, Delete, Add, Subtract}
use Rattle.ham_check.specs.declared.raw.RawTerm.{RawTerm}
use Rattle.ham_check.specs.declared.raw.RawTerm.TheVariants.{Any, Constant, Named}
use Rattle.ham_check.specs.declared.raw.RawPart.{RawPart}
use Rattle.ham_check.specs.declared.raw.RawInvariant.{RawInvariant}
use Rattle.ham_check.specs.declared.raw.RawInvariant.TheVariants.{Reference, Unique, Low, High}
use Rattle.ham_check.specs.declared.raw.RawMethod.{RawMethod}
use Rattle.ham_check.specs.declared.raw.Raw.{Raw}
use Rattle.ham_syntax.specs.Objects.{Schema}
use Rattle.ham_check.specs.Faults.{relation_place, counter_place, param_place, relation_of}

-- the number of the relation with a name
abbrev pub relation_number : List Relation → List ℕ → ℕ
relation_number relations name = unwrap_or (relation_place relations name) 0

-- the number of the counter with a name
abbrev pub counter_number : List Counter → List ℕ → ℕ
counter_number counters name = unwrap_or (counter_place counters name) 0

-- a parameter by its number, or a constant
abbrev pub resolved_term : List Param → RawTerm → Term
resolved_term params Any = terms.Any
resolved_term params (Constant n) = terms.Const n
resolved_term params (Named name) = terms.Param (unwrap_or (param_place params name) 0)

-- the key, where there are a key and an amount
abbrev pub resolved_key : List Param → List RawTerm → Option Term
resolved_key params [] = None
resolved_key params (amount ∷ []) = None
resolved_key params (key ∷ amount ∷ more) = Some (resolved_term params key)

-- the amount: the only term, or the one after the key
abbrev pub resolved_amount : List Param → List RawTerm → Term
resolved_amount params [] = terms.Any
resolved_amount params (amount ∷ []) = resolved_term params amount
resolved_amount params (key ∷ amount ∷ more) = resolved_term params amount

-- what a part says, if it is of a relation, and if it is of a counter
pub record Meant : Type 0 where
  pub relation : ℕ
  pub terms : List Term
  pub counter : ℕ
  pub key : Option Term
  pub amount : Term

abbrev pub meant : List Relation → List Counter → List Param → RawPart → Meant
meant relations counters params p =
    record {
      relation = relation_number relations p.name;
      terms = map (resolved_term params) p.terms;
      counter = counter_number counters p.name;
      key = resolved_key params p.terms;
      amount = resolved_amount params p.terms;
    }

-- the guard of a verb
abbrev pub guard_of : Verb → Meant → Guard
guard_of Present p = guards.Present p.relation p.terms
guard_of Absent p = guards.Absent p.relation p.terms
guard_of AtLeast p = guards.AtLeast p.counter p.key p.amount
guard_of AtMost p = guards.AtMost p.counter p.key p.amount
guard_of other p = guards.AtLeast p.counter p.key p.amount

-- the effect of a verb
abbrev pub effect_of : Verb → Meant → Effect
effect_of Insert p = effects.Insert p.relation p.terms
effect_of Delete p = effects.Delete p.relation p.terms
effect_of Add p = effects.Add p.counter p.key p.amount
effect_of Subtract p = effects.Subtract p.counter p.key p.amount
effect_of other p = effects.Add p.counter p.key p.amount

-- a guard on the relation or the counter of its name
abbrev pub resolved_guard : List Relation → List Counter → List Param → RawPart → Guard
resolved_guard relations counters params p = guard_of p.verb (meant relations counters params p)

-- an effect on the relation or the counter of its name
abbrev pub resolved_effect : List Relation → List Counter → List Param → RawPart → Effect
resolved_effect relations counters params p = effect_of p.verb (meant relations counters params p)

-- an invariant on the relations or the counter of its names
abbrev pub resolved_invariant : List Relation → List Counter → RawInvariant → Invariant
resolved_invariant relations counters (Reference from columns to) = invariants.Reference (relation_number relations from) columns (relation_number relations to)
resolved_invariant relations counters (Unique r columns) = invariants.Unique (relation_number relations r) columns
resolved_invariant relations counters (Low c limit) = invariants.Low (counter_number counters c) limit
resolved_invariant relations counters (High c limit) = invariants.High (counter_number counters c) limit

-- a method, with its guards and its effects in order
abbrev pub resolved_method : List Relation → List Counter → RawMethod → Method
resolved_method relations counters m =
    record {
      name = m.name;
      params = m.params;
      guards = map (resolved_guard relations counters m.params) m.guards;
      effects = map (resolved_effect relations counters m.params) m.effects;
    }

-- the object, part by part in file order
abbrev pub resolved : Raw → Schema
resolved raw =
    let relations = map relation_of raw.relations in
    record {
      relations = relations;
      counters = raw.counters;
      invariants = map (resolved_invariant relations raw.counters) raw.invariants;
      methods = map (resolved_method relations raw.counters) raw.methods;
    }
