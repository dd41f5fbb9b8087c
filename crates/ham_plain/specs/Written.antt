-- A checked object as it is written: names in the place of numbers.
use Rattle.std.specs.Prelude.{ℕ, List, [], ◌∷◌, map, slice_get, unwrap_or, Option, Some, None, option_map}
use Rattle.ham_syntax.specs.declared.object.Relation.{Relation}
use Rattle.ham_syntax.specs.declared.object.Param.{Param}
use Rattle.ham_syntax.specs.declared.object.Invariant.{Invariant}
use Rattle.ham_syntax.specs.declared.object.Invariant.TheVariants as invariants
use Rattle.ham_syntax.specs.declared.object.Guard.{Guard}
use Rattle.ham_syntax.specs.declared.object.Guard.TheVariants as guards
use Rattle.ham_syntax.specs.declared.object.Effect.{Effect}
use Rattle.ham_syntax.specs.declared.object.Effect.TheVariants as effects
use Rattle.ham_syntax.specs.declared.object.Method.{Method}
use Rattle.ham_syntax.specs.declared.term.Term.{Term}
use Rattle.ham_syntax.specs.declared.term.Term.TheVariants as terms
use Rattle.ham_check.specs.declared.raw.Verb.TheVariants as verbs
use Rattle.ham_check.specs.declared.raw.RawTerm.{RawTerm}
use Rattle.ham_check.specs.declared.raw.RawTerm.TheVariants as written
use Rattle.ham_check.specs.declared.raw.RawRelation.{RawRelation}
use Rattle.ham_check.specs.declared.raw.RawPart.{RawPart}
use Rattle.ham_check.specs.declared.raw.RawInvariant.{RawInvariant}
use Rattle.ham_check.specs.declared.raw.RawInvariant.TheVariants as rules_of
use Rattle.ham_check.specs.declared.raw.RawMethod.{RawMethod}
use Rattle.ham_check.specs.declared.raw.Raw.{Raw}
use Rattle.ham_syntax.specs.Objects.{Schema}
use Rattle.ham_plain.specs.Plain.{plain_form}

-- the names of a relation, of a counter and of a parameter, by their numbers
abbrev pub relation_name : Schema → ℕ → List ℕ
relation_name o r = unwrap_or (option_map (λ r. r.name) (slice_get o.relations r)) []

abbrev pub counter_name : Schema → ℕ → List ℕ
counter_name o c = unwrap_or (option_map (λ c. c.name) (slice_get o.counters c)) []

abbrev pub param_name : List Param → ℕ → List ℕ
param_name params p = unwrap_or (option_map (λ p. p.name) (slice_get params p)) []

abbrev pub written_term : List Param → Term → RawTerm
written_term params (terms.Param p) = written.Named (param_name params p)
written_term params (terms.Const n) = written.Constant n
written_term params terms.Any = written.Any

abbrev pub written_terms : List Param → List Term → List RawTerm
written_terms params ts = map (written_term params) ts

-- the key, where there is one, and the amount
abbrev pub written_amount : List Param → Option Term → Term → List RawTerm
written_amount params None amount = written_term params amount ∷ []
written_amount params (Some key) amount = written_term params key ∷ written_term params amount ∷ []

abbrev pub written_guard : Schema → List Param → Guard → RawPart
written_guard o params (guards.Present r ts) = record { verb = verbs.Present; name = relation_name o r; terms = written_terms params ts }
written_guard o params (guards.Absent r ts) = record { verb = verbs.Absent; name = relation_name o r; terms = written_terms params ts }
written_guard o params (guards.AtLeast c key amount) = record { verb = verbs.AtLeast; name = counter_name o c; terms = written_amount params key amount }
written_guard o params (guards.AtMost c key amount) = record { verb = verbs.AtMost; name = counter_name o c; terms = written_amount params key amount }

abbrev pub written_effect : Schema → List Param → Effect → RawPart
written_effect o params (effects.Insert r ts) = record { verb = verbs.Insert; name = relation_name o r; terms = written_terms params ts }
written_effect o params (effects.Delete r ts) = record { verb = verbs.Delete; name = relation_name o r; terms = written_terms params ts }
written_effect o params (effects.Add c key amount) = record { verb = verbs.Add; name = counter_name o c; terms = written_amount params key amount }
written_effect o params (effects.Subtract c key amount) = record { verb = verbs.Subtract; name = counter_name o c; terms = written_amount params key amount }

abbrev pub written_invariant : Schema → Invariant → RawInvariant
written_invariant o (invariants.Reference from columns to) = rules_of.Reference (relation_name o from) columns (relation_name o to)
written_invariant o (invariants.Unique r columns) = rules_of.Unique (relation_name o r) columns
written_invariant o (invariants.Low c limit) = rules_of.Low (counter_name o c) limit
written_invariant o (invariants.High c limit) = rules_of.High (counter_name o c) limit

abbrev pub written_relation : Relation → RawRelation
written_relation r = record { name = r.name; columns = r.columns }

abbrev pub written_method : Schema → Method → RawMethod
written_method o m = record { name = m.name; params = m.params; guards = map (written_guard o m.params) m.guards; effects = map (written_effect o m.params) m.effects }

abbrev pub written_object : Schema → Raw
written_object o = record { relations = map written_relation o.relations; counters = o.counters; invariants = map (written_invariant o) o.invariants; methods = map (written_method o) o.methods }

-- the plain form of an object
unfoldable pub plain_of : Schema → List ℕ
plain_of o = plain_form (written_object o)
