-- The faults of a raw object: all of them, in order. Sections, entries and parts are walked in order, and each entry
-- is tested beside the entries before it.
use Rattle.std.specs.Prelude.{◌≡◌, ℕ, ◌+◌, ◌==◌, nat_le, nat_lt, nat_eq, pos, int_lt, Bool, true, false, not, ◌&&◌, ◌||◌, List, [], ◌∷◌, ◌++◌, map, length, slice_get, position, unwrap_or, Option, Some, None, Result, Ok, Err}
use Rattle.std.specs.List.{list_any}
use Rattle.std.specs.Option.{option_map}
use Rattle.std.specs.Cmp.Lexicographic.{pointwise}
use Rattle.ham_syntax.specs.declared.object.Relation.{Relation}
use Rattle.ham_syntax.specs.declared.object.Counter.{Counter}
use Rattle.ham_syntax.specs.declared.object.Param.{Param}
use Rattle.ham_syntax.specs.declared.object.Kind.{Kind}
use Rattle.ham_syntax.specs.declared.object.Kind.TheVariants.{Id, Amount}
use Rattle.ham_check.specs.declared.raw.Verb.{Verb}
use Rattle.ham_check.specs.declared.raw.Verb.TheVariants.{Present, Absent, AtLeast, AtMost, Insert, Delete, Add, Subtract}
use Rattle.ham_check.specs.declared.raw.RawTerm.{RawTerm}
use Rattle.ham_check.specs.declared.raw.RawTerm.TheVariants.{Any, Constant, Named}
use Rattle.ham_check.specs.declared.raw.RawRelation.{RawRelation}
use Rattle.ham_check.specs.declared.raw.RawPart.{RawPart}
use Rattle.ham_check.specs.declared.raw.RawInvariant.{RawInvariant}
use Rattle.ham_check.specs.declared.raw.RawInvariant.TheVariants.{Reference, Unique, Low, High}
use Rattle.ham_check.specs.declared.raw.RawMethod.{RawMethod}
use Rattle.ham_check.specs.declared.raw.Raw.{Raw}
use Rattle.ham_check.specs.declared.raw.IllKind.{IllKind}
use Rattle.ham_check.specs.declared.raw.IllKind.TheVariants.{TooMany, TwiceNamed, UnknownName, BadArity, WrongKind, AnyNotAllowed, BadColumn, OpeningBroken, SelfReference, AmountTooLarge}
use Rattle.ham_check.specs.declared.raw.IllPlace.{IllPlace}
use Rattle.ham_check.specs.declared.raw.Ill.{Ill}
use Rattle.ham_check.specs.declared.raw.CheckFault.{CheckFault}
use Rattle.ham_check.specs.declared.raw.CheckFault.TheVariants as check
use Rattle.ham_syntax.specs.declared.limits.TheConstants.{MAX_RELATIONS, MAX_COLUMNS, MAX_COUNTERS, MAX_INVARIANTS, MAX_METHODS, MAX_PARAMS, MAX_PARTS}
use Rattle.ham_syntax.specs.Objects.{fits_kind}

-- a fault where the test holds
abbrev pub fault_if : Bool → IllKind → List IllKind
fault_if true kind = kind ∷ []
fault_if false kind = []

-- these faults, at a place
abbrev pub faults_at : IllPlace → List IllKind → List Ill
faults_at at kinds = map (λ kind. record { kind = kind; at = at }) kinds

-- a place by its section, its entry and its part
abbrev pub place : ℕ → ℕ → ℕ → IllPlace
place section entry part = record { section = section; entry = entry; part = part }

-- the faults of a list of entries, each tested beside those before it
abbrev pub entry_faults : {E : Type 0} → (List E → E → List Ill) → List E → List E → List Ill
entry_faults test before [] = []
entry_faults test before (e ∷ es) = test before e ++ entry_faults test (before ++ e ∷ []) es

-- ---- names

-- where the relation with a name stands
abbrev pub relation_place : List Relation → List ℕ → Option ℕ
relation_place relations name = position (λ r. pointwise nat_eq r.name name) relations

-- where the counter with a name stands
abbrev pub counter_place : List Counter → List ℕ → Option ℕ
counter_place counters name = position (λ c. pointwise nat_eq c.name name) counters

-- where the parameter with a name stands
abbrev pub param_place : List Param → List ℕ → Option ℕ
param_place params name = position (λ p. pointwise nat_eq p.name name) params

-- a name is wanted among those of one kind: it is there, or unknown, or it is of the other kind
abbrev pub wanted_ills : Option ℕ → Option ℕ → List IllKind
wanted_ills (Some place) other = []
wanted_ills None (Some place) = WrongKind ∷ []
wanted_ills None None = UnknownName ∷ []

-- the name of a relation, which no counter's is
abbrev pub relation_wanted : List Relation → List Counter → List ℕ → List IllKind
relation_wanted relations counters name = wanted_ills (relation_place relations name) (counter_place counters name)

-- the name of a counter, which no relation's is
abbrev pub counter_wanted : List Relation → List Counter → List ℕ → List IllKind
counter_wanted relations counters name = wanted_ills (counter_place counters name) (relation_place relations name)

-- ---- relations and counters

-- a relation: an entry too many, a name that an earlier one has, and no columns or too many
abbrev pub relation_ills : List RawRelation → RawRelation → List IllKind
relation_ills before r =
    fault_if (length before == MAX_RELATIONS) TooMany ++ (fault_if (list_any (λ b. pointwise nat_eq r.name b.name) before) TwiceNamed ++ fault_if (not (nat_lt 0 r.columns && nat_le r.columns MAX_COLUMNS)) BadArity)

-- the faults of a relation, at its place
abbrev pub relation_faults : List RawRelation → RawRelation → List Ill
relation_faults before r = faults_at (place 1 (length before + 1) 0) (relation_ills before r)

-- the relation that is written so
abbrev pub relation_of : RawRelation → Relation
relation_of r = record { name = r.name; columns = r.columns }

-- a counter: an entry too many, and a name that a relation or an earlier counter has
abbrev pub counter_ills : List Relation → List Counter → Counter → List IllKind
counter_ills relations before c =
    fault_if (length before == MAX_COUNTERS) TooMany ++ fault_if (list_any (λ r. pointwise nat_eq c.name r.name) relations || list_any (λ b. pointwise nat_eq c.name b.name) before) TwiceNamed

-- the faults of a counter, at its place
abbrev pub counter_faults : List Relation → List Counter → Counter → List Ill
counter_faults relations before c = faults_at (place 2 (length before + 1) 0) (counter_ills relations before c)

-- ---- invariants

-- the columns of the relation at a place
abbrev pub width_at : List Relation → ℕ → ℕ
width_at relations place = unwrap_or (option_map (λ r. r.columns) (slice_get relations place)) 0

-- a column that is 0, above the relation's columns, or listed before
abbrev pub is_bad_column : ℕ → List ℕ → ℕ → Bool
is_bad_column width before c = (c == 0) || (nat_lt width c || list_any (λ b. c == b) before)

-- some column is bad, beside those before it
abbrev pub has_bad_column : ℕ → List ℕ → List ℕ → Bool
has_bad_column width before [] = false
has_bad_column width before (c ∷ cs) = is_bad_column width before c || has_bad_column width (before ++ c ∷ []) cs

-- a reference between relations that are there: to another one, by as many columns as that has, which are columns of the first
abbrev pub reference_ills : List Relation → Option ℕ → List ℕ → Option ℕ → List IllKind
reference_ills relations (Some from) columns (Some to) =
    fault_if (from == to) SelfReference
    ++ (fault_if (not (length columns == width_at relations to)) BadArity ++ fault_if (has_bad_column (width_at relations from) [] columns) BadColumn)
reference_ills relations (Some from) columns None = []
reference_ills relations None columns to = []

-- some columns of a relation that is there
abbrev pub unique_ills : List Relation → Option ℕ → List ℕ → List IllKind
unique_ills relations (Some r) columns = fault_if (length columns == 0) BadArity ++ fault_if (has_bad_column (width_at relations r) [] columns) BadColumn
unique_ills relations None columns = []

-- what an invariant names is to be there; columns are to fit, and 0 to be within a limit
abbrev pub form_ills : List Relation → List Counter → RawInvariant → List IllKind
form_ills relations counters (Reference from columns to) =
    relation_wanted relations counters from ++ (relation_wanted relations counters to ++ reference_ills relations (relation_place relations from) columns (relation_place relations to))
form_ills relations counters (Unique r columns) = relation_wanted relations counters r ++ unique_ills relations (relation_place relations r) columns
form_ills relations counters (Low c limit) = counter_wanted relations counters c ++ fault_if (int_lt (pos 0) limit) OpeningBroken
form_ills relations counters (High c limit) = counter_wanted relations counters c ++ fault_if (int_lt limit (pos 0)) OpeningBroken

-- an invariant: an entry too many, and then by its form
abbrev pub invariant_ills : List Relation → List Counter → List RawInvariant → RawInvariant → List IllKind
invariant_ills relations counters before i = fault_if (length before == MAX_INVARIANTS) TooMany ++ form_ills relations counters i

-- the faults of an invariant, at its place
abbrev pub invariant_faults : List Relation → List Counter → List RawInvariant → RawInvariant → List Ill
invariant_faults relations counters before i = faults_at (place 3 (length before + 1) 0) (invariant_ills relations counters before i)

-- ---- terms

-- whether two kinds are one
abbrev pub same_kind : Kind → Kind → Bool
same_kind Id Id = true
same_kind Id Amount = false
same_kind Amount Id = false
same_kind Amount Amount = true

-- the kind that is wanted against that of the parameter with the name, if there is one
abbrev pub param_ills : Kind → Option Param → List IllKind
param_ills kind None = UnknownName ∷ []
param_ills kind (Some p) = fault_if (not (same_kind kind p.kind)) WrongKind

-- the parameter with a name
abbrev pub param_at : List Param → Option ℕ → Option Param
param_at params None = None
param_at params (Some place) = slice_get params place

-- a term, as a key or as an amount
abbrev pub term_ills : Kind → List Param → RawTerm → List IllKind
term_ills kind params Any = AnyNotAllowed ∷ []
term_ills kind params (Constant n) = fault_if (not (fits_kind kind n)) AmountTooLarge
term_ills kind params (Named name) = param_ills kind (param_at params (param_place params name))

-- the terms of a part: for a keyed counter a key and an amount, for a plain one an amount
abbrev pub terms_ills : Bool → List Param → List RawTerm → List IllKind
terms_ills true params (key ∷ amount ∷ []) = term_ills Id params key ++ term_ills Amount params amount
terms_ills false params (amount ∷ []) = term_ills Amount params amount
terms_ills keyed params terms = BadArity ∷ []

-- a term as an id; where any is allowed, `_` too
abbrev pub id_ills : Bool → List Param → RawTerm → List IllKind
id_ills any params Any = fault_if (not any) AnyNotAllowed
id_ills any params (Constant n) = []
id_ills any params (Named name) = param_ills Id (param_at params (param_place params name))

-- each term from the left, as an id
abbrev pub ids_ills : Bool → List Param → List RawTerm → List IllKind
ids_ills any params [] = []
ids_ills any params (t ∷ ts) = id_ills any params t ++ ids_ills any params ts

-- ---- guards and effects

-- the counter at a place, if there is one
abbrev pub counter_at : List Counter → Option ℕ → Option Counter
counter_at counters None = None
counter_at counters (Some place) = slice_get counters place

-- the terms on a counter that is there
abbrev pub on_counter_ills : List Param → List RawTerm → Option Counter → List IllKind
on_counter_ills params terms None = []
on_counter_ills params terms (Some c) = terms_ills c.keyed params terms

-- a counter, and the terms on it
abbrev pub counter_part_ills : List Relation → List Counter → List Param → RawPart → List IllKind
counter_part_ills relations counters params p = counter_wanted relations counters p.name ++ on_counter_ills params p.terms (counter_at counters (counter_place counters p.name))

-- the terms on a relation that is there: as many as it has columns, and each an id
abbrev pub on_relation_ills : Bool → List Relation → List Param → List RawTerm → Option ℕ → List IllKind
on_relation_ills any relations params terms None = []
on_relation_ills any relations params terms (Some place) = fault_if (not (length terms == width_at relations place)) BadArity ++ ids_ills any params terms

-- a relation, and the terms on it
abbrev pub relation_part_ills : Bool → List Relation → List Counter → List Param → RawPart → List IllKind
relation_part_ills any relations counters params p = relation_wanted relations counters p.name ++ on_relation_ills any relations params p.terms (relation_place relations p.name)

-- what a verb is about, and its terms: only an insert allows no `_`
abbrev pub verb_ills : Verb → List Relation → List Counter → List Param → RawPart → List IllKind
verb_ills Present = relation_part_ills true
verb_ills Absent = relation_part_ills true
verb_ills Insert = relation_part_ills false
verb_ills Delete = relation_part_ills true
verb_ills AtLeast = counter_part_ills
verb_ills AtMost = counter_part_ills
verb_ills Add = counter_part_ills
verb_ills Subtract = counter_part_ills

-- a verb of the guards
abbrev pub is_guard_verb : Verb → Bool
is_guard_verb Present = true
is_guard_verb Absent = true
is_guard_verb AtLeast = true
is_guard_verb AtMost = true
is_guard_verb Insert = false
is_guard_verb Delete = false
is_guard_verb Add = false
is_guard_verb Subtract = false

-- a verb of the effects
abbrev pub is_effect_verb : Verb → Bool
is_effect_verb verb = not (is_guard_verb verb)

-- a guard or an effect: its verb, then its relation or counter, then its terms
abbrev pub part_ills : (Verb → Bool) → List Relation → List Counter → List Param → RawPart → List IllKind
part_ills is_verb relations counters params p = fault_if (not (is_verb p.verb)) WrongKind ++ verb_ills p.verb relations counters params p

-- the guards are the parts from 1 on
abbrev pub guard_faults : List Relation → List Counter → ℕ → List Param → List RawPart → RawPart → List Ill
guard_faults relations counters entry params before p = faults_at (place 4 entry (length before + 1)) (part_ills is_guard_verb relations counters params p)

-- the effects are the parts after the last place of a guard
abbrev pub effect_faults : List Relation → List Counter → ℕ → List Param → List RawPart → RawPart → List Ill
effect_faults relations counters entry params before p = faults_at (place 4 entry (length before + MAX_PARTS + 1)) (part_ills is_effect_verb relations counters params p)

-- ---- methods

-- two parameters have one name
abbrev pub has_twins : List Param → Bool
has_twins [] = false
has_twins (p ∷ ps) = list_any (λ q. pointwise nat_eq p.name q.name) ps || has_twins ps

-- what a method has too many of, or twice
abbrev pub shape_ills : RawMethod → List IllKind
shape_ills m =
    fault_if (nat_lt MAX_PARAMS (length m.params)) TooMany ++ (fault_if (has_twins m.params) TwiceNamed ++ (fault_if (nat_lt MAX_PARTS (length m.guards)) TooMany ++ fault_if (nat_lt MAX_PARTS (length m.effects)) TooMany))

-- a method itself: an entry too many, a name that an earlier one has, and its shape
abbrev pub method_ills : List RawMethod → RawMethod → List IllKind
method_ills before m = fault_if (length before == MAX_METHODS) TooMany ++ (fault_if (list_any (λ b. pointwise nat_eq m.name b.name) before) TwiceNamed ++ shape_ills m)

-- its guards and then its effects
abbrev pub parts_faults : List Relation → List Counter → ℕ → RawMethod → List Ill
parts_faults relations counters entry m =
    entry_faults (guard_faults relations counters entry m.params) [] m.guards ++ entry_faults (effect_faults relations counters entry m.params) [] m.effects

-- a method: itself, and then its parts
abbrev pub method_faults : List Relation → List Counter → List RawMethod → RawMethod → List Ill
method_faults relations counters before m =
    faults_at (place 4 (length before + 1) 0) (method_ills before m) ++ parts_faults relations counters (length before + 1) m

-- ---- objects

-- the faults of an object
abbrev pub faults : Raw → List Ill
faults raw =
    let relations = map relation_of raw.relations in
    entry_faults relation_faults [] raw.relations
    ++ (entry_faults (counter_faults relations) [] raw.counters
    ++ (entry_faults (invariant_faults relations raw.counters) [] raw.invariants
    ++ entry_faults (method_faults relations raw.counters) [] raw.methods))

-- the value where there is no fault, and else the first fault
abbrev pub first_fault_or : {F A : Type 0} → List F → A → Result A F
first_fault_or [] value = Ok value
first_fault_or (fault ∷ faults) value = Err fault

-- the same answer, where a fault has its place
abbrev pub placed : {A : Type 0} → IllPlace → Result A IllKind → Result A CheckFault
placed at (Ok answer) = Ok answer
placed at (Err kind) = Err (check.Ill (record { kind = kind; at = at }))

-- an answer is the value exactly where there is no fault, and else the first fault; memory may run out
abbrev pub Checks : {A : Type 0} → List Ill → A → Result A CheckFault → Type 0
Checks faults value (Ok answer) = (faults ≡ []) × (answer ≡ value)
Checks faults value (Err (check.Ill fault)) = slice_get faults 0 ≡ Some fault
Checks faults value (Err check.NoMemory) = Unit {0}
