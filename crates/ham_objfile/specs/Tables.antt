-- The TOML table of an object as it is written, and that it is read as the object.
use Rattle.std.specs.Prelude.{◌≡◌, ℕ, pos, Bool, List, [], ◌∷◌, map, codes, Ok}
use Rattle.std.specs.Str.{IsUtf8}
use Rattle.toml.specs.Data.{Data, string, integer, boolean, array, table, Members, no_members, member}
use Rattle.toml.specs.View.{items_of}
use Rattle.toml.specs.Text.{IsDocumentText}
use Rattle.ham_syntax.specs.declared.object.Counter.{Counter}
use Rattle.ham_syntax.specs.declared.object.Param.{Param}
use Rattle.ham_syntax.specs.Objects.{Schema}
use Rattle.ham_syntax.specs.Checked.{IsChecked}
use Rattle.ham_check.specs.declared.raw.RawTerm.{RawTerm}
use Rattle.ham_check.specs.declared.raw.RawRelation.{RawRelation}
use Rattle.ham_check.specs.declared.raw.RawPart.{RawPart}
use Rattle.ham_check.specs.declared.raw.RawInvariant.{RawInvariant}
use Rattle.ham_check.specs.declared.raw.RawInvariant.TheVariants.{Reference, Unique, Low, High}
use Rattle.ham_check.specs.declared.raw.RawMethod.{RawMethod}
use Rattle.ham_check.specs.declared.raw.Raw.{Raw}
use Rattle.ham_plain.specs.Plain.{kind_word, verb_word, term_word, IsProper}
use Rattle.ham_plain.specs.Written.{written_object}
use Rattle.ham_toml.specs.Toml.{document_in, toml_of}
use Rattle.ham_objfile.specs.Texts.{IsText}

-- ---- values

abbrev pub natural_value : ℕ → Data
natural_value n = integer (pos n)

abbrev pub term_value : RawTerm → Data
term_value t = string (term_word t)

-- values in an array
abbrev pub array_of : {A : Type 0} → (A → Data) → List A → Data
array_of write xs = array (items_of (map write xs))

-- a name, and what it is
abbrev pub param_value : Param → Data
param_value p = array_of string (p.name ∷ kind_word p.kind ∷ [])

-- a verb, a name, and terms
abbrev pub part_value : RawPart → Data
part_value p = array (items_of (string (verb_word p.verb) ∷ string p.name ∷ map term_value p.terms))

-- ---- tables, in the order of their keys

abbrev pub relation_table : RawRelation → Members
relation_table r = member (codes "columns") (natural_value r.columns) (member (codes "name") (string r.name) no_members)

abbrev pub counter_table : Counter → Members
counter_table c = member (codes "keyed") (boolean c.keyed) (member (codes "name") (string c.name) no_members)

abbrev pub invariant_table : RawInvariant → Members
invariant_table (Reference from columns to) =
    member (codes "columns") (array_of natural_value columns) (member (codes "from") (string from) (member (codes "kind") (string (codes "reference")) (member (codes "to") (string to) no_members)))
invariant_table (Unique r columns) = member (codes "columns") (array_of natural_value columns) (member (codes "kind") (string (codes "unique")) (member (codes "relation") (string r) no_members))
invariant_table (Low c limit) = member (codes "counter") (string c) (member (codes "kind") (string (codes "low")) (member (codes "limit") (integer limit) no_members))
invariant_table (High c limit) = member (codes "counter") (string c) (member (codes "kind") (string (codes "high")) (member (codes "limit") (integer limit) no_members))

abbrev pub method_table : RawMethod → Members
method_table m =
    member (codes "effects") (array_of part_value m.effects)
    (member (codes "guards") (array_of part_value m.guards) (member (codes "name") (string m.name) (member (codes "params") (array_of param_value m.params) no_members)))

-- a table for each entry
abbrev pub tables_of : {A : Type 0} → (A → Members) → List A → Data
tables_of write xs = array_of (λ x. table (write x)) xs

-- the table of an object file
abbrev pub object_table : Raw → Members
object_table raw =
    member (codes "counter") (tables_of counter_table raw.counters)
    (member (codes "invariant") (tables_of invariant_table raw.invariants)
    (member (codes "method") (tables_of method_table raw.methods)
    (member (codes "relation") (tables_of relation_table raw.relations) (member (codes "version") (natural_value 1) no_members))))

-- ---- laws

-- the table of each object whose names are names and whose numbers are of 64 bits is read as the object
abbrev pub IsTableReadBack : Type 0
IsTableReadBack = (raw : Raw) → IsProper raw → document_in (object_table raw) ≡ Ok raw

-- each text in UTF-8 that writes the table of a checked object, plainly or with a line for each value, is a text of the object
abbrev pub IsTomlReadBack : Type 0
IsTomlReadBack = (o : Schema) → IsChecked o → (pretty : Bool) (text : List ℕ) → IsUtf8 text → IsDocumentText pretty (object_table (written_object o)) text → IsText text o
