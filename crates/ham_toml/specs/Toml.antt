-- Objects in TOML: what a document's table says, key by key in the listed order, up to the first fault.
use Rattle.std.specs.Prelude.{ℕ, ℤ, pos, negsuc, ◌==◌, Bool, false, List, [], ◌∷◌, codes, Option, Some, None, option_map, option_and_then, Result, Ok, Err, if◌then◌else◌}
use Rattle.std.specs.List.{list_any}
use Rattle.std.specs.Ordering.{nat_cmp, is_lt}
use Rattle.std.specs.Cmp.Lexicographic.{slice_cmp}
use Rattle.std.specs.Str.{bytes_eq, is_utf8}
use Rattle.std.specs.Str.Lossy.{utf8_valid_len}
use Rattle.toml.specs.Data.{Data, Items, no_items, item, Members, no_members, member, get_member, as_str, as_integer, as_bool, as_array, as_table}
use Rattle.toml.specs.Parse.{parse_document}
use Rattle.ham_syntax.specs.declared.object.Counter.{Counter}
use Rattle.ham_syntax.specs.declared.object.Param.{Param}
use Rattle.ham_check.specs.declared.raw.RawRelation.{RawRelation}
use Rattle.ham_check.specs.declared.raw.RawPart.{RawPart}
use Rattle.ham_check.specs.declared.raw.RawInvariant.{RawInvariant}
use Rattle.ham_check.specs.declared.raw.RawInvariant.TheVariants.{Reference, Unique, Low, High}
use Rattle.ham_check.specs.declared.raw.RawMethod.{RawMethod}
use Rattle.ham_check.specs.declared.raw.Raw.{Raw}
use Rattle.ham_forms.specs.declared.fault.FileFault.{FileFault}
use Rattle.ham_forms.specs.declared.fault.FileFault.TheVariants.{NotUtf8, NotToml, UnknownKey, MissingKey, BadValue}
use Rattle.ham_forms.specs.declared.words.InvariantKind.{InvariantKind}
use Rattle.ham_forms.specs.declared.words.InvariantKind.TheVariants as kinds
use Rattle.ham_toml.specs.declared.keys.Form.{Form}
use Rattle.ham_toml.specs.declared.keys.Form.TheVariants as forms
use Rattle.ham_forms.specs.Outcomes.{◌>>=◌}
use Rattle.ham_forms.specs.Words.{kind_of, verb_of, invariant_kind_of, name_of, term_of}

-- ---- keys

-- the keys that are listed for each form of table
abbrev pub keys_of : Form → List (List ℕ)
keys_of forms.Document = codes "version" ∷ codes "relation" ∷ codes "counter" ∷ codes "invariant" ∷ codes "method" ∷ []
keys_of forms.Relation = codes "name" ∷ codes "columns" ∷ []
keys_of forms.Counter = codes "name" ∷ codes "keyed" ∷ []
keys_of forms.Reference = codes "kind" ∷ codes "from" ∷ codes "columns" ∷ codes "to" ∷ []
keys_of forms.Unique = codes "kind" ∷ codes "relation" ∷ codes "columns" ∷ []
keys_of forms.Limit = codes "kind" ∷ codes "counter" ∷ codes "limit" ∷ []
keys_of forms.Method = codes "name" ∷ codes "params" ∷ codes "guards" ∷ codes "effects" ∷ []

abbrev pub is_listed : Form → List ℕ → Bool
is_listed form key = list_any (bytes_eq key) (keys_of form)

-- the lesser of a key and the least of others, in the order of their bytes
abbrev pub lesser : List ℕ → Option (List ℕ) → List ℕ
lesser key None = key
lesser key (Some other) = if is_lt (slice_cmp nat_cmp other key) then other else key

-- the least key of a table that isn't listed
abbrev pub least_unlisted : Form → Members → Option (List ℕ)
least_unlisted form no_members = None
least_unlisted form (member key value ms) = if is_listed form key then least_unlisted form ms else Some (lesser key (least_unlisted form ms))

abbrev pub if_all_listed : Option (List ℕ) → Result (Unit {0}) FileFault
if_all_listed None = Ok tt
if_all_listed (Some key) = Err (UnknownKey key)

-- goes on only where each key of the table is listed
abbrev pub known : Form → Members → Result (Unit {0}) FileFault
known form ms = if_all_listed (least_unlisted form ms)

abbrev pub if_there : List ℕ → Option Data → Result Data FileFault
if_there key None = Err (MissingKey key)
if_there key (Some value) = Ok value

-- what stands at a required key
abbrev pub required : List ℕ → Members → Result Data FileFault
required key ms = if_there key (get_member key ms)

-- what a value is, where it is of the form that is wanted
abbrev pub in_form : {A : Type 0} → List ℕ → Option A → Result A FileFault
in_form key None = Err (BadValue key)
in_form key (Some x) = Ok x

-- the value of a required key
abbrev pub needed : {A : Type 0} → List ℕ → (Data → Option A) → Members → Result A FileFault
needed key read ms = required key ms >>= λ value. in_form key (read value)

abbrev pub or_default : {A : Type 0} → List ℕ → (Data → Option A) → A → Option Data → Result A FileFault
or_default key read default None = Ok default
or_default key read default (Some value) = in_form key (read value)

-- the value of an optional key
abbrev pub wanted : {A : Type 0} → List ℕ → (Data → Option A) → A → Members → Result A FileFault
wanted key read default ms = or_default key read default (get_member key ms)

-- ---- values

-- a string that is a word of some kind
abbrev pub word_in : {A : Type 0} → (List ℕ → Option A) → Data → Option A
word_in read value = option_and_then read (as_str value)

abbrev pub natural_of : ℤ → Option ℕ
natural_of (pos n) = Some n
natural_of (negsuc n) = None

-- an integer from 0
abbrev pub natural_in : Data → Option ℕ
natural_in value = option_and_then natural_of (as_integer value)

abbrev pub one_of : ℕ → Option (Unit {0})
one_of n = if n == 1 then Some tt else None

-- the integer 1
abbrev pub one_in : Data → Option (Unit {0})
one_in value = option_and_then one_of (natural_in value)

-- all items of an array, each of this form
abbrev pub all_of : {A : Type 0} → (Data → Option A) → Items → Option (List A)
all_of read no_items = Some []
all_of read (item d ds) = option_and_then (λ x. option_map (λ xs. x ∷ xs) (all_of read ds)) (read d)

-- an array of values of one form
abbrev pub array_in : {A : Type 0} → (Data → Option A) → Data → Option (List A)
array_in read value = option_and_then (all_of read) (as_array value)

-- a name, and `id` or `amount`
abbrev pub param_of : Items → Option Param
param_of no_items = None
param_of (item name no_items) = None
param_of (item name (item kind no_items)) = option_and_then (λ n. option_map (λ k. record { name = n; kind = k }) (word_in kind_of kind)) (word_in name_of name)
param_of (item name (item kind (item more items))) = None

abbrev pub param_in : Data → Option Param
param_in value = option_and_then param_of (as_array value)

-- a verb, a name, and any number of terms
abbrev pub part_of : Items → Option RawPart
part_of no_items = None
part_of (item verb no_items) = None
part_of (item verb (item name terms)) =
    option_and_then (λ v. option_and_then (λ n. option_map (λ ts. record { verb = v; name = n; terms = ts }) (all_of (word_in term_of) terms)) (word_in name_of name)) (word_in verb_of verb)

abbrev pub part_in : Data → Option RawPart
part_in value = option_and_then part_of (as_array value)

-- ---- tables

unfoldable pub relation_in : Members → Result RawRelation FileFault
relation_in ms = do
  _ ← known forms.Relation ms
  name ← needed (codes "name") (word_in name_of) ms
  columns ← needed (codes "columns") natural_in ms
  Ok (record { name = name; columns = columns })

unfoldable pub counter_in : Members → Result Counter FileFault
counter_in ms = do
  _ ← known forms.Counter ms
  name ← needed (codes "name") (word_in name_of) ms
  keyed ← wanted (codes "keyed") as_bool false ms
  Ok (record { name = name; keyed = keyed })

unfoldable pub reference_in : Members → Result RawInvariant FileFault
reference_in ms = do
  _ ← known forms.Reference ms
  from ← needed (codes "from") (word_in name_of) ms
  columns ← needed (codes "columns") (array_in natural_in) ms
  to ← needed (codes "to") (word_in name_of) ms
  Ok (Reference from columns to)

unfoldable pub unique_in : Members → Result RawInvariant FileFault
unique_in ms = do
  _ ← known forms.Unique ms
  relation ← needed (codes "relation") (word_in name_of) ms
  columns ← needed (codes "columns") (array_in natural_in) ms
  Ok (Unique relation columns)

unfoldable pub low_in : Members → Result RawInvariant FileFault
low_in ms = do
  _ ← known forms.Limit ms
  counter ← needed (codes "counter") (word_in name_of) ms
  limit ← needed (codes "limit") as_integer ms
  Ok (Low counter limit)

unfoldable pub high_in : Members → Result RawInvariant FileFault
high_in ms = do
  _ ← known forms.Limit ms
  counter ← needed (codes "counter") (word_in name_of) ms
  limit ← needed (codes "limit") as_integer ms
  Ok (High counter limit)

abbrev pub by_kind_in : InvariantKind → Members → Result RawInvariant FileFault
by_kind_in kinds.Reference ms = reference_in ms
by_kind_in kinds.Unique ms = unique_in ms
by_kind_in kinds.Low ms = low_in ms
by_kind_in kinds.High ms = high_in ms

-- the kind comes first, since it says which keys are listed
unfoldable pub invariant_in : Members → Result RawInvariant FileFault
invariant_in ms = do
  kind ← needed (codes "kind") (word_in invariant_kind_of) ms
  by_kind_in kind ms

unfoldable pub method_in : Members → Result RawMethod FileFault
method_in ms = do
  _ ← known forms.Method ms
  name ← needed (codes "name") (word_in name_of) ms
  params ← wanted (codes "params") (array_in param_in) [] ms
  guards ← wanted (codes "guards") (array_in part_in) [] ms
  effects ← wanted (codes "effects") (array_in part_in) [] ms
  Ok (record { name = name; params = params; guards = guards; effects = effects })

-- ---- the document

-- an entry that is no table is a bad value of the key that has the array
abbrev pub entry_in : {A : Type 0} → List ℕ → (Members → Result A FileFault) → Data → Result A FileFault
entry_in key read value = in_form key (as_table value) >>= read

-- each entry in order, whole before the next
abbrev pub each : {A : Type 0} → (Data → Result A FileFault) → Items → Result (List A) FileFault
each read no_items = Ok []
each read (item d ds) = read d >>= λ x. each read ds >>= λ xs. Ok (x ∷ xs)

abbrev pub array_at : List ℕ → Option Data → Result Items FileFault
array_at key None = Ok no_items
array_at key (Some value) = in_form key (as_array value)

-- the entries of an array of tables, none where the key is absent
abbrev pub section : {A : Type 0} → List ℕ → (Members → Result A FileFault) → Members → Result (List A) FileFault
section key read ms = array_at key (get_member key ms) >>= λ ds. each (entry_in key read) ds

unfoldable pub document_in : Members → Result Raw FileFault
document_in ms = do
  _ ← known forms.Document ms
  _ ← needed (codes "version") one_in ms
  relations ← section (codes "relation") relation_in ms
  counters ← section (codes "counter") counter_in ms
  invariants ← section (codes "invariant") invariant_in ms
  methods ← section (codes "method") method_in ms
  Ok (record { relations = relations; counters = counters; invariants = invariants; methods = methods })

abbrev pub document_of : Option Members → Result Raw FileFault
document_of None = Err NotToml
document_of (Some ms) = document_in ms

-- the object that bytes are a TOML file of, or the first fault
unfoldable pub toml_of : List ℕ → Result Raw FileFault
toml_of bytes = if is_utf8 bytes then document_of (parse_document bytes) else Err (NotUtf8 (utf8_valid_len bytes))
