-- The table of an object is read as the object, and so is each text that writes it.
use Rattle.std.proofs.Common.{◌≡◌, ℕ, suc, ◌≤◌, max, Bool, true, false, ◌&&◌, cond, List, [], ◌∷◌, ◌++◌, map, Option, Some, Result, Ok, refl, sym, ap, ◌∙◌, subst, arith}
use Rattle.std.specs.Prelude.{IsTrue, codes, MatchBool}
use Rattle.std.specs.List.{AllByRecursion, flat_map}
use Rattle.std.specs.Str.{IsUtf8}
use Rattle.std.proofs.lemmas.Bool.Decides.{nat_tests}
use Rattle.toml.specs.Data.{Data, string, integer, boolean, array, table, Items, no_items, item, Members, no_members, member, depth, items_depth, members_depth, has_valid_dates, items_have_valid_dates, members_have_valid_dates, is_sorted, items_are_sorted, members_are_sorted}
use Rattle.toml.specs.View.{items_of}
use Rattle.toml.specs.Tables.{Expression, Definition, key_value}
use Rattle.toml.specs.Text.{IsLineText, IsLinesText, IsDocumentText, is_section, pairs, sections}
use Rattle.toml.proofs.ReadBack.{parse_document-printed}
use Rattle.toml_writer.specs.Text.{key_text}
use Rattle.ham_syntax.specs.declared.object.Counter.{Counter}
use Rattle.ham_syntax.specs.declared.object.Param.{Param}
use Rattle.ham_syntax.specs.Names.{is_name}
use Rattle.ham_syntax.specs.Objects.{Schema}
use Rattle.ham_syntax.specs.Checked.{IsChecked}
use Rattle.ham_check.specs.declared.raw.RawTerm.{RawTerm}
use Rattle.ham_check.specs.declared.raw.RawRelation.{RawRelation}
use Rattle.ham_check.specs.declared.raw.RawPart.{RawPart}
use Rattle.ham_check.specs.declared.raw.RawInvariant.{RawInvariant}
use Rattle.ham_check.specs.declared.raw.RawInvariant.TheVariants.{Reference, Unique, Low, High}
use Rattle.ham_check.specs.declared.raw.RawMethod.{RawMethod}
use Rattle.ham_check.specs.declared.raw.Raw.{Raw}
use Rattle.ham_forms.specs.declared.fault.FileFault.{FileFault}
use Rattle.ham_forms.specs.Words.{kind_of, verb_of, invariant_kind_of, name_of, term_of}
use Rattle.ham_plain.specs.declared.line.PlainLine.{PlainLine}
use Rattle.ham_plain.specs.declared.line.PlainLine.TheVariants as lines
use Rattle.ham_plain.specs.Plain.{method_lines, plain_lines, IsProperTerm, IsProperPart, IsProperInvariant, IsProperLine, IsProper}
use Rattle.ham_plain.specs.PlainFiles.{IsPlainReading}
use Rattle.ham_plain.specs.Written.{written_object}
use Rattle.ham_plain.proofs.Spelled.{kind_back, verb_back, name_back, term_back}
use Rattle.ham_toml.specs.Toml.{all_of, natural_in, word_in, param_in, part_in, relation_in, counter_in, reference_in, unique_in, low_in, high_in, invariant_in, method_in, entry_in, each, document_in, toml_of}
use Rattle.ham_toml.proofs.Documents.{is_document}
use Rattle.ham_objfile.specs.Texts.{is_plain, IsText}
use Rattle.ham_objfile.specs.Tables.{natural_value, term_value, array_of, param_value, part_value, relation_table, counter_table, invariant_table, method_table, tables_of, object_table, IsTableReadBack, IsTomlReadBack}
use Rattle.ham_objfile.proofs.Back.{written_clear, written_back}
use Rattle.ham_objfile.proofs.Proper.{object_proper}

-- ---- what is proper, part by part

front : {A : Type 0} (P : A → Type 0) (xs ys : List A) → AllByRecursion P (xs ++ ys) → AllByRecursion P xs
front P [] ys h = tt
front P (x ∷ xs) ys h = (h.0, front P xs ys h.1)

behind : {A : Type 0} (P : A → Type 0) (xs ys : List A) → AllByRecursion P (xs ++ ys) → AllByRecursion P ys
behind P [] ys h = h
behind P (x ∷ xs) ys h = behind P xs ys h.1

unmapped : {A B : Type 0} (P : B → Type 0) (f : A → B) (xs : List A) → AllByRecursion P (map f xs) → AllByRecursion (λ x. P (f x)) xs
unmapped P f [] h = tt
unmapped P f (x ∷ xs) h = (h.0, unmapped P f xs h.1)

unflat : {A B : Type 0} (P : B → Type 0) (f : A → List B) (xs : List A) → AllByRecursion P (flat_map f xs) → AllByRecursion (λ x. AllByRecursion P (f x)) xs
unflat P f [] h = tt
unflat P f (x ∷ xs) h = (front P (f x) (flat_map f xs) h, unflat P f xs (behind P (f x) (flat_map f xs) h))

abbrev AreProper : {A : Type 0} → (A → PlainLine) → List A → Type 0
AreProper line xs = AllByRecursion (λ x. IsProperLine (line x)) xs

record HasProperParts (m : RawMethod) : Type 0 where
  named : IsTrue (is_name m.name)
  params : AreProper lines.Param m.params
  guards : AreProper lines.Guard m.guards
  effects : AreProper lines.Effect m.effects

method_parts : (m : RawMethod) → AllByRecursion IsProperLine (method_lines m) → HasProperParts m
method_parts m h =
    let rest = behind IsProperLine (map lines.Param m.params) _ h.1 in
    record {
      named = h.0;
      params = unmapped IsProperLine lines.Param m.params (front IsProperLine (map lines.Param m.params) _ h.1);
      guards = unmapped IsProperLine lines.Guard m.guards (front IsProperLine (map lines.Guard m.guards) _ rest);
      effects = unmapped IsProperLine lines.Effect m.effects (behind IsProperLine (map lines.Guard m.guards) _ rest);
    }

record HasProperEntries (raw : Raw) : Type 0 where
  relations : AreProper lines.Relation raw.relations
  counters : AreProper lines.Counter raw.counters
  invariants : AreProper lines.Invariant raw.invariants
  methods : AllByRecursion (λ m. AllByRecursion IsProperLine (method_lines m)) raw.methods

entries : (raw : Raw) → IsProper raw → HasProperEntries raw
unfolding IsProper
entries raw h =
    let after_relations = behind IsProperLine (map lines.Relation raw.relations) _ h.1 in
    let after_counters = behind IsProperLine (map lines.Counter raw.counters) _ after_relations in
    let after_invariants = behind IsProperLine (map lines.Invariant raw.invariants) _ after_counters in
    record {
      relations = unmapped IsProperLine lines.Relation raw.relations (front IsProperLine (map lines.Relation raw.relations) _ h.1);
      counters = unmapped IsProperLine lines.Counter raw.counters (front IsProperLine (map lines.Counter raw.counters) _ after_relations);
      invariants = unmapped IsProperLine lines.Invariant raw.invariants (front IsProperLine (map lines.Invariant raw.invariants) _ after_counters);
      methods = unflat IsProperLine method_lines raw.methods (front IsProperLine (flat_map method_lines raw.methods) _ after_invariants);
    }

-- ---- arrays

all_back : {A : Type 0} (read : Data → Option A) (write : A → Data) (P : A → Type 0) (xs : List A) → ((x : A) → P x → read (write x) ≡ Some x) → AllByRecursion P xs → all_of read (items_of (map write xs)) ≡ Some xs
all_back read write P [] f h = refl
all_back read write P (x ∷ xs) f h = rw (f x h.0, all_back read write P xs f h.1) refl

each_back : {A : Type 0} (read : Data → Result A FileFault) (write : A → Data) (P : A → Type 0) (xs : List A) → ((x : A) → P x → read (write x) ≡ Ok x) → AllByRecursion P xs → each read (items_of (map write xs)) ≡ Ok xs
each_back read write P [] f h = refl
each_back read write P (x ∷ xs) f h = rw (f x h.0, each_back read write P xs f h.1) refl

naturals_back : (ns : List ℕ) → all_of natural_in (items_of (map natural_value ns)) ≡ Some ns
naturals_back [] = refl
naturals_back (n ∷ ns) = rw (naturals_back ns) refl

terms_back : (ts : List RawTerm) → AllByRecursion IsProperTerm ts → all_of (word_in term_of) (items_of (map term_value ts)) ≡ Some ts
terms_back ts h = all_back (word_in term_of) term_value IsProperTerm ts (λ t p. term_back t p) h

param_back : (p : Param) → IsProperLine (lines.Param p) → param_in (param_value p) ≡ Some p
param_back p h = rw (name_back p.name h, kind_back p.kind) refl

part_back : (p : RawPart) → IsProperPart p → part_in (part_value p) ≡ Some p
part_back p h = rw (verb_back p.verb, name_back p.name h.is_named, terms_back p.terms h.each_term) refl

-- ---- tables

relation_back : (r : RawRelation) → IsProperLine (lines.Relation r) → relation_in (relation_table r) ≡ Ok r
unfolding relation_in
relation_back r h = rw (name_back r.name h.0) refl

counter_back : (c : Counter) → IsProperLine (lines.Counter c) → counter_in (counter_table c) ≡ Ok c
unfolding counter_in
counter_back c h = rw (name_back c.name h) refl

invariant_back : (i : RawInvariant) → IsProperInvariant i → invariant_in (invariant_table i) ≡ Ok i
unfolding invariant_in reference_in unique_in low_in high_in invariant_kind_of
invariant_back (Reference from columns to) h = rw (name_back from h.0, naturals_back columns, name_back to h.1) refl
invariant_back (Unique r columns) h = rw (name_back r h.0, naturals_back columns) refl
invariant_back (Low c limit) h = rw (name_back c h.0) refl
invariant_back (High c limit) h = rw (name_back c h.0) refl

method_back : (m : RawMethod) → AllByRecursion IsProperLine (method_lines m) → method_in (method_table m) ≡ Ok m
unfolding method_in
method_back m h =
    let p = method_parts m h in
    let params = all_back param_in param_value (λ q. IsProperLine (lines.Param q)) m.params param_back p.params in
    let guards = all_back part_in part_value IsProperPart m.guards part_back p.guards in
    let effects = all_back part_in part_value IsProperPart m.effects part_back p.effects in
    rw (name_back m.name p.named, params, guards, effects) refl

pub table_back : IsTableReadBack
unfolding document_in
table_back raw h =
    let p = entries raw h in
    let relations = each_back (entry_in (codes "relation") relation_in) (λ r. table (relation_table r)) (λ r. IsProperLine (lines.Relation r)) raw.relations relation_back p.relations in
    let counters = each_back (entry_in (codes "counter") counter_in) (λ c. table (counter_table c)) (λ c. IsProperLine (lines.Counter c)) raw.counters counter_back p.counters in
    let invariants = each_back (entry_in (codes "invariant") invariant_in) (λ i. table (invariant_table i)) IsProperInvariant raw.invariants invariant_back p.invariants in
    let methods = each_back (entry_in (codes "method") method_in) (λ m. table (method_table m)) (λ m. AllByRecursion IsProperLine (method_lines m)) raw.methods method_back p.methods in
    rw (relations, counters, invariants, methods) refl

-- ---- the table is one that can be written

-- not deep, without dates that can't be written, its keys in order
record IsSound (n : ℕ) (d : Data) : Type 0 where
  shallow : depth d ≤ n
  dated : has_valid_dates d ≡ true
  sorted : is_sorted d ≡ true

array_sound : {A : Type 0} (n : ℕ) (write : A → Data) (xs : List A) → ((x : A) → IsSound n (write x)) → IsSound (suc n) (array_of write xs)
array_sound n write [] f = record { shallow = omega arith; dated = refl; sorted = refl }
array_sound n write (x ∷ xs) f =
    let h = f x in
    let rest = array_sound n write xs f in
    let here : depth (write x) ≤ n = h.shallow in
    let more : suc (items_depth (items_of (map write xs))) ≤ suc n = rest.shallow in
    record { shallow = grind (arith, nat_tests); dated = rw (h.dated, rest.dated) refl; sorted = rw (h.sorted, rest.sorted) refl }

string_sound : (w : List ℕ) → IsSound 0 (string w)
string_sound w = record { shallow = omega arith; dated = refl; sorted = refl }

natural_sound : (n : ℕ) → IsSound 0 (natural_value n)
natural_sound n = record { shallow = omega arith; dated = refl; sorted = refl }

param_sound : (p : Param) → IsSound 1 (param_value p)
param_sound p = record { shallow = grind (arith, nat_tests); dated = refl; sorted = refl }

part_sound : (p : RawPart) → IsSound 1 (part_value p)
part_sound p =
    let h = array_sound 0 term_value p.terms (λ t. string_sound _) in
    let few : suc (items_depth (items_of (map term_value p.terms))) ≤ 1 = h.shallow in
    record { shallow = grind (arith, nat_tests); dated = h.dated; sorted = h.sorted }

relation_sound : (r : RawRelation) → IsSound 3 (table (relation_table r))
relation_sound r = record { shallow = grind (arith, nat_tests); dated = refl; sorted = refl }

counter_sound : (c : Counter) → IsSound 3 (table (counter_table c))
counter_sound c = record { shallow = grind (arith, nat_tests); dated = refl; sorted = refl }

columns_sound : (ns : List ℕ) → IsSound 1 (array_of natural_value ns)
columns_sound ns = array_sound 0 natural_value ns natural_sound

invariant_sound : (i : RawInvariant) → IsSound 3 (table (invariant_table i))
invariant_sound (Reference from columns to) =
    let h = columns_sound columns in
    let few : suc (items_depth (items_of (map natural_value columns))) ≤ 1 = h.shallow in
    record { shallow = grind (arith, nat_tests); dated = rw h.dated refl; sorted = rw h.sorted refl }
invariant_sound (Unique r columns) =
    let h = columns_sound columns in
    let few : suc (items_depth (items_of (map natural_value columns))) ≤ 1 = h.shallow in
    record { shallow = grind (arith, nat_tests); dated = rw h.dated refl; sorted = rw h.sorted refl }
invariant_sound (Low c limit) = record { shallow = grind (arith, nat_tests); dated = refl; sorted = refl }
invariant_sound (High c limit) = record { shallow = grind (arith, nat_tests); dated = refl; sorted = refl }

method_sound : (m : RawMethod) → IsSound 3 (table (method_table m))
method_sound m =
    let params = array_sound 1 param_value m.params param_sound in
    let guards = array_sound 1 part_value m.guards part_sound in
    let effects = array_sound 1 part_value m.effects part_sound in
    let few_params : suc (items_depth (items_of (map param_value m.params))) ≤ 2 = params.shallow in
    let few_guards : suc (items_depth (items_of (map part_value m.guards))) ≤ 2 = guards.shallow in
    let few_effects : suc (items_depth (items_of (map part_value m.effects))) ≤ 2 = effects.shallow in
    record { shallow = grind (arith, nat_tests); dated = rw (params.dated, guards.dated, effects.dated) refl; sorted = rw (params.sorted, guards.sorted, effects.sorted) refl }

object_sound : (raw : Raw) → IsSound 5 (table (object_table raw))
object_sound raw =
    let counters = array_sound 3 (λ c. table (counter_table c)) raw.counters counter_sound in
    let invariants = array_sound 3 (λ i. table (invariant_table i)) raw.invariants invariant_sound in
    let methods = array_sound 3 (λ m. table (method_table m)) raw.methods method_sound in
    let relations = array_sound 3 (λ r. table (relation_table r)) raw.relations relation_sound in
    let few_counters : depth (tables_of counter_table raw.counters) ≤ 4 = counters.shallow in
    let few_invariants : depth (tables_of invariant_table raw.invariants) ≤ 4 = invariants.shallow in
    let few_methods : depth (tables_of method_table raw.methods) ≤ 4 = methods.shallow in
    let few_relations : depth (tables_of relation_table raw.relations) ≤ 4 = relations.shallow in
    record {
      shallow = grind (arith, nat_tests);
      dated = rw (counters.dated, invariants.dated, methods.dated, relations.dated) refl;
      sorted = rw (counters.sorted, invariants.sorted, methods.sorted, relations.sorted) refl;
    }

-- ---- texts

text_back : (raw : Raw) → IsProper raw → (pretty : Bool) (text : List ℕ) → IsUtf8 text → IsDocumentText pretty (object_table raw) text → toml_of text ≡ Ok raw
text_back raw h pretty text utf writes =
    let sound = object_sound raw in
    let deep : suc (members_depth (object_table raw)) ≤ 5 = sound.shallow in
    is_document text (object_table raw) utf (parse_document-printed pretty (object_table raw) text writes (omega arith) sound.dated sound.sorted) ∙ table_back raw h

-- a line that doesn't open the plain form
abbrev IsOther : Bool → Expression → Type 0
IsOther pretty e = (this rest : List ℕ) → IsLineText pretty false e.0 e.1 this → is_plain (this ++ rest) ≡ false

abbrev OpensOther : Bool → List Expression → Type 0
OpensOther pretty [] = ⊥
OpensOther pretty (e ∷ es) = IsOther pretty e

not_plain : (pretty : Bool) (es : List Expression) (text : List ℕ) → OpensOther pretty es → IsLinesText pretty false es text → is_plain text ≡ false
not_plain pretty [] text other h = absurd other
not_plain pretty (e ∷ es) text other h = (let (this, rest, whole, line, more) = h in ap is_plain whole ∙ other this rest line)

first_pair : (pretty t : Bool) (e : Expression) (es tail : List Expression) → IsOther pretty e → OpensOther pretty (es ++ tail) → OpensOther pretty (cond t es (e ∷ es) ++ tail)
first_pair pretty true e es tail other h = h
first_pair pretty false e es tail other h = other

other_counter : (pretty : Bool) (d : Data) → IsOther pretty (([], codes "counter"), key_value d)
unfolding key_text
other_counter pretty d this rest h = (let (value, e, more) = h in ap (λ (t : List ℕ). is_plain (t ++ rest)) e)

other_invariant : (pretty : Bool) (d : Data) → IsOther pretty (([], codes "invariant"), key_value d)
unfolding key_text
other_invariant pretty d this rest h = (let (value, e, more) = h in ap (λ (t : List ℕ). is_plain (t ++ rest)) e)

other_method : (pretty : Bool) (d : Data) → IsOther pretty (([], codes "method"), key_value d)
unfolding key_text
other_method pretty d this rest h = (let (value, e, more) = h in ap (λ (t : List ℕ). is_plain (t ++ rest)) e)

other_relation : (pretty : Bool) (d : Data) → IsOther pretty (([], codes "relation"), key_value d)
unfolding key_text
other_relation pretty d this rest h = (let (value, e, more) = h in ap (λ (t : List ℕ). is_plain (t ++ rest)) e)

other_version : (pretty : Bool) (d : Data) → IsOther pretty (([], codes "version"), key_value d)
unfolding key_text
other_version pretty d this rest h = (let (value, e, more) = h in ap (λ (t : List ℕ). is_plain (t ++ rest)) e)

opens_other : (pretty : Bool) (counters invariants methods relations : Data) (tail : List Expression)
    → OpensOther pretty (pairs (member (codes "counter") counters (member (codes "invariant") invariants (member (codes "method") methods (member (codes "relation") relations (member (codes "version") (natural_value 1) no_members))))) ++ tail)
opens_other pretty counters invariants methods relations tail =
    first_pair pretty (is_section counters) _ _ tail (other_counter pretty counters)
    (first_pair pretty (is_section invariants) _ _ tail (other_invariant pretty invariants)
    (first_pair pretty (is_section methods) _ _ tail (other_method pretty methods)
    (first_pair pretty (is_section relations) _ _ tail (other_relation pretty relations) (other_version pretty (natural_value 1)))))

toml_reading : (t : Bool) (text : List ℕ) (raw : Raw) → t ≡ false → toml_of text ≡ Ok raw → MatchBool t (IsPlainReading text (Ok raw)) (toml_of text ≡ Ok raw)
toml_reading true text raw e h = absurd cc
toml_reading false text raw e h = h

pub toml_back : IsTomlReadBack
toml_back o h pretty text utf writes =
    let raw = written_object o in
    let other = not_plain pretty (pairs (object_table raw) ++ sections [] (object_table raw)) text
    (opens_other pretty (tables_of counter_table raw.counters) (tables_of invariant_table raw.invariants) (tables_of method_table raw.methods) (tables_of relation_table raw.relations) (sections [] (object_table raw))) writes in
    record { raw = raw; reads = toml_reading (is_plain text) text raw other (text_back raw (object_proper o h) pretty text utf writes); faultless = written_clear o h; resolves = sym (written_back o h) }
