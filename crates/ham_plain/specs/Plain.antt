-- Objects in plain form: the lines of a raw object, the words of each line, and the text that they make.
use Rattle.std.specs.Prelude.{ℕ, ◌^◌, ◌<◌, Bool, true, false, List, [], ◌∷◌, ◌++◌, map, IsTrue, codes}
use Rattle.std.specs.List.{AllByRecursion, flat_map}
use Rattle.std.specs.Fmt.{decimal, signed_decimal}
use Rattle.ham_syntax.specs.declared.object.Kind.{Kind}
use Rattle.ham_syntax.specs.declared.object.Kind.TheVariants.{Id, Amount}
use Rattle.ham_check.specs.declared.raw.Verb.{Verb}
use Rattle.ham_check.specs.declared.raw.Verb.TheVariants.{Present, Absent, AtLeast, AtMost, Insert, Delete, Add, Subtract}
use Rattle.ham_check.specs.declared.raw.RawTerm.{RawTerm}
use Rattle.ham_check.specs.declared.raw.RawTerm.TheVariants.{Any, Constant, Named}
use Rattle.ham_check.specs.declared.raw.RawPart.{RawPart}
use Rattle.ham_check.specs.declared.raw.RawInvariant.{RawInvariant}
use Rattle.ham_check.specs.declared.raw.RawInvariant.TheVariants.{Reference, Unique, Low, High}
use Rattle.ham_check.specs.declared.raw.RawMethod.{RawMethod}
use Rattle.ham_check.specs.declared.raw.Raw.{Raw}
use Rattle.ham_syntax.specs.Names.{is_name}
use Rattle.ham_syntax.specs.Typed.{IsLimit}
use Rattle.ham_text.specs.Numbers.{AreNumbers}
use Rattle.ham_text.specs.Written as written
use Rattle.ham_plain.specs.declared.line.PlainLine.{PlainLine}
use Rattle.ham_plain.specs.declared.line.PlainLine.TheVariants as lines

-- a counter is keyed or plain
abbrev pub keyed_word : Bool → List ℕ
keyed_word true = codes "keyed"
keyed_word false = codes "plain"

-- what a parameter is
abbrev pub kind_word : Kind → List ℕ
kind_word Id = codes "id"
kind_word Amount = codes "amount"

-- what a guard asks, or an effect does
abbrev pub verb_word : Verb → List ℕ
verb_word Present = codes "present"
verb_word Absent = codes "absent"
verb_word AtLeast = codes "atleast"
verb_word AtMost = codes "atmost"
verb_word Insert = codes "insert"
verb_word Delete = codes "delete"
verb_word Add = codes "add"
verb_word Subtract = codes "subtract"

-- `_`, `#` and a number, or a name
abbrev pub term_word : RawTerm → List ℕ
term_word Any = codes "_"
term_word (Constant n) = 35 ∷ decimal n
term_word (Named name) = name

-- a verb, a name, and any number of terms
abbrev pub part_words : RawPart → List (List ℕ)
part_words p = verb_word p.verb ∷ p.name ∷ map term_word p.terms

-- two relations and columns, a relation and columns, or a counter and a limit
abbrev pub invariant_words : RawInvariant → List (List ℕ)
invariant_words (Reference from columns to) = codes "reference" ∷ from ∷ to ∷ map decimal columns
invariant_words (Unique r columns) = codes "unique" ∷ r ∷ map decimal columns
invariant_words (Low c limit) = codes "low" ∷ c ∷ signed_decimal limit ∷ []
invariant_words (High c limit) = codes "high" ∷ c ∷ signed_decimal limit ∷ []

-- the words of a line
abbrev pub line_words : PlainLine → List (List ℕ)
line_words lines.Opening = codes "hamsaz" ∷ codes "object" ∷ codes "1" ∷ []
line_words (lines.Relation r) = codes "relation" ∷ r.name ∷ decimal r.columns ∷ []
line_words (lines.Counter c) = codes "counter" ∷ c.name ∷ keyed_word c.keyed ∷ []
line_words (lines.Invariant i) = codes "invariant" ∷ invariant_words i
line_words (lines.Method name) = codes "method" ∷ name ∷ []
line_words (lines.Param p) = codes "param" ∷ p.name ∷ kind_word p.kind ∷ []
line_words (lines.Guard p) = codes "guard" ∷ part_words p
line_words (lines.Effect p) = codes "effect" ∷ part_words p
line_words lines.End = codes "end" ∷ []

-- a line: its words, a space between each two, and its end
abbrev pub line_text : PlainLine → List ℕ
line_text l = written.line_text (line_words l)

-- a method: its name, and then its parameters, guards and effects
abbrev pub method_lines : RawMethod → List PlainLine
method_lines m = lines.Method m.name ∷ (map lines.Param m.params ++ (map lines.Guard m.guards ++ map lines.Effect m.effects))

-- an object: the opening line, the relations, the counters, the invariants, the methods, and the last line
abbrev pub plain_lines : Raw → List PlainLine
plain_lines raw =
    lines.Opening ∷ (map lines.Relation raw.relations ++ (map lines.Counter raw.counters ++ (map lines.Invariant raw.invariants ++ (flat_map method_lines raw.methods ++ lines.End ∷ []))))

-- the text of an object
unfoldable pub plain_form : Raw → List ℕ
plain_form raw = flat_map line_text (plain_lines raw)

-- a constant is of 64 bits, and a name is a name
abbrev pub IsProperTerm : RawTerm → Type 0
IsProperTerm Any = Unit {0}
IsProperTerm (Constant n) = n < 2 ^ 64
IsProperTerm (Named name) = IsTrue (is_name name)

-- the name is a name, and each term is proper
pub record IsProperPart (p : RawPart) : Type 0 where
  pub is_named : IsTrue (is_name p.name)
  pub each_term : AllByRecursion IsProperTerm p.terms

-- the names are names, and the numbers are of 64 bits
abbrev pub IsProperInvariant : RawInvariant → Type 0
IsProperInvariant (Reference from columns to) = IsTrue (is_name from) × IsTrue (is_name to) × AreNumbers columns
IsProperInvariant (Unique r columns) = IsTrue (is_name r) × AreNumbers columns
IsProperInvariant (Low c limit) = IsTrue (is_name c) × IsLimit limit
IsProperInvariant (High c limit) = IsTrue (is_name c) × IsLimit limit

-- the names of a line are names, and its numbers are of 64 bits
abbrev pub IsProperLine : PlainLine → Type 0
IsProperLine lines.Opening = Unit {0}
IsProperLine (lines.Relation r) = IsTrue (is_name r.name) × (r.columns < 2 ^ 64)
IsProperLine (lines.Counter c) = IsTrue (is_name c.name)
IsProperLine (lines.Invariant i) = IsProperInvariant i
IsProperLine (lines.Method name) = IsTrue (is_name name)
IsProperLine (lines.Param p) = IsTrue (is_name p.name)
IsProperLine (lines.Guard p) = IsProperPart p
IsProperLine (lines.Effect p) = IsProperPart p
IsProperLine lines.End = Unit {0}

-- the names of an object are names, and its numbers are of 64 bits
unfoldable pub IsProper : Raw → Type 0
IsProper raw = AllByRecursion IsProperLine (plain_lines raw)
