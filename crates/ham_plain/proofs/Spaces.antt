-- The words of a proper line are words: they have no space and no line end.
use Rattle.std.proofs.Common.{◌≡◌, ℕ, suc, ◌^◌, ◌<◌, Bool, true, false, List, [], ◌∷◌, length, map, refl, arith}
use Rattle.std.specs.Prelude.{IsTrue, ℤ, pos, negsuc}
use Rattle.std.specs.List.{AllByRecursion}
use Rattle.std.specs.Fmt.{decimal, signed_decimal}
use Rattle.std.proofs.lemmas.Bool.{ltb-true, lt-ltb}
use Rattle.std.proofs.lemmas.Fmt.{decimal_nonempty}
use Rattle.ham_text.specs.Numbers.{AreNumbers}
use Rattle.ham_text.specs.Written.{is_solid, IsWord, AreWords, AreLines}
use Rattle.ham_text.proofs.Wording.{decimal_word}
use Rattle.ham_syntax.specs.declared.object.Kind.{Kind}
use Rattle.ham_syntax.specs.declared.object.Kind.TheVariants.{Id, Amount}
use Rattle.ham_syntax.specs.Typed.{IsLimit}
use Rattle.ham_syntax.proofs.Solid.{name_solid}
use Rattle.ham_check.specs.declared.raw.Verb.{Verb}
use Rattle.ham_check.specs.declared.raw.Verb.TheVariants.{Present, Absent, AtLeast, AtMost, Insert, Delete, Add, Subtract}
use Rattle.ham_check.specs.declared.raw.RawTerm.{RawTerm}
use Rattle.ham_check.specs.declared.raw.RawTerm.TheVariants.{Any, Constant, Named}
use Rattle.ham_check.specs.declared.raw.RawPart.{RawPart}
use Rattle.ham_check.specs.declared.raw.RawInvariant.{RawInvariant}
use Rattle.ham_check.specs.declared.raw.RawInvariant.TheVariants.{Reference, Unique, Low, High}
use Rattle.ham_plain.specs.declared.line.PlainLine.{PlainLine}
use Rattle.ham_plain.specs.declared.line.PlainLine.TheVariants as lines
use Rattle.ham_plain.specs.Plain.{keyed_word, kind_word, verb_word, term_word, part_words, invariant_words, line_words, IsProperTerm, IsProperPart, IsProperInvariant, IsProperLine}

-- a mark before a word
marked : (mark : ℕ) (word : List ℕ) → 32 < mark → IsWord word → IsWord (mark ∷ word)
marked mark word h w = (omega arith, rw (lt-ltb 32 mark h, w.1) refl)

limit_solid : (z : ℤ) → IsLimit z → IsWord (signed_decimal z)
limit_solid (pos n) h = decimal_word n (omega arith)
limit_solid (negsuc n) h = marked 45 (decimal (suc n)) (omega arith) (decimal_word (suc n) (omega arith))

term_solid : (t : RawTerm) → IsProperTerm t → IsWord (term_word t)
term_solid Any h = (omega arith, refl)
term_solid (Constant n) h = marked 35 (decimal n) (omega arith) (decimal_word n h)
term_solid (Named name) h = name_solid name h

terms_solid : (ts : List RawTerm) → AllByRecursion IsProperTerm ts → AreWords (map term_word ts)
terms_solid [] h = tt
terms_solid (t ∷ ts) h = (term_solid t h.0, terms_solid ts h.1)

keyed_solid : (k : Bool) → IsWord (keyed_word k)
keyed_solid true = (omega arith, refl)
keyed_solid false = (omega arith, refl)

kind_solid : (k : Kind) → IsWord (kind_word k)
kind_solid Id = (omega arith, refl)
kind_solid Amount = (omega arith, refl)

verb_solid : (v : Verb) → IsWord (verb_word v)
verb_solid Present = (omega arith, refl)
verb_solid Absent = (omega arith, refl)
verb_solid Insert = (omega arith, refl)
verb_solid Delete = (omega arith, refl)
verb_solid AtLeast = (omega arith, refl)
verb_solid AtMost = (omega arith, refl)
verb_solid Add = (omega arith, refl)
verb_solid Subtract = (omega arith, refl)

part_solid : (p : RawPart) → IsProperPart p → AreWords (part_words p)
part_solid p h = (verb_solid p.verb, (name_solid p.name h.is_named, terms_solid p.terms h.each_term))

columns_solid : (columns : List ℕ) → AreNumbers columns → AreWords (map decimal columns)
columns_solid [] h = tt
columns_solid (c ∷ cs) h = (decimal_word c h.0, columns_solid cs h.1)

invariant_solid : (i : RawInvariant) → IsProperInvariant i → AreWords (invariant_words i)
invariant_solid (Reference from columns to) h = ((omega arith, refl), (name_solid from h.0, (name_solid to h.1, columns_solid columns h.2)))
invariant_solid (Unique r columns) h = ((omega arith, refl), (name_solid r h.0, columns_solid columns h.1))
invariant_solid (Low c limit) h = ((omega arith, refl), (name_solid c h.0, (limit_solid limit h.1, tt)))
invariant_solid (High c limit) h = ((omega arith, refl), (name_solid c h.0, (limit_solid limit h.1, tt)))

abbrev IsLine : List (List ℕ) → Type 0
IsLine words = (0 < length words) × AreWords words

line_solid : (l : PlainLine) → IsProperLine l → IsLine (line_words l)
line_solid lines.Opening h = (omega arith, ((omega arith, refl), ((omega arith, refl), ((omega arith, refl), tt))))
line_solid (lines.Relation r) h = (omega arith, ((omega arith, refl), (name_solid r.name h.0, (decimal_word r.columns h.1, tt))))
line_solid (lines.Counter c) h = (omega arith, ((omega arith, refl), (name_solid c.name h, (keyed_solid c.keyed, tt))))
line_solid (lines.Invariant i) h = (omega arith, ((omega arith, refl), invariant_solid i h))
line_solid (lines.Method n) h = (omega arith, ((omega arith, refl), (name_solid n h, tt)))
line_solid (lines.Param p) h = (omega arith, ((omega arith, refl), (name_solid p.name h, (kind_solid p.kind, tt))))
line_solid (lines.Guard p) h = (omega arith, ((omega arith, refl), part_solid p h))
line_solid (lines.Effect p) h = (omega arith, ((omega arith, refl), part_solid p h))
line_solid lines.End h = (omega arith, ((omega arith, refl), tt))

pub lines_solid : (ls : List PlainLine) → AllByRecursion IsProperLine ls → AreLines (map line_words ls)
lines_solid [] h = tt
lines_solid (l ∷ ls) h = (line_solid l h.0, lines_solid ls h.1)
