-- Bytes as objects in plain form, and their first bad line.
use Rattle.std.specs.Prelude.{◌≡◌, ℕ, List, ◌++◌, map, Result, Ok, Err}
use Rattle.ham_text.specs.BadLines.{IsFirstBadLine}
use Rattle.ham_check.specs.declared.raw.Raw.{Raw}
use Rattle.ham_forms.specs.declared.fault.FileFault.{FileFault}
use Rattle.ham_forms.specs.declared.fault.FileFault.TheVariants.{NotUtf8, NotToml, UnknownKey, MissingKey, BadValue, Ill, BadLine, NoMemory}
use Rattle.ham_plain.specs.Plain.{IsProper, line_words, plain_lines, plain_form}

-- the words of each line of an object
abbrev pub object_words : Raw → List (List (List ℕ))
object_words raw = map line_words (plain_lines raw)

-- some object's plain form begins with these lines
pub record BeginsObject (lines : List (List (List ℕ))) : Type 0 where
  pub raw : Raw
  pub proper : IsProper raw
  pub rest : List (List (List ℕ))
  pub spelled : object_words raw ≡ lines ++ rest

-- some object's plain form has these lines
pub record IsObject (lines : List (List (List ℕ))) : Type 0 where
  pub raw : Raw
  pub proper : IsProper raw
  pub spelled : lines ≡ object_words raw

-- what is read of bytes as a plain form: the object whose plain form they are, or the first bad line
abbrev pub IsPlainReading : List ℕ → Result Raw FileFault → Type 0
IsPlainReading bytes (Ok raw) = IsProper raw × (bytes ≡ plain_form raw)
IsPlainReading bytes (Err (BadLine n)) = IsFirstBadLine BeginsObject IsObject bytes n
IsPlainReading bytes (Err (NotUtf8 at)) = ⊥
IsPlainReading bytes (Err NotToml) = ⊥
IsPlainReading bytes (Err (UnknownKey key)) = ⊥
IsPlainReading bytes (Err (MissingKey key)) = ⊥
IsPlainReading bytes (Err (BadValue key)) = ⊥
IsPlainReading bytes (Err (Ill ill)) = ⊥
IsPlainReading bytes (Err NoMemory) = ⊥

-- an answer, where memory may run out
abbrev pub Reads : List ℕ → Result Raw FileFault → Type 0
Reads bytes (Ok raw) = IsPlainReading bytes (Ok raw)
Reads bytes (Err NoMemory) = Unit {0}
Reads bytes (Err e) = IsPlainReading bytes (Err e)
