-- What is printed of an object gives it back.
use Rattle.ham_syntax.specs.Objects.{Schema}
use Rattle.ham_syntax.specs.Checked.{IsChecked}
use Rattle.ham_plain.specs.Written.{plain_of}
use Rattle.ham_objfile.specs.Texts.{IsText}

-- the plain form of a checked object is a text of it
abbrev pub IsReadBack : Type 0
IsReadBack = (o : Schema) → IsChecked o → IsText (plain_of o) o
