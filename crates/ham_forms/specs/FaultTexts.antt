-- The texts of faults.
use Rattle.std.specs.Prelude.{ℕ, List, ◌∷◌, ◌++◌, codes}
use Rattle.std.specs.Fmt.{decimal}
use Rattle.ham_check.specs.declared.raw.Ill.{Ill}
use Rattle.ham_check.specs.declared.raw.IllPlace.{IllPlace}
use Rattle.ham_check.specs.declared.raw.IllKind.{IllKind}
use Rattle.ham_check.specs.declared.raw.IllKind.TheVariants.{TooMany, TwiceNamed, UnknownName, BadArity, WrongKind, AnyNotAllowed, BadColumn, OpeningBroken, SelfReference, AmountTooLarge}
use Rattle.ham_forms.specs.declared.fault.FileFault.{FileFault}
use Rattle.ham_forms.specs.declared.fault.FileFault.TheVariants as fault

abbrev pub kind_text : IllKind → List ℕ
kind_text TooMany = codes "too many"
kind_text TwiceNamed = codes "twice named"
kind_text UnknownName = codes "unknown name"
kind_text BadArity = codes "bad arity"
kind_text WrongKind = codes "wrong kind"
kind_text AnyNotAllowed = codes "any not allowed"
kind_text BadColumn = codes "bad column"
kind_text OpeningBroken = codes "opening broken"
kind_text SelfReference = codes "self reference"
kind_text AmountTooLarge = codes "amount too large"

-- a section, an entry and a part, with dots between them
abbrev pub place_text : IllPlace → List ℕ
place_text at = codes " at " ++ (decimal at.section ++ (46 ∷ (decimal at.entry ++ (46 ∷ decimal at.part))))

abbrev pub ill_text : Ill → List ℕ
ill_text ill = kind_text ill.kind ++ place_text ill.at

abbrev pub fault_text : FileFault → List ℕ
fault_text (fault.NotUtf8 at) = codes "not utf-8 at " ++ decimal at
fault_text fault.NotToml = codes "not toml"
fault_text (fault.UnknownKey key) = codes "unknown key " ++ key
fault_text (fault.MissingKey key) = codes "missing key " ++ key
fault_text (fault.BadValue key) = codes "bad value " ++ key
fault_text (fault.Ill ill) = ill_text ill
fault_text (fault.BadLine line) = codes "bad line " ++ decimal line
fault_text fault.NoMemory = codes "out of memory"
