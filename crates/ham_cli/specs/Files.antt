-- Files on a shelf, and how a command ends that is not given one.
use Rattle.std.specs.Prelude.{◌≡◌, ◌⊎◌, ℕ, ◌<◌, ◌≤◌, List, [], length, Option, Some, None}
use Rattle.ham_bytes.specs.Outside.{file_of}
use Rattle.ham_bytes.specs.declared.shelf.File.{File}
use Rattle.ham_forms.specs.declared.fault.FileFault.{FileFault}
use Rattle.ham_objfile.specs.Texts.{IsFirstFault}
use Rattle.ham_cli.specs.declared.exit.Exit.{Exit}
use Rattle.ham_cli.specs.declared.exit.Exit.TheVariants as exits
use Rattle.ham_cli.specs.Commands.{Beside}
use Rattle.ham_cli.specs.Told.{Nothing, RunsOut, PutsMade, object_refusal}

-- a file of this name holds these bytes, not too many
pub record HasFile (files : List File) (name : List ℕ) (limit : ℕ) (bytes : List ℕ) : Type 0 where
  pub holds : file_of files name ≡ Some bytes
  pub within : length bytes ≤ limit

-- a file of this name holds more bytes than the limit
abbrev pub IsTooLong : List File → List ℕ → ℕ → Type 0
IsTooLong files name limit = (bytes : List ℕ) × (file_of files name ≡ Some bytes) × (limit < length bytes)

-- the bytes of the file beside the object's: none where none is read
abbrev pub HasBeside : List File → Option Beside → List ℕ → Type 0
HasBeside files None bytes = bytes ≡ []
HasBeside files (Some file) bytes = HasFile files file.name file.limit bytes

-- the file is too long, the shelf failed or memory ran out, and nothing was written
abbrev pub Stops : List File → List ℕ → ℕ → Option (List ℕ) → Option (List ℕ) → Exit → Type 0
Stops files name limit before now exits.TooLong = IsTooLong files name limit × Nothing before now
Stops files name limit before now exits.ReadFault = Nothing before now
Stops files name limit before now exits.NoMemory = Nothing before now
Stops files name limit before now _ = ⊥

-- the file beside the object's gives no bytes
abbrev pub EndsBeside : List File → Option Beside → Option (List ℕ) → Option (List ℕ) → Exit → Type 0
EndsBeside files None before now exit = ⊥
EndsBeside files (Some file) before now exit = Stops files file.name file.limit before now exit

-- the bytes of the object's file are no object's text, and their first fault is told; or memory ran out before it was known
abbrev pub EndsUnread : List ℕ → Option (List ℕ) → Option (List ℕ) → Exit → Type 0
EndsUnread text before now exit =
    RunsOut before now exit
    ⊎ ((fault : FileFault) × IsFirstFault text fault × PutsMade before now (object_refusal fault) exits.ObjectRefused exit)
