-- Which files a command asks for, and how it may end.
--     AsksFirst    the first files of the command, in order, were asked for, as many as its exit tells
use Rattle.std.specs.Prelude.{◌≡◌, ◌⊎◌, ℕ, ◌<◌, List, [], ◌∷◌, ◌++◌, length, Option, Some, None}
use Rattle.ham_cli.specs.declared.exit.Exit.{Exit}
use Rattle.ham_cli.specs.declared.exit.Exit.TheVariants as exits
use Rattle.ham_cli.specs.Commands.{Asked, Beside, beside}
use Rattle.ham_cli.specs.Answers.{refusal_of}

abbrev pub names_of : Option Beside → List (List ℕ)
names_of None = []
names_of (Some file) = file.name ∷ []

-- the files of a command, in the order in which they are asked for
abbrev pub files_of : List ℕ → Asked → List (List ℕ)
files_of object asked = object ∷ names_of (beside asked)

-- a command that asked for so many of its files may end so
abbrev pub MayEnd : List ℕ → Asked → ℕ → Exit → Type 0
MayEnd object asked count exits.Done = count ≡ length (files_of object asked)
MayEnd object asked count exits.Usage = ⊥
MayEnd object asked count exits.ObjectRefused = count ≡ 1
MayEnd object asked count exits.ReadFault = 0 < count
MayEnd object asked count exits.WriteFault = 0 < count
MayEnd object asked count exits.NoMemory = Unit {0}
MayEnd object asked count exits.TooLong = 0 < count
MayEnd object asked count exits.ScheduleRefused = (refusal_of asked ≡ Some exits.ScheduleRefused) × (count ≡ length (files_of object asked))
MayEnd object asked count exits.DerivationRefused = (refusal_of asked ≡ Some exits.DerivationRefused) × (count ≡ length (files_of object asked))
MayEnd object asked count exits.AuditRefused = (refusal_of asked ≡ Some exits.AuditRefused) × (count ≡ length (files_of object asked))

-- what was asked for before and now: the first of the command's files more
pub record AsksFirst (object : List ℕ) (asked : Asked) (before now : List (List ℕ)) (exit : Exit) : Type 0 where
  pub first : List (List ℕ)
  pub rest : List (List ℕ)
  pub files : files_of object asked ≡ first ++ rest
  pub noted : now ≡ before ++ first
  pub end : MayEnd object asked (length first) exit

-- ---- parts of a command

-- a text that comes with an exit was put, or the sink failed or memory ran out
abbrev pub IsTextEnd : Exit → Exit → Type 0
IsTextEnd with exit = (exit ≡ with) ⊎ ((exit ≡ exits.WriteFault) ⊎ (exit ≡ exits.NoMemory))

-- how a command ends that has all its files
abbrev pub IsAnswerEnd : Asked → Exit → Type 0
IsAnswerEnd asked exit = (refusal_of asked ≡ Some exit) ⊎ IsTextEnd exits.Done exit

-- the file beside the object's was asked for where there is one, or there was no memory to note it
abbrev pub SeeksBeside : Asked → Option Beside → (before now : List (List ℕ)) → Exit → Type 0
SeeksBeside asked None before now exit = (now ≡ before) × IsAnswerEnd asked exit
SeeksBeside asked (Some file) before now exit =
    ((exit ≡ exits.NoMemory) × (now ≡ before))
    ⊎ ((now ≡ before ++ file.name ∷ []) × (((exit ≡ exits.ReadFault) ⊎ (exit ≡ exits.TooLong)) ⊎ IsAnswerEnd asked exit))

-- the object's text is refused, or the file beside it was asked for
abbrev pub SeeksOn : Asked → (before now : List (List ℕ)) → Exit → Type 0
SeeksOn asked before now exit = ((now ≡ before) × IsTextEnd exits.ObjectRefused exit) ⊎ SeeksBeside asked (beside asked) before now exit
