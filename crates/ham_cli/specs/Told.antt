-- What is told, and how much of it the sink took.
--     Tells, TellsWhole    an answer was told, and the exit came with it, or it was cut short
use Rattle.std.specs.Prelude.{◌≡◌, ◌⊎◌, ℕ, Bool, true, false, List, [], ◌∷◌, ◌++◌, Option, codes}
use Rattle.std.specs.Fmt.{decimal}
use Rattle.ham_bytes.specs.Outside.{TakesWhole, TakesSome}
use Rattle.ham_forms.specs.declared.fault.FileFault.{FileFault}
use Rattle.ham_forms.specs.declared.fault.FileFault.TheVariants as faults
use Rattle.ham_forms.specs.FaultTexts.{fault_text}
use Rattle.ham_cli.specs.declared.exit.Exit.{Exit}
use Rattle.ham_cli.specs.declared.exit.Exit.TheVariants as exits
use Rattle.ham_cli.specs.declared.refusal.Refusal.{Refusal}
use Rattle.ham_cli.specs.declared.refusal.Refusal.TheVariants as refusals

-- this exit, and this text
abbrev pub IsTold : Exit → List ℕ → Exit → List ℕ → Type 0
IsTold with told exit text = (exit ≡ with) × (text ≡ told)

-- ---- refusals

-- a line of a refusal: what is refused, and why
abbrev pub line_of : List ℕ → List ℕ → List ℕ
line_of what why = what ++ (why ++ 10 ∷ [])

-- it was memory that was wanting
abbrev pub is_no_memory : FileFault → Bool
is_no_memory faults.NoMemory = true
is_no_memory _ = false

abbrev pub object_refusal : FileFault → List ℕ
object_refusal fault = line_of (codes "object refused: ") (fault_text fault)

abbrev pub reason_text : Refusal → List ℕ
reason_text refusals.UnknownName = codes "unknown name"
reason_text (refusals.BadLine line) = codes "bad line " ++ decimal line
reason_text (refusals.Obligation number) = codes "obligation " ++ decimal number

abbrev pub derivation_refusal : Refusal → List ℕ
derivation_refusal why = line_of (codes "derivation refused: ") (reason_text why)

-- ---- what the sink took

-- nothing was written
abbrev pub Nothing : Option (List ℕ) → Option (List ℕ) → Type 0
Nothing before now = TakesWhole before now []

-- an exit that comes with a text
abbrev pub IsEnd : Exit → Type 0
IsEnd exits.ReadFault = ⊥
IsEnd exits.WriteFault = ⊥
IsEnd exits.NoMemory = ⊥
IsEnd _ = Unit {0}

-- a text was put whole, and the exit is the one that comes with it, or the sink failed after a front of it
abbrev pub Puts : Option (List ℕ) → Option (List ℕ) → List ℕ → Exit → Exit → Type 0
Puts before now text with exits.WriteFault = TakesSome before now text
Puts before now text with exit = (exit ≡ with) × TakesWhole before now text

-- memory ran out, and nothing was written
abbrev pub RunsOut : Option (List ℕ) → Option (List ℕ) → Exit → Type 0
RunsOut before now exit = (exit ≡ exits.NoMemory) × Nothing before now

-- the same as Puts, where memory may have run out before the text was made
abbrev pub PutsMade : Option (List ℕ) → Option (List ℕ) → List ℕ → Exit → Exit → Type 0
PutsMade before now text with exit = RunsOut before now exit ⊎ Puts before now text with exit

-- a front of an answer's text was put
abbrev pub TellsSome : (Exit → List ℕ → Type 0) → Option (List ℕ) → Option (List ℕ) → Type 0
TellsSome Answer before now = (exit : Exit) × (text : List ℕ) × Answer exit text × TakesSome before now text

-- An answer that is made before it is told: its exit came with the whole text, the sink failed after a front of it, or
-- memory ran out and nothing was written.
abbrev pub TellsWhole : (Exit → List ℕ → Type 0) → Option (List ℕ) → Option (List ℕ) → Exit → Type 0
TellsWhole Answer before now exits.WriteFault = TellsSome Answer before now
TellsWhole Answer before now exits.NoMemory = Nothing before now
TellsWhole Answer before now exit = (text : List ℕ) × Answer exit text × TakesWhole before now text

-- An answer that is told while it is made: where memory ran out, a front of it was written.
abbrev pub Tells : (Exit → List ℕ → Type 0) → Option (List ℕ) → Option (List ℕ) → Exit → Type 0
Tells Answer before now exits.NoMemory = TellsSome Answer before now
Tells Answer before now exit = TellsWhole Answer before now exit
