-- What a call of `run` answers and writes, where it is told what the shelf holds and what the sink took.
--     Ends         the exit and the text of a command
--     Completes    when the exit is Done, or memory ran out
use Rattle.std.specs.Prelude.{◌≡◌, ◌⊎◌, ℕ, List, [], ◌∷◌, ◌++◌, Option, codes}
use Rattle.ham_syntax.specs.Objects.{Schema}
use Rattle.ham_syntax.specs.declared.limits.TheConstants.{MAX_OBJECT_BYTES}
use Rattle.ham_bytes.specs.declared.shelf.File.{File}
use Rattle.ham_objfile.specs.Texts.{IsText}
use Rattle.ham_cli.specs.declared.exit.Exit.{Exit}
use Rattle.ham_cli.specs.declared.exit.Exit.TheVariants as exits
use Rattle.ham_cli.specs.Commands.{Asked, Normalizes, Replays, Records, Audits, Checks, Derives, Exemplifies, Tabulates, Bulks, Scripts, beside}
use Rattle.ham_cli.specs.Files.{HasFile, HasBeside, Stops, EndsBeside, EndsUnread}
use Rattle.ham_cli.specs.Told.{Puts, Tells, TellsWhole}
use Rattle.ham_cli.specs.PlayAnswers.{IsReplayed}
use Rattle.ham_cli.specs.RecordAnswers.{IsRecordedWell}
use Rattle.ham_cli.specs.Answers.{Answers, IsMet}

abbrev pub usage_line : List ℕ
usage_line = codes "usage: hamsaz tables OBJECT N; derive OBJECT sc or pr or pl M N; derive OBJECT is M; check OBJECT FILE; normal OBJECT; replay OBJECT SCHEDULE; bulk OBJECT SEED N ROUNDS; script OBJECT SEED N ROUNDS; record OBJECT SCHEDULE; audit OBJECT FILE; example OBJECT sc or pr or pl M N; example OBJECT is M; node OBJECT ME BASES" ++ 10 ∷ []

-- words of no command are answered by the usage line
abbrev pub EndsAsUsage : Option (List ℕ) → Option (List ℕ) → Exit → Type 0
EndsAsUsage before now exit = Puts before now usage_line exits.Usage exit

-- with the object and the bytes of the file beside it, the answer is told; what plays a schedule or draws one tells it as
-- it goes; records that were told whole have no fault, and a script that was is, replayed, the run that `bulk` counts
abbrev pub EndsWith : Schema → Asked → List ℕ → Option (List ℕ) → Option (List ℕ) → Exit → Type 0
EndsWith o (Replays schedule) bytes before now exit = Tells (Answers o (Replays schedule) bytes) before now exit
EndsWith o (Records schedule) bytes before now exit = Tells (Answers o (Records schedule) bytes) before now exit × (exit ≡ exits.Done → IsRecordedWell o bytes)
EndsWith o (Audits file) bytes before now exit = TellsWhole (Answers o (Audits file) bytes) before now exit
EndsWith o (Bulks drawing) bytes before now exit = Tells (Answers o (Bulks drawing) bytes) before now exit
EndsWith o (Scripts drawing) bytes before now exit = Tells (Answers o (Scripts drawing) bytes) before now exit × (exit ≡ exits.Done → IsReplayed o drawing)
EndsWith o Normalizes bytes before now exit = TellsWhole (Answers o Normalizes bytes) before now exit
EndsWith o (Checks file) bytes before now exit = TellsWhole (Answers o (Checks file) bytes) before now exit
EndsWith o (Derives claim) bytes before now exit = TellsWhole (Answers o (Derives claim) bytes) before now exit
EndsWith o (Exemplifies claim) bytes before now exit = TellsWhole (Answers o (Exemplifies claim) bytes) before now exit
EndsWith o (Tabulates replicas) bytes before now exit = TellsWhole (Answers o (Tabulates replicas) bytes) before now exit

-- a command that has its object ends at the file beside it, or has its bytes
abbrev pub EndsOn : Schema → Asked → List File → Option (List ℕ) → Option (List ℕ) → Exit → Type 0
EndsOn o asked files before now exit =
    EndsBeside files (beside asked) before now exit
    ⊎ ((bytes : List ℕ) × HasBeside files (beside asked) bytes × EndsWith o asked bytes before now exit)

-- the bytes of the object's file are no object's text, or an object's
abbrev pub EndsRead : List ℕ → Asked → List File → Option (List ℕ) → Option (List ℕ) → Exit → Type 0
EndsRead text asked files before now exit = EndsUnread text before now exit ⊎ ((o : Schema) × IsText text o × EndsOn o asked files before now exit)

-- a command ends at its object's file, or has its bytes
abbrev pub Ends : List ℕ → Asked → List File → Option (List ℕ) → Option (List ℕ) → Exit → Type 0
Ends object asked files before now exit =
    Stops files object MAX_OBJECT_BYTES before now exit
    ⊎ ((text : List ℕ) × HasFile files object MAX_OBJECT_BYTES text × EndsRead text asked files before now exit)

-- ---- when a command succeeds

-- its files are there, an object's text and what is read beside it, and what is asked is allowed
pub record IsAllowed (object : List ℕ) (asked : Asked) (files : List File) : Type 0 where
  pub text : List ℕ
  pub o : Schema
  pub bytes : List ℕ
  pub file : HasFile files object MAX_OBJECT_BYTES text
  pub is : IsText text o
  pub beside : HasBeside files (beside asked) bytes
  pub met : IsMet o asked bytes

-- A command whose files allow it is done, or memory ran out, unless a count of faults rose.
abbrev pub Completes : List ℕ → Asked → List File → (reads_failed writes_failed : Type 0) → Exit → Type 0
Completes object asked files reads_failed writes_failed exit =
    IsAllowed object asked files → ¬ reads_failed → ¬ writes_failed → (exit ≡ exits.Done) ⊎ (exit ≡ exits.NoMemory)
