-- How a replica ends, and what it writes.
use Rattle.std.specs.Prelude.{◌≡◌, ℕ, ◌+◌, ◌*◌, ◌⊎◌, List, [], ◌∷◌, ◌++◌, Option, codes, ⊤}
use Rattle.std.specs.Fmt.{decimal}
use Rattle.ham_bytes.specs.Causes.{Rose}
use Rattle.ham_bytes.specs.Outside.{TakesWhole, TakesSome}
use Rattle.ham_syntax.specs.Objects.{Schema}
use Rattle.ham_plan.specs.Plans.{Plan}
use Rattle.ham_workers.specs.declared.opening.OpeningFault.{OpeningFault}
use Rattle.ham_workers.specs.declared.opening.OpeningFault.TheVariants as openings
use Rattle.ham_workers.specs.declared.run.ReplicaEnd.{ReplicaEnd}
use Rattle.ham_workers.specs.declared.run.ReplicaEnd.TheVariants as ends
use Rattle.ham_workers.specs.Sums.{IsSumOf}

-- the ticker, four workers for clients, and for each peer one that reads and one that feeds
abbrev pub seats_of : ℕ → ℕ
seats_of replicas = 2 * replicas + 3

-- ---- texts

abbrev pub ready_line : List ℕ
ready_line = codes "ready" ++ 10 ∷ []

abbrev pub stopped_line : ℕ → List ℕ
stopped_line entries = codes "stopped " ++ (decimal entries ++ 10 ∷ [])

abbrev pub node_text : ℕ → List ℕ
node_text entries = ready_line ++ stopped_line entries

-- ---- ends

-- so many entries were made by the workers of this node, and a text with this number is written
abbrev pub Counts : Schema → Plan → ℕ → (ℕ → Type 0) → Type 0
Counts o p me Tells = (entries : ℕ) × IsSumOf o p me entries (seats_of p.replicas) × Tells entries

-- Stopped: the text is written to its end. BoardFault: nothing is written. WriteFault: a front of the text. NoMemory: nothing
-- or the first line.
abbrev pub EndsRun : Schema → Plan → ℕ → Option (List ℕ) → Option (List ℕ) → ReplicaEnd → Type 0
EndsRun o p me before now ends.Stopped = Counts o p me (λ entries. TakesWhole before now (node_text entries))
EndsRun o p me before now ends.BoardFault = TakesWhole before now []
EndsRun o p me before now ends.WriteFault = TakesSome before now ready_line ⊎ Counts o p me (λ entries. TakesSome before now (node_text entries))
EndsRun o p me before now ends.NoMemory = TakesWhole before now [] ⊎ TakesWhole before now ready_line

-- the same of the last line alone
abbrev pub PutsStopped : Option (List ℕ) → Option (List ℕ) → ℕ → ReplicaEnd → Type 0
PutsStopped before now entries ends.Stopped = TakesWhole before now (stopped_line entries)
PutsStopped before now entries ends.WriteFault = TakesSome before now (stopped_line entries)
PutsStopped before now entries ends.NoMemory = TakesWhole before now []
PutsStopped before now entries ends.BoardFault = ⊥

-- ---- causes

abbrev pub IsOpeningFault : ℕ → ℕ → OpeningFault → Type 0
IsOpeningFault board board_now openings.Board = Rose board board_now
IsOpeningFault board board_now openings.NoMemory = ⊤

-- a fault of the board or of the sink comes only where its count rose
abbrev pub IsRunCounted : (board board_now sink sink_now : ℕ) → ReplicaEnd → Type 0
IsRunCounted board board_now sink sink_now ends.Stopped = ⊤
IsRunCounted board board_now sink sink_now ends.BoardFault = Rose board board_now
IsRunCounted board board_now sink sink_now ends.WriteFault = Rose sink sink_now
IsRunCounted board board_now sink sink_now ends.NoMemory = ⊤
