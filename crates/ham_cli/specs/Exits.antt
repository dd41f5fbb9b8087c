-- Exits, and their causes.
use Rattle.std.specs.Prelude.{ℕ}
use Rattle.ham_bytes.specs.Causes.{Rose}
use Rattle.ham_bytes.specs.declared.shelf.FetchFault.{FetchFault}
use Rattle.ham_bytes.specs.declared.shelf.FetchFault.TheVariants as fetches
use Rattle.ham_replay.specs.declared.end.ReplayEnd.{ReplayEnd}
use Rattle.ham_replay.specs.declared.end.ReplayEnd.TheVariants as ends
use Rattle.ham_cli.specs.declared.exit.Exit.{Exit}
use Rattle.ham_cli.specs.declared.exit.Exit.TheVariants as exits

-- the status of the process
abbrev pub status_of : Exit → ℕ
status_of exits.Done = 0
status_of exits.Usage = 1
status_of exits.ObjectRefused = 2
status_of exits.ScheduleRefused = 3
status_of exits.ReadFault = 4
status_of exits.WriteFault = 5
status_of exits.NoMemory = 6
status_of exits.TooLong = 7
status_of exits.DerivationRefused = 8
status_of exits.AuditRefused = 10

abbrev pub exit_of_fetch : FetchFault → Exit
exit_of_fetch fetches.Failed = exits.ReadFault
exit_of_fetch (fetches.TooLong limit) = exits.TooLong
exit_of_fetch fetches.NoMemory = exits.NoMemory

abbrev pub exit_of_replay : ReplayEnd → Exit
exit_of_replay ends.Done = exits.Done
exit_of_replay (ends.Refused line why) = exits.ScheduleRefused
exit_of_replay ends.WriteFault = exits.WriteFault
exit_of_replay ends.NoMemory = exits.NoMemory

-- a fault of the shelf or of the sink comes only where its count rose
abbrev pub IsCounted : (shelf shelf_now sink sink_now : ℕ) → Exit → Type 0
IsCounted shelf shelf_now sink sink_now exits.ReadFault = Rose shelf shelf_now
IsCounted shelf shelf_now sink sink_now exits.WriteFault = Rose sink sink_now
IsCounted shelf shelf_now sink sink_now _ = Unit {0}

-- the same of what only writes
abbrev pub IsSinkCounted : (sink sink_now : ℕ) → Exit → Type 0
IsSinkCounted sink sink_now exits.ReadFault = ⊥
IsSinkCounted sink sink_now exits.WriteFault = Rose sink sink_now
IsSinkCounted sink sink_now _ = Unit {0}
