-- What is true of records without a fault, and of the logs of a run.
use Rattle.std.specs.Prelude.{◌≡◌, ℕ, IsTrue, List, map, length, Some, None, Result, Ok, Err}
use Rattle.std.specs.List.{range_with_len}
use Rattle.ham_plan.specs.Lists.{In, SameCalls}
use Rattle.ham_laws.specs.Executions.{IsWellCoordinated}
use Rattle.ham_laws.specs.Coordinated.{HoldsThroughout, EndAlike}
use Rattle.ham_syntax.specs.Objects.{Schema}
use Rattle.ham_plan.specs.Plans.{Plan}
use Rattle.ham_turns.specs.Settings.{Rules, Setting, rules_of, setting_of, meaning_by}
use Rattle.ham_runs.specs.Facts.{constraints}
use Rattle.ham_runs.specs.Runs as runs
use Rattle.ham_records.specs.declared.records.Logged.{Logged}
use Rattle.ham_records.specs.Texts.{IsAuditText}
use Rattle.ham_audit.specs.declared.fault.AuditFault.{AuditFault}
use Rattle.ham_audit.specs.declared.fault.AuditFault.TheVariants.{NoMemory}
use Rattle.ham_audit.specs.Records.{log_of, places}
use Rattle.ham_audit.specs.Order.{order, audited}
use Rattle.ham_audit.specs.Faults.{fault_of}

-- a log for each replica, and acts that fit
pub record IsRecorded (x : Rules) (y : Setting) (records : List (List Logged)) : Type 0 where
  pub replicas : length records ≡ y.replicas
  pub fits : (r : ℕ) (e : Logged) → In e (log_of records r) → IsTrue (x.fits e.act)

-- the number of decided calls where no fault stands, else the first fault
abbrev pub IsAnswer : Rules → Setting → List (List Logged) → Result ℕ AuditFault → Type 0
IsAnswer x y records (Ok n) = (fault_of x y records ≡ None) × (n ≡ length (order y records))
IsAnswer x y records (Err NoMemory) = Unit {0}
IsAnswer x y records (Err fault) = fault_of x y records ≡ Some fault

-- records without a fault stand for a well-coordinated execution
pub record IsSound (x : Rules) (y : Setting) (records : List (List Logged)) : Type 0 where
  pub well : IsWellCoordinated (meaning_by x) (constraints y) (audited y records)
  -- the act of each logged call is the one that was decided
  pub acts : (r : ℕ) (e : Logged) → In e (log_of records r) → (audited y records).act e.place ≡ e.act
  pub invariant : (r : ℕ) → HoldsThroughout (meaning_by x) (audited y records) (places (log_of records r))
  pub agree : (r q : ℕ) → SameCalls (places (log_of records r)) (places (log_of records q)) →
      EndAlike (meaning_by x) (audited y records) (places (log_of records r)) (places (log_of records q))

abbrev pub FaultlessAreSound : Rules → Setting → Type 0
FaultlessAreSound x y = (records : List (List Logged)) → IsRecorded x y records → fault_of x y records ≡ None → IsSound x y records

-- the logs of a run, with the acts of their calls
abbrev pub logs_of_run : Setting → List runs.Note → List (List Logged)
logs_of_run y notes =
    map (λ r. map (λ c. record { place = c; act = (runs.execution notes).act c }) (runs.log_of notes r)) (range_with_len 1 y.replicas)

abbrev pub RunsHaveNoFault : Rules → Setting → Type 0
RunsHaveNoFault x y = (notes : List runs.Note) → runs.IsRun x y notes → IsRecorded x y (logs_of_run y notes) × (fault_of x y (logs_of_run y notes) ≡ None)

-- the records of a text, under a plan for as many replicas as it names
abbrev pub TextsAreRecorded : Schema → Plan → Type 0
TextsAreRecorded o p = (records : List (List Logged)) (bytes : List ℕ) → IsAuditText o records bytes → length records ≡ p.replicas → IsRecorded (rules_of o) (setting_of p) records
