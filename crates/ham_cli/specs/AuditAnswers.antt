-- What `audit OBJECT FILE` answers, under the plan that the rules derive from the object, for as many replicas as the records
-- have.
--     IsFaultless     the file is the text of records without a fault
--     IsAccepted      it is, they are sound, and so many calls were decided
--     IsRefused       it is not, by its first bad line or its first fault
use Rattle.std.specs.Prelude.{◌≡◌, ◌⊎◌, ℕ, Bool, true, false, List, [], ◌∷◌, ◌++◌, length, Option, Some, None, Result, Ok, Err, codes}
use Rattle.std.specs.Fmt.{decimal}
use Rattle.ham_syntax.specs.Objects.{Schema}
use Rattle.ham_plan.specs.Plans.{Plan}
use Rattle.ham_laws.specs.Constrained.{IsPlanned}
use Rattle.ham_turns.specs.Settings.{Setting, rules_of, setting_of}
use Rattle.ham_records.specs.declared.records.Logged.{Logged}
use Rattle.ham_records.specs.Texts.{IsAuditText, IsBadLine}
use Rattle.ham_audit.specs.declared.fault.AuditFault.{AuditFault}
use Rattle.ham_audit.specs.declared.fault.AuditFault.TheVariants as faults
use Rattle.ham_audit.specs.Claims.{IsSound}
use Rattle.ham_audit.specs.Faults.{fault_of}
use Rattle.ham_audit.specs.Order.{order}
use Rattle.ham_audit.specs.FaultTexts.{fault_text}
use Rattle.ham_cli.specs.declared.exit.Exit.{Exit}
use Rattle.ham_cli.specs.declared.exit.Exit.TheVariants as exits
use Rattle.ham_cli.specs.declared.audits.AuditRefusal.{AuditRefusal}
use Rattle.ham_cli.specs.declared.audits.AuditRefusal.TheVariants.{BadLine, Fault}
use Rattle.ham_cli.specs.Plans.{IsPlanFor}
use Rattle.ham_cli.specs.Told.{IsTold, line_of}

-- ---- records

-- the derived plan for the records' replicas, which is sound
pub record PlansFor (o : Schema) (records : List (List Logged)) (p : Plan) : Type 0 where
  pub plan : IsPlanFor o (length records) p
  pub sound : IsPlanned o p

-- the bytes are the text of records, in the setting of the derived plan
pub record IsRead (o : Schema) (bytes : List ℕ) : Type 0 where
  pub records : List (List Logged)
  pub text : IsAuditText o records bytes
  pub plan : Plan
  pub derived : IsPlanFor o (length records) plan

-- this is the first fault of the records, if there is one
abbrev pub HasFault : (o : Schema) → (bytes : List ℕ) → Option AuditFault → Type 0
HasFault o bytes fault = (h : IsRead o bytes) × (fault_of (rules_of o) (setting_of h.plan) h.records ≡ fault)

abbrev pub IsFaultless : Schema → List ℕ → Type 0
IsFaultless o bytes = HasFault o bytes None

-- some text spells the records
pub record IsSpelled (o : Schema) (records : List (List Logged)) : Type 0 where
  pub bytes : List ℕ
  pub text : IsAuditText o records bytes

-- ---- verdicts

-- the records have no fault; so they stand for a well-coordinated execution, of so many decided calls
pub record IsAccepted (o : Schema) (bytes : List ℕ) (count : ℕ) : Type 0 where
  pub read : IsRead o bytes
  pub none : fault_of (rules_of o) (setting_of read.plan) read.records ≡ None
  pub sound : IsSound (rules_of o) (setting_of read.plan) read.records
  pub counted : count ≡ length (order (setting_of read.plan) read.records)

abbrev pub IsCause : Schema → List ℕ → AuditRefusal → Type 0
IsCause o bytes (BadLine line) = IsBadLine o bytes line
IsCause o bytes (Fault fault) = HasFault o bytes (Some fault)

-- the bytes are no text of records without a fault, for this cause
pub record IsRefused (o : Schema) (bytes : List ℕ) (why : AuditRefusal) : Type 0 where
  pub cause : IsCause o bytes why
  pub none : IsFaultless o bytes → ⊥

abbrev pub IsVerdict : Schema → List ℕ → Result ℕ AuditRefusal → Type 0
IsVerdict o bytes (Ok count) = IsAccepted o bytes count
IsVerdict o bytes (Err why) = IsRefused o bytes why

-- it was memory that was wanting
abbrev pub is_no_memory : AuditFault → Bool
is_no_memory faults.NoMemory = true
is_no_memory _ = false

-- records in the setting of the derived plan: no fault, or the first; in every setting of such a plan
pub record AreAccepted (o : Schema) (records : List (List Logged)) (count : ℕ) : Type 0 where
  pub plan : Plan
  pub derived : IsPlanFor o (length records) plan
  pub none : fault_of (rules_of o) (setting_of plan) records ≡ None
  pub sound : IsSound (rules_of o) (setting_of plan) records
  pub counted : count ≡ length (order (setting_of plan) records)

pub record AreRefused (o : Schema) (records : List (List Logged)) (fault : AuditFault) : Type 0 where
  pub plan : Plan
  pub derived : IsPlanFor o (length records) plan
  pub first : fault_of (rules_of o) (setting_of plan) records ≡ Some fault
  pub only : (p : Plan) → IsPlanFor o (length records) p → setting_of p ≡ setting_of plan

abbrev pub AnswersRecords : Schema → List (List Logged) → Result ℕ AuditFault → Type 0
AnswersRecords o records (Ok count) = AreAccepted o records count
AnswersRecords o records (Err fault) = is_no_memory fault ≡ false → AreRefused o records fault

-- ---- texts

abbrev pub ok_line : ℕ → List ℕ
ok_line count = codes "ok " ++ (decimal count ++ 10 ∷ [])

abbrev pub bad_line_text : ℕ → List ℕ
bad_line_text line = codes "bad line " ++ decimal line

abbrev pub reason_text : AuditRefusal → List ℕ
reason_text (BadLine line) = bad_line_text line
reason_text (Fault fault) = fault_text fault

abbrev pub audit_refusal : AuditRefusal → List ℕ
audit_refusal why = line_of (codes "audit refused: ") (reason_text why)

-- so many calls were decided, or why the records are refused
abbrev pub AnswersAudit : Schema → List ℕ → Exit → List ℕ → Type 0
AnswersAudit o bytes exit text =
    ((count : ℕ) × IsAccepted o bytes count × IsTold exits.Done (ok_line count) exit text)
    ⊎ ((why : AuditRefusal) × IsRefused o bytes why × IsTold exits.AuditRefused (audit_refusal why) exit text)
