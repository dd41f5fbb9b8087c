-- What an audit says of the bytes that spell records.
use Rattle.std.proofs.Common.{◌≡◌, ℕ, false, List, length, Option, Some, None, Result, Ok, Err, inr, subst}
use Rattle.std.specs.Prelude.{OnOk, IfOk}
use Rattle.ham_syntax.specs.Objects.{Schema}
use Rattle.ham_plan.specs.Plans.{Plan}
use Rattle.ham_turns.specs.Settings.{Setting, rules_of, setting_of}
use Rattle.ham_records.specs.declared.records.Logged.{Logged}
use Rattle.ham_records.specs.Texts.{IsAuditText, IsBadLine}
use Rattle.ham_audit.specs.declared.fault.AuditFault.{AuditFault}
use Rattle.ham_audit.specs.declared.fault.AuditFault.TheVariants as faults
use Rattle.ham_audit.specs.Claims.{IsAnswer, IsSound}
use Rattle.ham_audit.specs.Faults.{fault_of}
use Rattle.ham_lists.specs.declared.list.NoMemory.{NoMemory}
use Rattle.ham_cli.specs.declared.exit.Exit.TheVariants as exits
use Rattle.ham_cli.specs.declared.writes.Answer.{Answer}
use Rattle.ham_cli.specs.declared.audits.AuditRefusal.{AuditRefusal}
use Rattle.ham_cli.specs.declared.audits.AuditRefusal.TheVariants.{BadLine, Fault}
use Rattle.ham_cli.specs.Plans.{IsPlanFor, HaveOneSetting}
use Rattle.ham_cli.specs.AuditAnswers.{PlansFor, IsFaultless, IsAccepted, IsRefused, IsVerdict, is_no_memory, AreAccepted, AreRefused, AnswersRecords, audit_refusal, AnswersAudit}
use Rattle.ham_cli.specs.Told.{IsTold}

-- a fault that isn't want of memory is the first fault
first : (f : AuditFault) (o : Schema) (p : Plan) (records : List (List Logged)) → IsAnswer (rules_of o) (setting_of p) records (Err f) → is_no_memory f ≡ false → fault_of (rules_of o) (setting_of p) records ≡ Some f
first (faults.BadPlace r i) o p records h n = h
first (faults.Twice r i) o p records h n = h
first (faults.NotDecided r i) o p records h n = h
first (faults.Differs r i) o p records h n = h
first (faults.Gap r i) o p records h n = h
first (faults.Cycle r i) o p records h n = h
first (faults.Impermissible r i outcome) o p records h n = h
first (faults.NeedLate r i need) o p records h n = h
first faults.NoMemory o p records h n = absurd cc

pub answers : HaveOneSetting → (o : Schema) (records : List (List Logged)) (p : Plan) → PlansFor o records p → (r : Result ℕ AuditFault) → IsAnswer (rules_of o) (setting_of p) records r →
    OnOk r (IsSound (rules_of o) (setting_of p) records) → AnswersRecords o records r
answers one o records p plan (Ok count) h sound = record { plan = p; derived = plan.plan; none = h.0; sound = sound; counted = h.1 }
answers one o records p plan (Err f) h sound = λ n.
    record { plan = p; derived = plan.plan; first = first f o p records h n; only = λ q k. one o (length records) q p k plan.plan }

pub accepted : (o : Schema) (bytes : List ℕ) (records : List (List Logged)) (count : ℕ) → IsAuditText o records bytes → AreAccepted o records count → IsAccepted o bytes count
accepted o bytes records count text h = record {
  read = record { records = records; text = text; plan = h.plan; derived = h.derived };
  none = h.none;
  sound = h.sound;
  counted = h.counted;
}

not_both : (x : Option AuditFault) (f : AuditFault) → x ≡ None → x ≡ Some f → ⊥
not_both None f e h = absurd cc
not_both (Some g) f e h = absurd cc

pub refused : (o : Schema) (bytes : List ℕ) (records : List (List Logged)) (f : AuditFault) → IsAuditText o records bytes → ((others : List (List Logged)) → IsAuditText o others bytes → others ≡ records) →
    AreRefused o records f → IsRefused o bytes (Fault f)
refused o bytes records f text one h = record {
  cause = (record { records = records; text = text; plan = h.plan; derived = h.derived }, h.first);
  none = λ (g : IsFaultless o bytes).
      let same : g.0.records ≡ records = one g.0.records g.0.text in
      let plan : IsPlanFor o (length records) g.0.plan = subst (λ (l : List (List Logged)). IsPlanFor o (length l) g.0.plan) same g.0.derived in
      let setting : setting_of g.0.plan ≡ setting_of h.plan = h.only g.0.plan plan in
      let none : fault_of (rules_of o) (setting_of h.plan) records ≡ None =
      subst (λ (y : Setting). fault_of (rules_of o) y records ≡ None) setting (subst (λ (l : List (List Logged)). fault_of (rules_of o) (setting_of g.0.plan) l ≡ None) same g.1) in
      not_both (fault_of (rules_of o) (setting_of h.plan) records) f none h.first;
}

pub ill_spelled : (o : Schema) (bytes : List ℕ) (line : ℕ) → IsBadLine o bytes line → ((records : List (List Logged)) → IsAuditText o records bytes → ⊥) → IsRefused o bytes (BadLine line)
ill_spelled o bytes line bad none = record { cause = bad; none = λ (g : IsFaultless o bytes). none g.0.records g.0.text }

-- what was found was told
pub told_refused : (o : Schema) (bytes : List ℕ) (found : Result ℕ AuditRefusal) (why : AuditRefusal) (r : Result Answer NoMemory) → IsVerdict o bytes found → found ≡ Err why → IfOk r (λ a. IsTold exits.AuditRefused (audit_refusal why) a.exit a.text)
    → IfOk r (λ a. AnswersAudit o bytes a.exit a.text)
told_refused o bytes found why (Ok a) is e told = inr (why, subst (IsVerdict o bytes) e is, told)
told_refused o bytes found why (Err x) is e told = tt
