use Rattle.std.proofs.Common.{ℕ, sym, subst}
use Rattle.ham_cli.specs.declared.audits.AuditRefusal.{AuditRefusal}
use Rattle.ham_cli.specs.declared.audits.AuditRefusal.TheVariants.{BadLine}
use Rattle.ham_cli.specs.AuditAnswers.{IsRefused}
use Rattle.ham_cli.proofs.Auditing.{accepted, refused, ill_spelled}
use Rattle.ham_cli.proofs.audits.audit_bytes.Goals as goal

pub returns-in-Err-BadLine : goal.returns-in-Err-BadLine
returns-in-Err-BadLine c =
    subst (λ (n : ℕ). IsRefused c.args.object.now c.args.bytes.now (BadLine n)) (sym c.in-Err-BadLine.line-is)
    (ill_spelled c.args.object.now c.args.bytes.now c.in-Err-BadLine.line (c.in-Err-BadLine.ensures.bad_line c.in-Err-BadLine.line (cc)) (c.in-Err-BadLine.ensures.refused c.in-Err-BadLine.line (cc)))

pub returns-in-Ok-audit_records : goal.returns-in-Ok-audit_records
returns-in-Ok-audit_records c = accepted c.args.object.now c.args.bytes.now c.in-Ok.records c.in-Ok-audit_records.count c.in-Ok.ensures.text c.in-Ok-audit_records.ensures

pub returns : goal.returns
returns c =
    subst (λ (x : AuditRefusal). IsRefused c.args.object.now c.args.bytes.now x) (sym c.in_ok-refusal_of-in-Err.ensures.0)
    (refused c.args.object.now c.args.bytes.now c.in-Ok.records c.in-Err.fault c.in-Ok.ensures.text c.in-Ok.ensures.one (c.in-Err.ensures c.in_ok-refusal_of-in-Err.ensures.1))
