use Rattle.std.proofs.Common.{sym, subst}
use Rattle.ham_cli.specs.declared.command.Task.{Task}
use Rattle.ham_cli.specs.Commands.{seen}
use Rattle.ham_cli.specs.AuditAnswers.{AnswersAudit}
use Rattle.ham_cli.specs.CheckAnswers.{AnswersCheck}
use Rattle.ham_cli.specs.Top.{EndsWith}
use Rattle.ham_cli.proofs.Telling.{told_whole}
use Rattle.ham_cli.proofs.answer.answer.Goals as goal

pub returns-in-Check-clause-ends : goal.returns-in-Check-clause-ends
returns-in-Check-clause-ends g c =
    subst (λ (t : Task). EndsWith c.args.object.now (seen t) c.args.bytes.now (g.K.Sink.taken c.args.out.now) (g.K.Sink.taken c.put_answer-in-Check.new.out) c.put_answer-in-Check.result) (sym c.in-Check.is)
    (told_whole (AnswersCheck c.args.object.now c.args.bytes.now) _ _ _ _ c.check_text.ensures.answer c.check_text.ensures.end c.put_answer-in-Check.ensures.ends)

pub returns-in-Audit-clause-ends : goal.returns-in-Audit-clause-ends
returns-in-Audit-clause-ends g c =
    subst (λ (t : Task). EndsWith c.args.object.now (seen t) c.args.bytes.now (g.K.Sink.taken c.args.out.now) (g.K.Sink.taken c.put_answer-in-Audit.new.out) c.put_answer-in-Audit.result) (sym c.in-Audit.is)
    (told_whole (AnswersAudit c.args.object.now c.args.bytes.now) _ _ _ _ c.audit_text.ensures.answer c.audit_text.ensures.end c.put_answer-in-Audit.ensures.ends)
