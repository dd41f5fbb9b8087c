use Rattle.ham_cli.proofs.Auditing.{told_refused}
use Rattle.ham_cli.proofs.audits.audit_text.Goals as goal

pub returns-in-Err-clause-answer : goal.returns-in-Err-clause-answer
returns-in-Err-clause-answer c = told_refused _ _ _ _ c.answer.result c.in_ok-count.ensures c.in-Err.is c.answer.ensures.answer
