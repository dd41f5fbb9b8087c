use Rattle.std.proofs.Common.{sym}
use Rattle.ham_cli.proofs.Auditing.{answers}
use Rattle.ham_cli.proofs.audits.audit_records.Goals as goal

pub audit-requires-clause-planned : goal.audit-requires-clause-planned
audit-requires-clause-planned c = c.plan_for-plan.ensures.sound

pub audit-requires-clause-recorded : goal.audit-requires-clause-recorded
audit-requires-clause-recorded c =
    c.texts_are_recorded.ensures c.args.object.now c.plan_for-plan.result c.args.records.now c.requires.bytes c.requires.text (sym c.plan_for-plan.ensures.plan.replicas_are)

pub returns : goal.returns
returns c = answers c.derived_plans_have_one_setting.ensures c.args.object.now c.args.records.now c.plan_for-plan.result c.plan_for-plan.ensures c.audit.result c.audit.ensures.answer c.audit.ensures.sound
