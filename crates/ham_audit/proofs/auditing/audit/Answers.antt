use Rattle.std.proofs.Common.{◌≡◌, ◌∙◌, sym, subst}
use Rattle.ham_turns.specs.Settings.{rules_of, setting_of}
use Rattle.ham_site.specs.Sites.{rules_at, setting_at}
use Rattle.ham_audit.specs.Claims.{IsRecorded, IsAnswer}
use Rattle.ham_audit.proofs.Answering.{recorded_there, answer_here, needing_there, sound_here}
use Rattle.ham_audit.proofs.auditing.audit.Goals as goal

pub audit_logs-requires-clause-recorded : goal.audit_logs-requires-clause-recorded
audit_logs-requires-clause-recorded c =
    let site = c.in_ok-site.site in
    let same = c.items.ensures ∙ c.in_ok-logs.ensures.logs ∙ c.logs.ensures in
    subst (λ l. IsRecorded (rules_at site) (setting_at site) l) (sym same)
    (recorded_there c.args.object.now c.args.plan.now site c.in_ok-site.ensures c.args.records.now c.requires.recorded)

pub audit_logs-requires-clause-planned : goal.audit_logs-requires-clause-planned
audit_logs-requires-clause-planned c =
    needing_there c.args.object.now c.args.plan.now c.in_ok-site.site c.in_ok-site.ensures (c.plans_are_settings.ensures c.args.object.now c.args.plan.now c.requires.planned).setting

pub returns-clause-answer : goal.returns-clause-answer
returns-clause-answer c =
    let site = c.in_ok-site.site in
    let same = c.items.ensures ∙ c.in_ok-logs.ensures.logs ∙ c.logs.ensures in
    answer_here c.args.object.now c.args.plan.now site c.in_ok-site.ensures c.args.records.now c.audit_logs.result
    (subst (λ l. IsAnswer (rules_at site) (setting_at site) l c.audit_logs.result) same c.audit_logs.ensures)

pub returns-clause-sound : goal.returns-clause-sound
returns-clause-sound c =
    sound_here (rules_of c.args.object.now) (setting_of c.args.plan.now) c.args.records.now c.audit_logs.result
    (c.faultless_records_are_sound.ensures c.args.object.now c.args.plan.now c.requires.planned) c.requires.recorded (returns-clause-answer c)
