use Rattle.std.proofs.Common.{◌≡◌, ◌∙◌, ap, sym, length}
use Rattle.ham_site.specs.Sites.{rules_at, setting_at}
use Rattle.ham_audit.proofs.Answering.{each_few, answers_placed, answers_later, answers_none}
use Rattle.ham_audit.proofs.Small.{few_placed}
use Rattle.ham_audit.proofs.auditing.audit_logs.Goals as goal

pub place_fault-requires-clause-methods : goal.place_fault-requires-clause-methods
place_fault-requires-clause-methods c r e k = c.requires.planned.fits_exist e.act (c.requires.recorded.fits r e k)

pub place_fault-requires-clause-few : goal.place_fault-requires-clause-few
place_fault-requires-clause-few c = each_few c.args.logs.now c.requires.few

pub take_all-requires : goal.take_all-requires
take_all-requires c =
    let none = sym c.place_fault.ensures ∙ c.in_default.is in
    record { recorded = c.requires.recorded; placed = none; few = few_placed c.args.site.now c.args.logs.now c.me-me.ensures.site none }

pub later_fault-requires-clause-under : goal.later_fault-requires-clause-under
later_fault-requires-clause-under c =
    let none = sym c.place_fault.ensures ∙ c.in_default.is in
    record { recorded = c.requires.recorded; placed = none; few = few_placed c.args.site.now c.args.logs.now c.me-me.ensures.site none }
