use Rattle.ham_audit.proofs.Timely.{method_of}
use Rattle.ham_audit.proofs.needs.is_late.Goals as goal

pub is_need-requires-clause-call : goal.is_need-requires-clause-call
is_need-requires-clause-call c = method_of c.args.site.now c.args.plan.now c.args.logs.now c.requires.under c.requires.planned c.requires.plan c.args.call.now c.requires.call

pub is_need-requires-clause-other : goal.is_need-requires-clause-other
is_need-requires-clause-other c = method_of c.args.site.now c.args.plan.now c.args.logs.now c.requires.under c.requires.planned c.requires.plan c.args.other.now c.requires.other
