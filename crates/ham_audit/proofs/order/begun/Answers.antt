use Rattle.std.proofs.Common.{rules, refl}
use Rattle.ham_audit.proofs.Held.{begun_at}
use Rattle.ham_audit.proofs.order.begun.Goals as goal

pub returns-clause-at : goal.returns-clause-at
returns-clause-at c =
    begun_at c.args.site.now c.args.logs.now _ (search rules) c.in_ok-opened.ensures.contents refl refl c.in_ok-opened.ensures.opened
