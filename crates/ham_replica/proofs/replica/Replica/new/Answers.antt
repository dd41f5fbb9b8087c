use Rattle.std.proofs.Common.{sym, subst}
use Rattle.ham_site.specs.Sites.{rules_at}
use Rattle.ham_replica.specs.Kept.{IsKept}
use Rattle.ham_replica.proofs.Opened.{opening_kept}
use Rattle.ham_replica.proofs.replica.Replica.new.Goals as goal

pub invariant_of-result : goal.invariant_of-result
invariant_of-result c = subst (IsKept c.in_ok-site.site) (sym c.in_ok-held.ensures.lists) (opening_kept c.in_ok-site.site c.in_ok-held.ensures.site)

pub returns-clause-lists : goal.returns-clause-lists
unfolding rules_at
returns-clause-lists c = c.in_ok-held.ensures.lists
