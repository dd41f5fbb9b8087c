use Rattle.ham_site.specs.Sites.{rules_at}
use Rattle.ham_site.proofs.site.Site.args_fit.Goals as goal

pub returns-clause-frame : goal.returns-clause-frame
unfolding rules_at
returns-clause-frame c = λ fits. c.self.invariant.0.ranged.act c.args.act.now (rw (c.args_fit.ensures) at fits) c.count_args-many.ensures
