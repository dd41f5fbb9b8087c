use Rattle.std.proofs.Common.{◌^◌, arith}
use Rattle.ham_meaning.proofs.Bounded.{wider}
use Rattle.ham_site.proofs.Bounds.{values_within, steps_applied}
use Rattle.ham_site.proofs.site.Site.apply.Goals as goal

pub apply_net-requires-clause-values : goal.apply_net-requires-clause-values
apply_net-requires-clause-values c = values_within c.args.state.now.content c.requires.small

pub apply_net-requires-clause-small : goal.apply_net-requires-clause-small
apply_net-requires-clause-small c = wider (2 ^ 32) (2 ^ 50) (omega arith) c.args.steps.now c.requires.steps.small

pub returns-clause-applied : goal.returns-clause-applied
returns-clause-applied c = steps_applied c.args.self.now c.args.act.now c.args.steps.now c.args.state.now.content c.apply_net.new.self.content c.apply_net.result c.requires.steps c.apply_net.ensures.applied
