use Rattle.ham_meaning.proofs.Small.{small_net}
use Rattle.ham_meaning.proofs.meaning.guards_of.Goals as goal

pub returns-clause-small_steps : goal.returns-clause-small_steps
returns-clause-small_steps c = small_net c.args.object.now c.args.act.now c.methods.ensures.checked c.requires
