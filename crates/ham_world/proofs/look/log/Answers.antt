use Rattle.std.proofs.Common.{◌∙◌}
use Rattle.ham_world.specs.Keeping.{notes_of}
use Rattle.ham_world.proofs.Looked.{log_at}
use Rattle.ham_world.proofs.look.log.Goals as goal

pub returns : goal.returns
returns c = c.log.ensures.log ∙ log_at c.args.parts.now.object c.args.parts.now.plan (notes_of c.args.parts.now.object c.args.parts.now.plan c.args.parts.now.notes.items) c.args.parts.now.replicas.items c.args.replica c.replica_at.result.now (c.requires.keeps.each c.args.replica c.requires.replica) c.replica_at.ensures
