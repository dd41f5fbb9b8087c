use Rattle.std.proofs.Common.{◌∙◌}
use Rattle.ham_world.specs.Keeping.{notes_of}
use Rattle.ham_world.proofs.Looked.{state_of, opened_for}
use Rattle.ham_world.proofs.look.state.Goals as goal

pub returns : goal.returns
returns c = record {
  state = c.state.ensures.state ∙ state_of c.args.parts.now.object c.args.parts.now.plan (notes_of c.args.parts.now.object c.args.parts.now.plan c.args.parts.now.notes.items) c.args.parts.now.replicas.items c.args.replica c.replica_at.result.now (c.requires.keeps.each c.args.replica c.requires.replica) c.replica_at.ensures;
  opened = c.state.ensures.opened ∙ opened_for c.args.parts.now.object c.args.parts.now.plan (notes_of c.args.parts.now.object c.args.parts.now.plan c.args.parts.now.notes.items) c.args.parts.now.replicas.items c.args.replica c.replica_at.result.now (c.requires.keeps.each c.args.replica c.requires.replica) c.replica_at.ensures;
}
