use Rattle.std.proofs.Common.{arith}
use Rattle.ham_world.specs.Keeping.{notes_of}
use Rattle.ham_world.proofs.Kept.{within}
use Rattle.ham_world.proofs.Looked.{read_replica}
use Rattle.ham_world.proofs.look.replica_at.Goals as goal

pub index-requires : goal.index-requires
index-requires c = omega (arith, c.from.ensures, c.requires.replica.0, within c.args.parts.now.object c.args.parts.now.plan (notes_of c.args.parts.now.object c.args.parts.now.plan c.args.parts.now.notes.items) c.args.parts.now.replicas.items c.args.replica c.requires.replica (c.requires.keeps.each c.args.replica c.requires.replica))

pub returns : goal.returns
returns c = read_replica c.args.parts.now.replicas.items c.args.replica c.from.result c.index.result.now c.from.ensures c.requires.replica.0
    (within c.args.parts.now.object c.args.parts.now.plan (notes_of c.args.parts.now.object c.args.parts.now.plan c.args.parts.now.notes.items) c.args.parts.now.replicas.items c.args.replica c.requires.replica (c.requires.keeps.each c.args.replica c.requires.replica)) c.index.ensures
