use Rattle.ham_runs.specs.Runs.{on_link}
use Rattle.ham_turns.specs.Settings.{setting_of}
use Rattle.ham_world.specs.Keeping.{notes_of}
use Rattle.ham_world.proofs.Kept.{links_64}
use Rattle.ham_world.proofs.Taken.{world_leaves}
use Rattle.ham_world.proofs.event.step.Goals as goal

pub refusal-requires : goal.refusal-requires
refusal-requires c = record { links = links_64 c.args.parts.now.links.items (on_link (notes_of c.args.parts.now.object c.args.parts.now.plan c.args.parts.now.notes.items)) c.requires.keeps.linked }

pub returns-in-Some-clause-leaves : goal.returns-in-Some-clause-leaves
returns-in-Some-clause-leaves c =
    world_leaves c.args.parts.now.object c.args.parts.now.plan c.args.parts.now.replicas.items c.args.parts.now.links.items c.args.parts.now.decoders.items c.args.parts.now.notes.items c.args.parts.now.sent c.args.event.now c.in-Some.why
    c.requires.keeps c.requires.kept (c.refusal.ensures (notes_of c.args.parts.now.object c.args.parts.now.plan c.args.parts.now.notes.items) c.requires.keeps.linked c.requires.keeps.total) c.in-Some.is
