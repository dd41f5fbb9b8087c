use Rattle.std.proofs.Common.{arith, refl}
use Rattle.ham_runs.specs.Runs.{on_link}
use Rattle.ham_world.specs.Worlds.{is_sent}
use Rattle.ham_turns.specs.Settings.{setting_of}
use Rattle.ham_world.specs.Worlds.{part_fits}
use Rattle.ham_world.specs.Keeping.{notes_of}
use Rattle.ham_world.proofs.Kept.{few_replicas}
use Rattle.ham_world.proofs.Events.{link_taken}
use Rattle.ham_turns.specs.declared.event.Event.TheVariants as events
use Rattle.ham_world.proofs.Taken.{is_allowed}
use Rattle.ham_world.proofs.event.torn.Goals as goal

pub overflow_cast-from : goal.overflow_cast-from
overflow_cast-from c = omega (arith, few_replicas c.args.parts.now.object c.args.parts.now.plan c.args.parts.now.notes.items c.args.from c.requires.kept (link_taken (setting_of c.args.parts.now.plan) (notes_of c.args.parts.now.object c.args.parts.now.plan c.args.parts.now.notes.items) c.args.from c.args.to (is_sent (notes_of c.args.parts.now.object c.args.parts.now.plan c.args.parts.now.notes.items) c.args.from c.args.to c.args.frame) (part_fits (on_link (notes_of c.args.parts.now.object c.args.parts.now.plan c.args.parts.now.notes.items) c.args.from c.args.to) c.args.frame c.args.bytes) c.requires.allowed).linked.from_is)

pub overflow_cast-to : goal.overflow_cast-to
overflow_cast-to c = omega (arith, few_replicas c.args.parts.now.object c.args.parts.now.plan c.args.parts.now.notes.items c.args.to c.requires.kept (link_taken (setting_of c.args.parts.now.plan) (notes_of c.args.parts.now.object c.args.parts.now.plan c.args.parts.now.notes.items) c.args.from c.args.to (is_sent (notes_of c.args.parts.now.object c.args.parts.now.plan c.args.parts.now.notes.items) c.args.from c.args.to c.args.frame) (part_fits (on_link (notes_of c.args.parts.now.object c.args.parts.now.plan c.args.parts.now.notes.items) c.args.from c.args.to) c.args.frame c.args.bytes) c.requires.allowed).linked.to_is)

pub returns-in-Ok-clause-leaves : goal.returns-in-Ok-clause-leaves
returns-in-Ok-clause-leaves c = record {
  allowed = is_allowed c.args.parts.now.object (setting_of c.args.parts.now.plan) (notes_of c.args.parts.now.object c.args.parts.now.plan c.args.parts.now.notes.items) (events.Torn c.args.from c.args.to c.args.frame c.args.bytes) c.requires.allowed refl;
  comes = c.in-Ok.ensures.comes;
}
