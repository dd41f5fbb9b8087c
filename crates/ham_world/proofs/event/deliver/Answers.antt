use Rattle.std.proofs.Common.{true, arith, refl, ◌+◌, ◌-◌}
use Rattle.ham_runs.specs.Runs.{on_link}
use Rattle.ham_world.specs.Worlds.{is_sent}
use Rattle.ham_turns.specs.Settings.{setting_of}
use Rattle.ham_world.specs.Keeping.{notes_of}
use Rattle.ham_world.proofs.Kept.{few_replicas}
use Rattle.ham_world.proofs.Events.{link_taken, numbered_within}
use Rattle.ham_turns.specs.declared.event.Event.TheVariants as events
use Rattle.ham_runs.specs.Next.Input.{Deliver}
use Rattle.ham_world.proofs.Taken.{is_allowed, same_range, same_halt}
use Rattle.ham_world.proofs.event.deliver.Goals as goal

pub overflow_cast-from : goal.overflow_cast-from
overflow_cast-from c = omega (arith, few_replicas c.args.parts.now.object c.args.parts.now.plan c.args.parts.now.notes.items c.args.from c.requires.kept (link_taken (setting_of c.args.parts.now.plan) (notes_of c.args.parts.now.object c.args.parts.now.plan c.args.parts.now.notes.items) c.args.from c.args.to (is_sent (notes_of c.args.parts.now.object c.args.parts.now.plan c.args.parts.now.notes.items) c.args.from c.args.to c.args.frame) true c.requires.allowed).linked.from_is)

pub overflow_cast-to : goal.overflow_cast-to
overflow_cast-to c = omega (arith, few_replicas c.args.parts.now.object c.args.parts.now.plan c.args.parts.now.notes.items c.args.to c.requires.kept (link_taken (setting_of c.args.parts.now.plan) (notes_of c.args.parts.now.object c.args.parts.now.plan c.args.parts.now.notes.items) c.args.from c.args.to (is_sent (notes_of c.args.parts.now.object c.args.parts.now.plan c.args.parts.now.notes.items) c.args.from c.args.to c.args.frame) true c.requires.allowed).linked.to_is)

pub frames-requires-clause-last : goal.frames-requires-clause-last
frames-requires-clause-last c = (numbered_within (on_link (notes_of c.args.parts.now.object c.args.parts.now.plan c.args.parts.now.notes.items) c.args.from c.args.to) c.args.frame (link_taken (setting_of c.args.parts.now.plan) (notes_of c.args.parts.now.object c.args.parts.now.plan c.args.parts.now.notes.items) c.args.from c.args.to (is_sent (notes_of c.args.parts.now.object c.args.parts.now.plan c.args.parts.now.notes.items) c.args.from c.args.to c.args.frame) true c.requires.allowed).sent).1

pub returns-in-Ok-clause-leaves : goal.returns-in-Ok-clause-leaves
returns-in-Ok-clause-leaves c = record {
  allowed = is_allowed c.args.parts.now.object (setting_of c.args.parts.now.plan) (notes_of c.args.parts.now.object c.args.parts.now.plan c.args.parts.now.notes.items) (events.Deliver c.args.from c.args.to c.args.frame) c.requires.allowed refl;
  comes = same_range c.args.parts.now.object c.args.parts.now.plan c.frames.new.parts.replicas.items c.frames.new.parts.links.items c.frames.new.parts.decoders.items c.args.parts.now.notes.items c.frames.new.parts.notes.items c.frames.new.parts.sent (Deliver c.args.to c.args.from) c.args.frame (c.args.frame + 1 - c.args.frame) (omega arith) c.in-Ok.ensures.comes;
}

pub returns-in-Err-clause-leaves : goal.returns-in-Err-clause-leaves
returns-in-Err-clause-leaves c = same_halt c.args.parts.now.object c.args.parts.now.plan c.args.parts.now.notes.items c.frames.new.parts.notes.items (Deliver c.args.to c.args.from) c.args.frame (c.args.frame + 1 - c.args.frame) (omega arith) c.in-Err.ensures.halts
