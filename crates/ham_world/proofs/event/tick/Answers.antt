use Rattle.std.proofs.Common.{arith, refl}
use Rattle.ham_turns.specs.Settings.{setting_of}
use Rattle.ham_world.specs.Keeping.{notes_of}
use Rattle.ham_world.proofs.Kept.{few_replicas}
use Rattle.ham_world.proofs.Events.{replica_taken}
use Rattle.ham_turns.specs.declared.event.Event.TheVariants as events
use Rattle.ham_turns.specs.Words.{Beat}
use Rattle.ham_world.specs.Worlds.{inputs_of}
use Rattle.ham_world.proofs.Taken.{is_allowed, one_comes, halts_at_once}
use Rattle.ham_world.proofs.event.tick.Goals as goal

pub overflow_cast-at : goal.overflow_cast-at
overflow_cast-at c = omega (arith, few_replicas c.args.parts.now.object c.args.parts.now.plan c.args.parts.now.notes.items c.args.at c.requires.kept (replica_taken (setting_of c.args.parts.now.plan) (notes_of c.args.parts.now.object c.args.parts.now.plan c.args.parts.now.notes.items) c.args.at c.requires.allowed).replica)

pub returns-in-Ok-clause-leaves : goal.returns-in-Ok-clause-leaves
returns-in-Ok-clause-leaves c = record {
  allowed = is_allowed c.args.parts.now.object (setting_of c.args.parts.now.plan) (notes_of c.args.parts.now.object c.args.parts.now.plan c.args.parts.now.notes.items) (events.Tick c.args.at) c.requires.allowed refl;
  comes = one_comes c.args.parts.now.object c.args.parts.now.plan c.tick.new.parts.replicas.items c.tick.new.parts.links.items c.tick.new.parts.decoders.items c.args.parts.now.notes.items c.tick.new.parts.notes.items c.tick.new.parts.sent c.args.at Beat c.in-Ok.ensures.goes;
}

pub returns-in-Err-clause-leaves : goal.returns-in-Err-clause-leaves
returns-in-Err-clause-leaves c = halts_at_once c.args.parts.now.object c.args.parts.now.plan c.args.parts.now.notes.items c.tick.new.parts.notes.items (inputs_of (events.Tick c.args.at)) c.in-Err.ensures.notes c.requires.kept
