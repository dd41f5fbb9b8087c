use Rattle.std.proofs.Common.{[], refl}
use Rattle.ham_turns.specs.declared.turn.What.TheVariants as whats
use Rattle.ham_turns.specs.Words.{PartComes}
use Rattle.ham_runs.specs.Runs.{on_link}
use Rattle.ham_world.specs.Keeping.{notes_of}
use Rattle.ham_world.proofs.Torn.{stays}
use Rattle.ham_world.proofs.Kept.{goes, in_range, links_64}
use Rattle.ham_world.proofs.turn.torn.Goals as goal

pub keep-requires-clause-me : goal.keep-requires-clause-me
keep-requires-clause-me c = in_range c.args.parts.now.object c.args.parts.now.plan c.args.parts.now.notes.items c.args.at c.requires.kept c.requires.replica

pub keep-requires-clause-links : goal.keep-requires-clause-links
keep-requires-clause-links c = links_64 c.args.parts.now.links.items (on_link (notes_of c.args.parts.now.object c.args.parts.now.plan c.args.parts.now.notes.items)) c.requires.keeps.linked

pub returns-in-Ok-clause-goes : goal.returns-in-Ok-clause-goes
returns-in-Ok-clause-goes c = λ f. λ there.
    rw (c.in-Ok.ensures.notes, c.keep.ensures.replicas, c.keep.ensures.decoders)
    (rw (c.new.ensures, c.none-outs.ensures)
    (goes (record { refine = c.turns_refine.ensures; follow = c.inputs_give_runs.ensures.noted; computed = c.inputs_give_runs.ensures.computed; one = c.inputs_give_runs.ensures.one }) c.args.parts.now.object c.args.parts.now.plan c.args.parts.now.replicas.items c.args.parts.now.replicas.items c.args.parts.now.links.items c.keep.new.parts.links.items c.args.parts.now.decoders.items c.args.parts.now.notes.items c.args.parts.now.sent c.keep.new.parts.sent
    c.requires.kept c.requires.keeps c.args.at (PartComes c.args.from c.args.which f) whats.Torn [] [] c.requires.replica there (stays c.args.parts.now.object c.args.parts.now.plan (notes_of c.args.parts.now.object c.args.parts.now.plan c.args.parts.now.notes.items) c.args.parts.now.replicas.items c.args.at c.args.from c.args.which f (c.requires.keeps.each c.args.at c.requires.replica))
    (rw (c.none-outs.ensures) at c.in-Ok.ensures.links) (rw (c.none-outs.ensures) at c.in-Ok.ensures.sent) _ refl))
