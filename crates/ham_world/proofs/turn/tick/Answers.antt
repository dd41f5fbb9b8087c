use Rattle.std.proofs.Common.{◌≡◌, Bool, true, refl, subst}
use Rattle.ham_turns.specs.declared.turn.What.TheVariants as whats
use Rattle.ham_turns.specs.Words.{Beat}
use Rattle.ham_runs.specs.Runs.{on_link}
use Rattle.ham_world.specs.Keeping.{notes_of, TurnsAt}
use Rattle.ham_world.proofs.Kept.{goes, settled_at, within, sendable, in_range, links_64}
use Rattle.ham_world.proofs.turn.tick.Goals as goal

pub tick-requires-clause-settled : goal.tick-requires-clause-settled
tick-requires-clause-settled c = settled_at c.args.parts.now.object c.args.parts.now.plan (notes_of c.args.parts.now.object c.args.parts.now.plan c.args.parts.now.notes.items) c.args.parts.now.replicas.items c.args.at (c.requires.keeps.each c.args.at c.requires.replica)

pub tick-requires-clause-within : goal.tick-requires-clause-within
tick-requires-clause-within c = within c.args.parts.now.object c.args.parts.now.plan (notes_of c.args.parts.now.object c.args.parts.now.plan c.args.parts.now.notes.items) c.args.parts.now.replicas.items c.args.at c.requires.replica (c.requires.keeps.each c.args.at c.requires.replica)

pub keep-requires-clause-me : goal.keep-requires-clause-me
keep-requires-clause-me c = in_range c.args.parts.now.object c.args.parts.now.plan c.args.parts.now.notes.items c.args.at c.requires.kept c.requires.replica

pub keep-requires-clause-links : goal.keep-requires-clause-links
keep-requires-clause-links c = links_64 c.args.parts.now.links.items (on_link (notes_of c.args.parts.now.object c.args.parts.now.plan c.args.parts.now.notes.items)) c.requires.keeps.linked

pub keep-requires-clause-on : goal.keep-requires-clause-on
keep-requires-clause-on c = (sendable c.args.parts.now.object c.args.parts.now.plan c.args.parts.now.notes.items (notes_of c.args.parts.now.object c.args.parts.now.plan c.args.parts.now.notes.items) c.args.parts.now.replicas.items _ c.args.at _ _ _ _ _ c.requires.kept (c.requires.keeps.each c.args.at c.requires.replica) (c.in-Ok.ensures.turn)).on

pub keep-requires-clause-sends : goal.keep-requires-clause-sends
keep-requires-clause-sends c = (sendable c.args.parts.now.object c.args.parts.now.plan c.args.parts.now.notes.items (notes_of c.args.parts.now.object c.args.parts.now.plan c.args.parts.now.notes.items) c.args.parts.now.replicas.items _ c.args.at _ _ _ _ _ c.requires.kept (c.requires.keeps.each c.args.at c.requires.replica) (c.in-Ok.ensures.turn)).few

pub returns-in-Ok-keep-clause-goes : goal.returns-in-Ok-keep-clause-goes
returns-in-Ok-keep-clause-goes c =
    let F : Bool → Type 0 = λ b. TurnsAt c.args.parts.now.replicas.items c.tick.new.replicas.items c.args.at Beat whats.Ticked c.in-Ok.turn.logged c.in-Ok.turn.out b in
    let st : c.in-Ok.turn.settled ≡ true = c.if-not-turn.false in
    let t = subst F st (c.in-Ok.ensures.turn) in
    rw (c.in-Ok-keep.ensures.notes, c.keep.ensures.replicas, c.keep.ensures.decoders)
    (goes (record { refine = c.turns_refine.ensures; follow = c.inputs_give_runs.ensures.noted; computed = c.inputs_give_runs.ensures.computed; one = c.inputs_give_runs.ensures.one }) c.args.parts.now.object c.args.parts.now.plan c.args.parts.now.replicas.items c.tick.new.replicas.items c.args.parts.now.links.items c.keep.new.parts.links.items c.args.parts.now.decoders.items c.args.parts.now.notes.items c.args.parts.now.sent c.keep.new.parts.sent
    c.requires.kept c.requires.keeps c.args.at Beat whats.Ticked c.in-Ok.turn.logged c.in-Ok.turn.out c.requires.replica tt t
    c.in-Ok-keep.ensures.links c.in-Ok-keep.ensures.sent _ refl)
