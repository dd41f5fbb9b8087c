use Rattle.std.proofs.Common.{arith, ◌≡◌, Bool, true, Some, None, refl, sym, ◌∙◌, subst, inl, inr}
use Rattle.ham_turns.specs.declared.turn.What.TheVariants as whats
use Rattle.ham_turns.specs.Words.{FrameComes}
use Rattle.std.proofs.lemmas.Option.{none-some}
use Rattle.ham_frame.specs.Spelling.{Fits}
use Rattle.ham_turns.specs.Settings.{rules_of, setting_of}
use Rattle.ham_turns.specs.Refusals.{deliver_refusal}
use Rattle.ham_runs.specs.Runs.{words_of, on_link}
use Rattle.ham_world.specs.Keeping.{notes_of, TurnsAt}
use Rattle.ham_world.proofs.Noted.{runs}
use Rattle.ham_world.proofs.Each.{each-numbered}
use Rattle.ham_world.proofs.Kept.{goes, settled_at, within, sendable, in_range, links_64, delivery_at, from_at}
use Rattle.ham_world.proofs.turn.deliver.Goals as goal

pub deliver-requires-clause-settled : goal.deliver-requires-clause-settled
deliver-requires-clause-settled c = settled_at c.args.parts.now.object c.args.parts.now.plan (notes_of c.args.parts.now.object c.args.parts.now.plan c.args.parts.now.notes.items) c.args.parts.now.replicas.items c.args.at (c.requires.keeps.each c.args.at c.requires.replica)

pub deliver-requires-clause-within : goal.deliver-requires-clause-within
deliver-requires-clause-within c = within c.args.parts.now.object c.args.parts.now.plan (notes_of c.args.parts.now.object c.args.parts.now.plan c.args.parts.now.notes.items) c.args.parts.now.replicas.items c.args.at c.requires.replica (c.requires.keeps.each c.args.at c.requires.replica)

pub keep-requires-clause-me : goal.keep-requires-clause-me
keep-requires-clause-me c = in_range c.args.parts.now.object c.args.parts.now.plan c.args.parts.now.notes.items c.args.at c.requires.kept c.requires.replica

pub keep-requires-clause-links : goal.keep-requires-clause-links
keep-requires-clause-links c = links_64 c.args.parts.now.links.items (on_link (notes_of c.args.parts.now.object c.args.parts.now.plan c.args.parts.now.notes.items)) c.requires.keeps.linked

pub keep-requires-clause-on : goal.keep-requires-clause-on
keep-requires-clause-on c = (sendable c.args.parts.now.object c.args.parts.now.plan c.args.parts.now.notes.items (notes_of c.args.parts.now.object c.args.parts.now.plan c.args.parts.now.notes.items) c.args.parts.now.replicas.items _ c.args.at _ _ _ _ _ c.requires.kept (c.requires.keeps.each c.args.at c.requires.replica) (c.in-Ok.ensures.turn c.args.which)).on

pub keep-requires-clause-sends : goal.keep-requires-clause-sends
keep-requires-clause-sends c = (sendable c.args.parts.now.object c.args.parts.now.plan c.args.parts.now.notes.items (notes_of c.args.parts.now.object c.args.parts.now.plan c.args.parts.now.notes.items) c.args.parts.now.replicas.items _ c.args.at _ _ _ _ _ c.requires.kept (c.requires.keeps.each c.args.at c.requires.replica) (c.in-Ok.ensures.turn c.args.which)).few

pub returns-in-Ok-keep-clause-goes : goal.returns-in-Ok-keep-clause-goes
returns-in-Ok-keep-clause-goes c =
    let F : Bool → Type 0 = λ b. TurnsAt c.args.parts.now.replicas.items c.deliver.new.replicas.items c.args.at (FrameComes c.args.from c.args.which c.args.frame.now) (whats.Delivered c.in-Ok.turn.answer) c.in-Ok.turn.logged c.in-Ok.turn.out b in
    let st : c.in-Ok.turn.settled ≡ true = c.if-not-turn.false in
    let t = subst F st (c.in-Ok.ensures.turn c.args.which) in
    rw (c.in-Ok-keep.ensures.notes, c.keep.ensures.replicas, c.keep.ensures.decoders)
    (goes (record { refine = c.turns_refine.ensures; follow = c.inputs_give_runs.ensures.noted; computed = c.inputs_give_runs.ensures.computed; one = c.inputs_give_runs.ensures.one }) c.args.parts.now.object c.args.parts.now.plan c.args.parts.now.replicas.items c.deliver.new.replicas.items c.args.parts.now.links.items c.keep.new.parts.links.items c.args.parts.now.decoders.items c.args.parts.now.notes.items c.args.parts.now.sent c.keep.new.parts.sent
    c.requires.kept c.requires.keeps c.args.at (FrameComes c.args.from c.args.which c.args.frame.now) (whats.Delivered c.in-Ok.turn.answer) c.in-Ok.turn.logged c.in-Ok.turn.out c.requires.replica c.requires.there t
    c.in-Ok-keep.ensures.links c.in-Ok-keep.ensures.sent _ refl)

pub deliver-requires-clause-from : goal.deliver-requires-clause-from
deliver-requires-clause-from c = from_at c.args.parts.now.object c.args.parts.now.plan (notes_of c.args.parts.now.object c.args.parts.now.plan c.args.parts.now.notes.items) c.args.parts.now.replicas.items c.args.at c.args.from (c.requires.keeps.each c.args.at c.requires.replica) c.requires.from c.requires.other

pub deliver-requires-clause-fits : goal.deliver-requires-clause-fits
deliver-requires-clause-fits c = each-numbered Fits (on_link (notes_of c.args.parts.now.object c.args.parts.now.plan c.args.parts.now.notes.items) c.args.from c.args.at) c.args.which c.args.frame.now (c.requires.keeps.fit c.args.from c.args.at) c.requires.there

pub only_memory-requires : goal.only_memory-requires
only_memory-requires c =
    let accepted : deliver_refusal (rules_of c.args.parts.now.object) (setting_of c.args.parts.now.plan) (words_of (rules_of c.args.parts.now.object) (setting_of c.args.parts.now.plan) (notes_of c.args.parts.now.object c.args.parts.now.plan c.args.parts.now.notes.items) c.args.at) c.args.at c.args.from c.args.frame.now ≡ None =
    c.runs_go_on.ensures.taken c.args.parts.now.object c.args.parts.now.plan c.requires.kept.sound (notes_of c.args.parts.now.object c.args.parts.now.plan c.args.parts.now.notes.items) (runs c.inputs_give_runs.ensures.computed c.args.parts.now.object c.args.parts.now.plan c.requires.kept.sound c.args.parts.now.notes.items) c.args.from c.args.at c.args.which c.args.frame.now c.requires.there in
    elim c.in-Err.ensures.refused [
      | inl m ↦ m
      | inr m ↦ absurd (none-some c.in-Err.why (sym accepted ∙ delivery_at c.args.parts.now.object c.args.parts.now.plan (notes_of c.args.parts.now.object c.args.parts.now.plan c.args.parts.now.notes.items) c.args.parts.now.replicas.items c.args.at c.args.from c.args.frame.now (Some c.in-Err.why) (c.requires.keeps.each c.args.at c.requires.replica) m))
    ]

pub returns-in-Ok-keep-clause-sent : goal.returns-in-Ok-keep-clause-sent
returns-in-Ok-keep-clause-sent c = omega (arith, c.in-Ok-keep.ensures.sent, (sendable c.args.parts.now.object c.args.parts.now.plan c.args.parts.now.notes.items (notes_of c.args.parts.now.object c.args.parts.now.plan c.args.parts.now.notes.items) c.args.parts.now.replicas.items _ c.args.at _ _ _ _ _ c.requires.kept (c.requires.keeps.each c.args.at c.requires.replica) (c.in-Ok.ensures.turn c.args.which)).few)
