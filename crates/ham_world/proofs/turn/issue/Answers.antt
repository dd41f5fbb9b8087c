use Rattle.std.proofs.Common.{◌≡◌, Bool, true, Some, None, refl, subst, inl, inr}
use Rattle.ham_turns.specs.declared.turn.What.TheVariants as whats
use Rattle.ham_turns.specs.Words.{ActComes}
use Rattle.ham_runs.specs.Runs.{on_link}
use Rattle.ham_world.specs.Keeping.{notes_of, TurnsAt}
use Rattle.ham_world.proofs.Kept.{goes, settled_at, within, sendable, in_range, links_64, issue_at}
use Rattle.ham_world.proofs.turn.issue.Goals as goal

pub issue-requires-clause-settled : goal.issue-requires-clause-settled
issue-requires-clause-settled c = settled_at c.args.parts.now.object c.args.parts.now.plan (notes_of c.args.parts.now.object c.args.parts.now.plan c.args.parts.now.notes.items) c.args.parts.now.replicas.items c.args.at (c.requires.keeps.each c.args.at c.requires.replica)

pub issue-requires-clause-within : goal.issue-requires-clause-within
issue-requires-clause-within c = within c.args.parts.now.object c.args.parts.now.plan (notes_of c.args.parts.now.object c.args.parts.now.plan c.args.parts.now.notes.items) c.args.parts.now.replicas.items c.args.at c.requires.replica (c.requires.keeps.each c.args.at c.requires.replica)

pub keep-requires-clause-me : goal.keep-requires-clause-me
keep-requires-clause-me c = in_range c.args.parts.now.object c.args.parts.now.plan c.args.parts.now.notes.items c.args.at c.requires.kept c.requires.replica

pub keep-requires-clause-links : goal.keep-requires-clause-links
keep-requires-clause-links c = links_64 c.args.parts.now.links.items (on_link (notes_of c.args.parts.now.object c.args.parts.now.plan c.args.parts.now.notes.items)) c.requires.keeps.linked

pub keep-requires-clause-on : goal.keep-requires-clause-on
keep-requires-clause-on c = (sendable c.args.parts.now.object c.args.parts.now.plan c.args.parts.now.notes.items (notes_of c.args.parts.now.object c.args.parts.now.plan c.args.parts.now.notes.items) c.args.parts.now.replicas.items _ c.args.at _ _ _ _ _ c.requires.kept (c.requires.keeps.each c.args.at c.requires.replica) (c.in-Ok.ensures.turn)).on

pub keep-requires-clause-sends : goal.keep-requires-clause-sends
keep-requires-clause-sends c = (sendable c.args.parts.now.object c.args.parts.now.plan c.args.parts.now.notes.items (notes_of c.args.parts.now.object c.args.parts.now.plan c.args.parts.now.notes.items) c.args.parts.now.replicas.items _ c.args.at _ _ _ _ _ c.requires.kept (c.requires.keeps.each c.args.at c.requires.replica) (c.in-Ok.ensures.turn)).few

pub returns-in-Ok-keep-clause-taken : goal.returns-in-Ok-keep-clause-taken
returns-in-Ok-keep-clause-taken c = issue_at c.args.parts.now.object c.args.parts.now.plan (notes_of c.args.parts.now.object c.args.parts.now.plan c.args.parts.now.notes.items) c.args.parts.now.replicas.items c.args.at c.args.act.now None (c.requires.keeps.each c.args.at c.requires.replica) c.in-Ok.ensures.taken

pub returns-in-Ok-keep-clause-goes : goal.returns-in-Ok-keep-clause-goes
returns-in-Ok-keep-clause-goes c =
    let F : Bool → Type 0 = λ b. TurnsAt c.args.parts.now.replicas.items c.issue.new.replicas.items c.args.at (ActComes c.args.act.now) (whats.Issued c.in-Ok.turn.answer) c.in-Ok.turn.logged c.in-Ok.turn.out b in
    let st : c.in-Ok.turn.settled ≡ true = c.if-not-turn.false in
    let t = subst F st (c.in-Ok.ensures.turn) in
    rw (c.in-Ok-keep.ensures.notes, c.keep.ensures.replicas, c.keep.ensures.decoders)
    (goes (record { refine = c.turns_refine.ensures; follow = c.inputs_give_runs.ensures.noted; computed = c.inputs_give_runs.ensures.computed; one = c.inputs_give_runs.ensures.one }) c.args.parts.now.object c.args.parts.now.plan c.args.parts.now.replicas.items c.issue.new.replicas.items c.args.parts.now.links.items c.keep.new.parts.links.items c.args.parts.now.decoders.items c.args.parts.now.notes.items c.args.parts.now.sent c.keep.new.parts.sent
    c.requires.kept c.requires.keeps c.args.at (ActComes c.args.act.now) (whats.Issued c.in-Ok.turn.answer) c.in-Ok.turn.logged c.in-Ok.turn.out c.requires.replica (issue_at c.args.parts.now.object c.args.parts.now.plan (notes_of c.args.parts.now.object c.args.parts.now.plan c.args.parts.now.notes.items) c.args.parts.now.replicas.items c.args.at c.args.act.now None (c.requires.keeps.each c.args.at c.requires.replica) c.in-Ok.ensures.taken) t
    c.in-Ok-keep.ensures.links c.in-Ok-keep.ensures.sent _ refl)

pub returns-in-Err-clause-refused : goal.returns-in-Err-clause-refused
returns-in-Err-clause-refused c =
    elim c.in-Err.ensures.refused.1 [
      | inl m ↦ inl m
      | inr m ↦ inr (rw c.in-Err.ensures.refused.0 c.requires.keeps, issue_at c.args.parts.now.object c.args.parts.now.plan (notes_of c.args.parts.now.object c.args.parts.now.plan c.args.parts.now.notes.items) c.args.parts.now.replicas.items c.args.at c.args.act.now (Some c.in-Err.why) (c.requires.keeps.each c.args.at c.requires.replica) m)
    ]
