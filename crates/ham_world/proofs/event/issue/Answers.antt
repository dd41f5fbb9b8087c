use Rattle.std.proofs.Common.{arith, ap, inl, inr}
use Rattle.ham_turns.specs.Settings.{setting_of}
use Rattle.ham_world.specs.Keeping.{notes_of}
use Rattle.ham_world.proofs.Kept.{few_replicas}
use Rattle.ham_world.proofs.Events.{replica_taken}
use Rattle.ham_turns.specs.declared.event.Event.TheVariants as events
use Rattle.ham_turns.specs.Words.{ActComes}
use Rattle.ham_world.specs.Worlds.{as_issue}
use Rattle.ham_world.proofs.Taken.{is_allowed, one_comes, issue_leaves, keeps_as}
use Rattle.ham_world.proofs.event.issue.Goals as goal

pub overflow_cast-at : goal.overflow_cast-at
overflow_cast-at c = omega (arith, few_replicas c.args.parts.now.object c.args.parts.now.plan c.args.parts.now.notes.items c.args.at c.requires.kept (replica_taken (setting_of c.args.parts.now.plan) (notes_of c.args.parts.now.object c.args.parts.now.plan c.args.parts.now.notes.items) c.args.at c.requires.allowed).replica)

pub returns-in-Ok-clause-leaves : goal.returns-in-Ok-clause-leaves
returns-in-Ok-clause-leaves c = record {
  allowed = is_allowed c.args.parts.now.object (setting_of c.args.parts.now.plan) (notes_of c.args.parts.now.object c.args.parts.now.plan c.args.parts.now.notes.items) (events.Issue c.args.at c.args.act.now) c.requires.allowed (ap as_issue c.in-Ok.ensures.taken);
  comes = one_comes c.args.parts.now.object c.args.parts.now.plan c.issue.new.parts.replicas.items c.issue.new.parts.links.items c.issue.new.parts.decoders.items c.args.parts.now.notes.items c.issue.new.parts.notes.items c.issue.new.parts.sent c.args.at (ActComes c.args.act.now) c.in-Ok.ensures.goes;
}

pub returns-in-Err-clause-leaves : goal.returns-in-Err-clause-leaves
returns-in-Err-clause-leaves c = rw c.as_step.ensures
    (issue_leaves c.args.parts.now.object c.args.parts.now.plan c.issue.new.parts.replicas.items c.issue.new.parts.links.items c.issue.new.parts.decoders.items c.args.parts.now.notes.items c.issue.new.parts.notes.items c.issue.new.parts.sent c.args.at c.args.act.now c.in-Err.why c.requires.kept c.requires.allowed c.in-Err.ensures.notes
    (elim c.in-Err.ensures.refused [
      | inl m ↦ inl m
      | inr h ↦ inr (keeps_as c.args.parts.now.object c.issue.new.parts.object c.args.parts.now.plan c.issue.new.parts.plan c.issue.new.parts.replicas.items c.issue.new.parts.links.items c.issue.new.parts.decoders.items c.issue.new.parts.notes.items c.issue.new.parts.sent c.issue.ensures.object c.issue.ensures.plan h.0, h.1)
    ]))
