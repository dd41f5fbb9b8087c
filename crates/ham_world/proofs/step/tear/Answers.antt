use Rattle.std.proofs.Common.{arith, refl}
use Rattle.ham_runs.specs.Runs.{on_link}
use Rattle.ham_world.specs.Keeping.{notes_of}
use Rattle.ham_world.proofs.Kept.{few_replicas}
use Rattle.ham_world.proofs.Events.{on_link-few, numbered_some, goes_comes}
use Rattle.ham_world.proofs.Taken.{halts_at_once}
use Rattle.ham_world.proofs.step.tear.Goals as goal

pub place-at-requires-clause-from : goal.place-at-requires-clause-from
place-at-requires-clause-from c = (c.requires.linked.from_is.0, few_replicas c.args.parts.now.object c.args.parts.now.plan c.args.parts.now.notes.items c.args.from c.requires.kept c.requires.linked.from_is)

pub place-at-requires-clause-to : goal.place-at-requires-clause-to
place-at-requires-clause-to c = (c.requires.linked.to_is.0, few_replicas c.args.parts.now.object c.args.parts.now.plan c.args.parts.now.notes.items c.args.to c.requires.kept c.requires.linked.to_is)

pub tear_at-requires-clause-part : goal.tear_at-requires-clause-part
tear_at-requires-clause-part c = ((on_link (notes_of c.args.parts.now.object c.args.parts.now.plan c.args.parts.now.notes.items) c.args.from c.args.to), c.requires.keeps.fit c.args.from c.args.to, rw c.place-at.ensures.is (c.requires.keeps.linked c.args.from c.args.to c.requires.linked.from_is.0 (few_replicas c.args.parts.now.object c.args.parts.now.plan c.args.parts.now.notes.items c.args.from c.requires.kept c.requires.linked.from_is) c.requires.linked.to_is.0 (few_replicas c.args.parts.now.object c.args.parts.now.plan c.args.parts.now.notes.items c.args.to c.requires.kept c.requires.linked.to_is)), c.requires.last, c.requires.part)

pub overflow_cast-which : goal.overflow_cast-which
overflow_cast-which c = omega (arith, on_link-few (notes_of c.args.parts.now.object c.args.parts.now.plan c.args.parts.now.notes.items) c.args.from c.args.to, c.requires.keeps.total, c.requires.sent, c.requires.last)

pub torn-requires-clause-there : goal.torn-requires-clause-there
torn-requires-clause-there c = numbered_some (on_link (notes_of c.args.parts.now.object c.args.parts.now.plan c.args.parts.now.notes.items) c.args.from c.args.to) c.args.which c.requires.first c.requires.last

pub returns-in-Ok-torn-clause-comes : goal.returns-in-Ok-torn-clause-comes
returns-in-Ok-torn-clause-comes c =
    let n = numbered_some (on_link (notes_of c.args.parts.now.object c.args.parts.now.plan c.args.parts.now.notes.items) c.args.from c.args.to) c.args.which c.requires.first c.requires.last in
    goes_comes c.args.parts.now.object c.args.parts.now.plan _ _ _ c.args.parts.now.notes.items _ _ c.args.to c.args.from c.args.which n.0 (c.in-Ok-torn.ensures.goes n.0 n.1)

pub returns-in-Err-clause-halts : goal.returns-in-Err-clause-halts
returns-in-Err-clause-halts c = halts_at_once c.args.parts.now.object c.args.parts.now.plan c.args.parts.now.notes.items c.args.parts.now.notes.items _ refl c.requires.kept

pub returns-in-Err-torn-clause-halts : goal.returns-in-Err-torn-clause-halts
returns-in-Err-torn-clause-halts c = halts_at_once c.args.parts.now.object c.args.parts.now.plan c.args.parts.now.notes.items c.torn.new.parts.notes.items _ c.in-Err-torn.ensures.notes c.requires.kept
