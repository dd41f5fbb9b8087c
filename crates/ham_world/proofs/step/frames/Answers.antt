use Rattle.std.proofs.Common.{ℕ, map, refl, ◌∙◌, arith, subst}
use Rattle.std.specs.List.{range_with_len}
use Rattle.std.proofs.lemmas.Result.{on_ok_weaker, on_err_weaker}
use Rattle.ham_runs.specs.Runs.{on_link}
use Rattle.ham_runs.specs.Next.Input.{Deliver}
use Rattle.ham_world.specs.Keeping.{notes_of}
use Rattle.ham_world.specs.Stepping.{Comes, Halts}
use Rattle.ham_world.proofs.Kept.{few_replicas}
use Rattle.ham_world.proofs.Events.{Sent, are_sent, cuts_true, on_link-few}
use Rattle.ham_world.proofs.Taken.{halts_at_once}
use Rattle.ham_world.proofs.step.frames.Goals as goal

pub place-at-requires-clause-from : goal.place-at-requires-clause-from
place-at-requires-clause-from c = (c.requires.linked.from_is.0, few_replicas c.args.parts.now.object c.args.parts.now.plan c.args.parts.now.notes.items c.args.from c.requires.kept c.requires.linked.from_is)

pub place-at-requires-clause-to : goal.place-at-requires-clause-to
place-at-requires-clause-to c = (c.requires.linked.to_is.0, few_replicas c.args.parts.now.object c.args.parts.now.plan c.args.parts.now.notes.items c.args.to c.requires.kept c.requires.linked.to_is)

pub read_at-requires-clause-cuts : goal.read_at-requires-clause-cuts
read_at-requires-clause-cuts c = ((on_link (notes_of c.args.parts.now.object c.args.parts.now.plan c.args.parts.now.notes.items) c.args.from c.args.to), c.requires.keeps.fit c.args.from c.args.to, rw c.place-at.ensures.is (c.requires.keeps.linked c.args.from c.args.to c.requires.linked.from_is.0 (few_replicas c.args.parts.now.object c.args.parts.now.plan c.args.parts.now.notes.items c.args.from c.requires.kept c.requires.linked.from_is) c.requires.linked.to_is.0 (few_replicas c.args.parts.now.object c.args.parts.now.plan c.args.parts.now.notes.items c.args.to c.requires.kept c.requires.linked.to_is)), c.requires.last, c.requires.cuts)

sent : (c : goal.After-items) → Sent (on_link (notes_of c.args.parts.now.object c.args.parts.now.plan c.args.parts.now.notes.items) c.args.from c.args.to) c.args.first c.args.last c.items.result.now
sent c = are_sent (on_link (notes_of c.args.parts.now.object c.args.parts.now.plan c.args.parts.now.notes.items) c.args.from c.args.to) c.args.first c.args.last c.args.cuts.now c.items.result.now c.requires.first c.requires.last c.requires.cuts
    (c.items.ensures ∙ c.in-Ok.ensures.frames (on_link (notes_of c.args.parts.now.object c.args.parts.now.plan c.args.parts.now.notes.items) c.args.from c.args.to) (c.requires.keeps.fit c.args.from c.args.to) (rw c.place-at.ensures.is (c.requires.keeps.linked c.args.from c.args.to c.requires.linked.from_is.0 (few_replicas c.args.parts.now.object c.args.parts.now.plan c.args.parts.now.notes.items c.args.from c.requires.kept c.requires.linked.from_is) c.requires.linked.to_is.0 (few_replicas c.args.parts.now.object c.args.parts.now.plan c.args.parts.now.notes.items c.args.to c.requires.kept c.requires.linked.to_is))))

pub overflow_cast-first : goal.overflow_cast-first
overflow_cast-first c = omega (arith, on_link-few (notes_of c.args.parts.now.object c.args.parts.now.plan c.args.parts.now.notes.items) c.args.from c.args.to, c.requires.keeps.total, c.requires.sent, c.requires.last, (cuts_true (on_link (notes_of c.args.parts.now.object c.args.parts.now.plan c.args.parts.now.notes.items) c.args.from c.args.to) c.args.first c.args.last c.args.cuts.now c.requires.cuts).order)

pub deliver_all-requires-clause-there : goal.deliver_all-requires-clause-there
deliver_all-requires-clause-there c = (sent c).there

pub deliver_all-requires-clause-few : goal.deliver_all-requires-clause-few
deliver_all-requires-clause-few c = (sent c).few

pub deliver_all-requires-clause-small : goal.deliver_all-requires-clause-small
deliver_all-requires-clause-small c = omega (arith, on_link-few (notes_of c.args.parts.now.object c.args.parts.now.plan c.args.parts.now.notes.items) c.args.from c.args.to, c.requires.keeps.total, c.requires.sent, c.requires.last, (cuts_true (on_link (notes_of c.args.parts.now.object c.args.parts.now.plan c.args.parts.now.notes.items) c.args.from c.args.to) c.args.first c.args.last c.args.cuts.now c.requires.cuts).order)

pub returns-clause-comes : goal.returns-clause-comes
returns-clause-comes c =
    let k : Sent (on_link (notes_of c.args.parts.now.object c.args.parts.now.plan c.args.parts.now.notes.items) c.args.from c.args.to) c.args.first c.args.last c.items.result.now = are_sent (on_link (notes_of c.args.parts.now.object c.args.parts.now.plan c.args.parts.now.notes.items) c.args.from c.args.to) c.args.first c.args.last c.args.cuts.now c.items.result.now c.requires.first c.requires.last c.requires.cuts
    (c.items.ensures ∙ c.in-Ok.ensures.frames (on_link (notes_of c.args.parts.now.object c.args.parts.now.plan c.args.parts.now.notes.items) c.args.from c.args.to) (c.requires.keeps.fit c.args.from c.args.to) (rw c.place-at.ensures.is (c.requires.keeps.linked c.args.from c.args.to c.requires.linked.from_is.0 (few_replicas c.args.parts.now.object c.args.parts.now.plan c.args.parts.now.notes.items c.args.from c.requires.kept c.requires.linked.from_is) c.requires.linked.to_is.0 (few_replicas c.args.parts.now.object c.args.parts.now.plan c.args.parts.now.notes.items c.args.to c.requires.kept c.requires.linked.to_is)))) in
    let F : ℕ → Type 0 = λ n. Comes c.args.parts.now.object c.args.parts.now.plan c.deliver_all.new.parts.replicas.items c.deliver_all.new.parts.links.items c.deliver_all.new.parts.decoders.items c.args.parts.now.notes.items c.deliver_all.new.parts.notes.items c.deliver_all.new.parts.sent (map (Deliver c.args.to c.args.from) (range_with_len c.args.first n)) in
    on_ok_weaker c.deliver_all.result (λ h. subst F k.count h) c.deliver_all.ensures.comes

pub returns-clause-halts : goal.returns-clause-halts
returns-clause-halts c =
    let k : Sent (on_link (notes_of c.args.parts.now.object c.args.parts.now.plan c.args.parts.now.notes.items) c.args.from c.args.to) c.args.first c.args.last c.items.result.now = are_sent (on_link (notes_of c.args.parts.now.object c.args.parts.now.plan c.args.parts.now.notes.items) c.args.from c.args.to) c.args.first c.args.last c.args.cuts.now c.items.result.now c.requires.first c.requires.last c.requires.cuts
    (c.items.ensures ∙ c.in-Ok.ensures.frames (on_link (notes_of c.args.parts.now.object c.args.parts.now.plan c.args.parts.now.notes.items) c.args.from c.args.to) (c.requires.keeps.fit c.args.from c.args.to) (rw c.place-at.ensures.is (c.requires.keeps.linked c.args.from c.args.to c.requires.linked.from_is.0 (few_replicas c.args.parts.now.object c.args.parts.now.plan c.args.parts.now.notes.items c.args.from c.requires.kept c.requires.linked.from_is) c.requires.linked.to_is.0 (few_replicas c.args.parts.now.object c.args.parts.now.plan c.args.parts.now.notes.items c.args.to c.requires.kept c.requires.linked.to_is)))) in
    let F : ℕ → Type 0 = λ n. Halts c.args.parts.now.object c.args.parts.now.plan c.args.parts.now.notes.items c.deliver_all.new.parts.notes.items (map (Deliver c.args.to c.args.from) (range_with_len c.args.first n)) in
    on_err_weaker c.deliver_all.result (λ h. subst F k.count h) c.deliver_all.ensures.halts

pub returns-in-Err-clause-halts : goal.returns-in-Err-clause-halts
returns-in-Err-clause-halts c = halts_at_once c.args.parts.now.object c.args.parts.now.plan c.args.parts.now.notes.items c.args.parts.now.notes.items _ refl c.requires.kept
