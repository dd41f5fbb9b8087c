use Rattle.std.proofs.Common.{◌≡◌, ◌∙◌, ap}
use Rattle.ham_runs.specs.Runs.{log_of}
use Rattle.ham_world.specs.Keeping.{notes_of}
use Rattle.ham_world.specs.Worlds as worlds
use Rattle.ham_world.proofs.Looked.{log_at}
use Rattle.ham_world.proofs.look.same_calls.Goals as goal

pub returns : goal.returns
returns c =
    let p = c.args.parts.now in
    let notes = notes_of p.object p.plan p.notes.items in
    let one = log_at p.object p.plan notes p.replicas.items c.args.one c.replica_at.result.now (c.requires.keeps.each c.args.one c.requires.one) c.replica_at.ensures in
    let other = log_at p.object p.plan notes p.replicas.items c.args.other c.replica_at-2.result.now (c.requires.keeps.each c.args.other c.requires.other) c.replica_at-2.ensures in
    c.same_calls.ensures ∙ ap (λ l. worlds.same_calls l c.replica_at-2.result.now.lists.log) one ∙ ap (λ l. worlds.same_calls (log_of notes c.args.one) l) other
