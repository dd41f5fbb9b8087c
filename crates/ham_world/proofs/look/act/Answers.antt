use Rattle.std.proofs.Common.{◌≡◌, ◌∙◌, ap, sym, subst, List, Bor, Option, Some, None}
use Rattle.std.specs.Prelude.{IsSome}
use Rattle.std.specs.Option.{option_copied}
use Rattle.ham_syntax.specs.declared.act.Call.{Call}
use Rattle.ham_syntax.specs.declared.act.Place.{Place}
use Rattle.ham_plan.specs.Lists.{In}
use Rattle.ham_world.specs.Keeping.{notes_of}
use Rattle.ham_world.proofs.Noted.{runs}
use Rattle.ham_world.proofs.Looked.{log_at}
use Rattle.ham_world.proofs.Acted.{act_at}
use Rattle.ham_world.proofs.look.act.Goals as goal

pub returns : goal.returns
returns c =
    let p = c.args.parts.now in
    let run = runs c.inputs_give_runs.ensures.computed p.object p.plan c.requires.kept.sound p.notes.items in
    act_at p.object p.plan (notes_of p.object p.plan p.notes.items) p.replicas.items c.args.replica c.replica_at.result.now c.args.place.now c.in-Some.call.now
    (c.plans_are_settings.ensures p.object p.plan c.requires.kept.sound) run (c.requires.keeps.each c.args.replica c.requires.replica) c.replica_at.ensures
    (sym c.call_at.ensures.call ∙ ap option_copied c.in-Some.is)

none_there : (o : Option (Bor Call)) → o ≡ None → IsSome (option_copied o) → ⊥
none_there None e h = absurd cc
none_there (Some b) e h = absurd cc

pub unreachable-requires : goal.unreachable-requires
unreachable-requires c =
    let p = c.args.parts.now in
    let is = log_at p.object p.plan (notes_of p.object p.plan p.notes.items) p.replicas.items c.args.replica c.replica_at.result.now (c.requires.keeps.each c.args.replica c.requires.replica) c.replica_at.ensures in
    let there = c.call_at.ensures.logged.1 (subst (λ (l : List Place). In c.args.place.now l) (sym is) c.requires.logged) in
    none_there c.call_at.result c.in-None.is there
