use Rattle.std.proofs.Common.{◌≡◌, [], ap, replicate, ◌∙◌}
use Rattle.ham_plan.specs.Plans.{Plan}
use Rattle.ham_core.proofs.Begun.{kept_begun, core_begun}
use Rattle.ham_core.proofs.guarded.Guarded.new.Goals as goal

pub invariant_of-guarded : goal.invariant_of-guarded
invariant_of-guarded g c =
    kept_begun g.L.Home.object g.L.Home.plan g.L.Home.me c.args.replica c.in_ok-boxes.boxes _ _ c.requires.site c.requires.lists
    (c.in_ok-boxes.ensures ∙ ap (λ (n : _). replicate n []) (c.replicas.ensures.replicas ∙ ap (λ (p : Plan). p.replicas) c.requires.plan)) c.new-2.ensures.items c.open-book.ensures.total

pub returns-clause-opening : goal.returns-clause-opening
returns-clause-opening g c = (
  core_begun g.L.Home.object g.L.Home.plan g.L.Home.me c.args.replica c.in_ok-boxes.boxes c.requires.site c.requires.lists
      (c.in_ok-boxes.ensures ∙ ap (λ (n : _). replicate n []) (c.replicas.ensures.replicas ∙ ap (λ (p : Plan). p.replicas) c.requires.plan)),
  c.new-2.ensures.items,
)
