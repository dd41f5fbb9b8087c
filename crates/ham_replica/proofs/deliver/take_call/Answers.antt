use Rattle.std.proofs.Common.{◌<◌, sym, subst, ◌∙◌}
use Rattle.std.specs.List.{AllByRecursion}
use Rattle.ham_buffer.specs.declared.wait.Wait.{Wait}
use Rattle.ham_site.specs.Sites.{slots_at}
use Rattle.ham_replica.specs.Kept.{waits_of}
use Rattle.ham_replica.proofs.Delivering.{waits_below}
use Rattle.ham_replica.proofs.deliver.take_call.Goals as goal

pub put-requires-clause-slots : goal.put-requires-clause-slots
put-requires-clause-slots c =
    let e = c.in_ok-waits.ensures ∙ (λ i. waits_of (c.needs_of.ensures i) (c.items.ensures i)) in
    subst (λ n. AllByRecursion (λ (w : Wait). w.slot < n) c.in_ok-waits.waits) (sym c.requires.kept.shaped.buffer)
    (subst (λ z. AllByRecursion (λ (w : Wait). w.slot < (slots_at c.args.site.now)) z) (sym e)
    (waits_below (slots_at c.args.site.now) _ c.args.call.now.deps (c.requires.kept.at.tabled.needs_exist c.args.call.now.act.method c.requires.may.method)))
