use Rattle.std.proofs.Common.{◌≡◌, List, [], refl, sym, subst}
use Rattle.ham_syntax.specs.Objects.{Schema}
use Rattle.ham_world.specs.declared.note.Note.{Note as Told}
use Rattle.ham_world.specs.Keeping.{IsKept, Keeps}
use Rattle.ham_world.proofs.Opened.{begun_keeps, begun_kept, nothing_noted}
use Rattle.ham_world.proofs.world.World.new.Goals as goal

pub invariant_of-result : goal.invariant_of-result
invariant_of-result c =
    let none : c.new-2.result.items ≡ [] = c.new-2.ensures.items in
    let same = c.in_ok-copy.ensures in
    let A : Schema → Type 0 = λ q. IsKept q c.args.plan.now [] in
    let B : List Told → Type 0 = λ k. IsKept c.in_ok-copy.copy c.args.plan.now k in
    let C : Schema → Type 0 = λ q. Keeps q c.args.plan.now c.in_ok-replicas.replicas.items c.in_ok-links.links.items c.in_ok-decoders.decoders.items [] 0 in
    let D : List Told → Type 0 = λ k. Keeps c.in_ok-copy.copy c.args.plan.now c.in_ok-replicas.replicas.items c.in_ok-links.links.items c.in_ok-decoders.decoders.items k 0 in
    record {
      kept_is = subst B (sym none) (subst A (sym same) (begun_kept c.args.object.now c.args.plan.now c.requires));
      going = λ e. subst D (sym none) (subst C (sym same) (begun_keeps c.args.object.now c.args.plan.now _ _ _ c.in_ok-replicas.ensures c.in_ok-links.ensures c.in_ok-decoders.ensures));
    }

pub returns : goal.returns
returns c = rw (c.in_ok-copy.ensures, c.new-2.ensures.items, nothing_noted c.args.object.now c.args.plan.now) refl
