use Rattle.std.proofs.Common.{arith, ◌≡◌, ◌<◌, refl, sym, subst, map, length, Some}
use Rattle.std.specs.Prelude.{slice_get}
use Rattle.std.proofs.lemmas.List.{length-map}
use Rattle.std.proofs.lemmas.Option.{slice_get_read}
use Rattle.ham_content.specs.Numbers.{IsNumber}
use Rattle.ham_watch.specs.declared.watch.Watch.{Watch}
use Rattle.ham_watch.specs.Broken.{is_broken_at}
use Rattle.ham_content.specs.Kept.{content}
use Rattle.ham_state.specs.Store.{Store}
use Rattle.ham_state.proofs.Found.{broken_found}
use Rattle.ham_state.proofs.state.State.broken.Goals as goal

pub returns : goal.returns
returns c =
    let seen : c.args.invariant < length (map (λ (v : Watch). v.invariant) c.self.inside.watches.items) = subst (λ (v : Store). c.args.invariant < length v.invariants) (sym c.self.view_is) c.requires in
    let within : c.args.invariant < length c.self.inside.watches.items = omega (arith, length-map c.self.inside.watches.items (λ (v : Watch). v.invariant)) in
    let found : slice_get c.self.inside.watches.items c.args.invariant ≡ Some c.index-watch.result.now = slice_get_read c.self.inside.watches.items (length c.self.inside.watches.items) c.args.invariant c.index-watch.result.now refl within c.index-watch.ensures in
    subst (λ (v : Store). IsNumber (is_broken_at v.content (slice_get v.invariants c.args.invariant)) c.len.result) c.self.view_is
    (subst (IsNumber (is_broken_at (content c.self.inside.facts c.self.inside.amounts) (slice_get (map (λ (v : Watch). v.invariant) c.self.inside.watches.items) c.args.invariant))) (sym c.len.ensures.len)
    (broken_found (content c.self.inside.facts c.self.inside.amounts) c.self.inside.watches.items c.args.invariant c.index-watch.result.now c.self.invariant.watched found c.len.ensures.unique))
