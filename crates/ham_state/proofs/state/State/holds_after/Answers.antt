use Rattle.std.proofs.Common.{arith, ◌≡◌, ◌<◌, true, refl, sym, subst, map, length, Some}
use Rattle.std.specs.Prelude.{slice_get, ◌↔◌}
use Rattle.std.proofs.lemmas.List.{length-map}
use Rattle.std.proofs.lemmas.Option.{slice_get_read}
use Rattle.ham_steps.specs.Steps.{after_steps}
use Rattle.ham_watch.specs.declared.watch.Watch.{Watch}
use Rattle.ham_state.specs.Holding.{HoldsBy}
use Rattle.ham_content.specs.Kept.{content}
use Rattle.ham_content.specs.Seats.{AreSieves}
use Rattle.ham_state.specs.Store.{Store}
use Rattle.ham_state.proofs.Found.{holds_found}
use Rattle.ham_state.proofs.state.State.holds_after.Goals as goal

pub returns : goal.returns
returns c =
    let seen : c.args.invariant < length (map (λ (v : Watch). v.invariant) c.self.inside.watches.items) = subst (λ (v : Store). c.args.invariant < length v.invariants) (sym c.self.view_is) c.requires.exists in
    let within : c.args.invariant < length c.self.inside.watches.items = omega (arith, length-map c.self.inside.watches.items (λ (v : Watch). v.invariant)) in
    let found : slice_get c.self.inside.watches.items c.args.invariant ≡ Some c.index-watch.result.now = slice_get_read c.self.inside.watches.items (length c.self.inside.watches.items) c.args.invariant c.index-watch.result.now refl within c.index-watch.ensures in
    subst (λ (v : Store). c.is_sound.result ≡ true ↔ HoldsBy (after_steps c.args.steps.now v.content) (slice_get v.invariants c.args.invariant)) c.self.view_is
    (holds_found c.self.inside.facts c.self.inside.amounts c.args.steps.now c.self.inside.watches.items c.args.invariant c.index-watch.result.now c.is_sound.result c.self.invariant.watched found c.is_sound.ensures)

pub invariant_of-ahead : goal.invariant_of-ahead
invariant_of-ahead c = record {
  sieved = subst (AreSieves (content c.self.inside.facts c.self.inside.amounts)) (sym c.deref.ensures.value) c.self.invariant.sieved;
  few = c.requires.few;
  small = c.requires.small;
}

pub invariant_of-is_sound : goal.invariant_of-is_sound
invariant_of-is_sound c =
    let seen : c.args.invariant < length (map (λ (v : Watch). v.invariant) c.self.inside.watches.items) = subst (λ (v : Store). c.args.invariant < length v.invariants) (sym c.self.view_is) c.requires.exists in
    let within : c.args.invariant < length c.self.inside.watches.items = omega (arith, length-map c.self.inside.watches.items (λ (v : Watch). v.invariant)) in
    record { watched = c.self.invariant.watched c.args.invariant c.index-watch.result.now (slice_get_read c.self.inside.watches.items (length c.self.inside.watches.items) c.args.invariant c.index-watch.result.now refl within c.index-watch.ensures) }
