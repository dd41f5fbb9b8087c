-- What is read of one watch among all.
use Rattle.std.proofs.Common.{Bool, true, ◌&&◌, ◌≡◌, ℕ, zero, suc, List, [], ◌∷◌, Some, refl, sym, ap, ◌∙◌, subst, map}
use Rattle.std.specs.Prelude.{slice_get, ℤ, ◌↔◌}
use Rattle.std.specs.List.{list_all}
use Rattle.std.specs.HashMap.{HashMap}
use Rattle.std.specs.HashSet.{HashSet}
use Rattle.ham_steps.specs.declared.step.Step.{Step}
use Rattle.ham_steps.specs.Steps.{after_steps}
use Rattle.ham_content.specs.declared.tables.FactKey.{FactKey}
use Rattle.ham_content.specs.declared.tables.Spot.{Spot}
use Rattle.ham_content.specs.Kept.{content}
use Rattle.ham_state.specs.Ahead.{is_sound_after, spots_pass}
use Rattle.ham_content.proofs.Contents.{has-content}
use Rattle.ham_state.specs.Holding.{HoldsBy}
use Rattle.ham_state.proofs.Looking.{exactly}
use Rattle.ham_state.proofs.Held.{holds_exactly}
use Rattle.std.specs.HashSet as bag
use Rattle.ham_content.specs.Numbers.{same, IsNumber}
use Rattle.ham_content.specs.Tallies.{count}
use Rattle.ham_watch.specs.declared.watch.Watch.{Watch}
use Rattle.ham_watch.specs.Broken.{tally_at, is_broken_at}
use Rattle.ham_watch.specs.Watches.{AreWatches}
use Rattle.ham_steps.specs.Content.{State}

its_invariant : (ws : List Watch) (i : ℕ) (w : Watch) → slice_get ws i ≡ Some w → slice_get (map (λ (v : Watch). v.invariant) ws) i ≡ Some w.invariant
its_invariant [] i w e = cc
its_invariant (v ∷ ws) zero w e = let same_watch : v ≡ w = cc in ap (λ (u : Watch). Some u.invariant) same_watch
its_invariant (v ∷ ws) (suc i) w e = its_invariant ws i w e

pub tally_found : (s : State) (ws : List Watch) (i : ℕ) (w : Watch) (k : List ℕ) → AreWatches s ws → slice_get ws i ≡ Some w → count w.tallies k ≡ tally_at s (slice_get (map (λ (v : Watch). v.invariant) ws) i) k
tally_found s ws i w k all e = (all i w e).tallied k ∙ sym (ap (λ o. tally_at s o k) (its_invariant ws i w e))

pub broken_found : (s : State) (ws : List Watch) (i : ℕ) (w : Watch) → AreWatches s ws → slice_get ws i ≡ Some w → bag.IsUnique same w.broken → IsNumber (is_broken_at s (slice_get (map (λ (v : Watch). v.invariant) ws) i)) (bag.hash_set_len w.broken)
broken_found s ws i w all e unique = record { those = w.broken.keys; apart = unique; all = λ k. (all i w e).marked k ∙ sym (ap (λ o. is_broken_at s o k) (its_invariant ws i w e)); many = refl }

pub holds_found : {S T : Type 0} (facts : HashSet FactKey S) (amounts : HashMap Spot ℤ T) (net : List Step) (ws : List Watch) (i : ℕ) (w : Watch) (b : Bool) → AreWatches (content facts amounts) ws → slice_get ws i ≡ Some w → b ≡ (list_all (is_sound_after (content facts amounts) w.invariant net) w.broken.keys && list_all (spots_pass (is_sound_after (content facts amounts) w.invariant net) w.invariant facts.keys) net) → b ≡ true ↔ HoldsBy (after_steps net (content facts amounts)) (slice_get (map (λ (v : Watch). v.invariant) ws) i)
holds_found facts amounts net ws i w b all e is =
    let both = exactly net (content facts amounts) w.invariant facts.keys w.broken.keys (has-content facts amounts) ((all i w e).marked) in
    let held = holds_exactly (after_steps net (content facts amounts)) w.invariant in
    subst (λ o. b ≡ true ↔ HoldsBy (after_steps net (content facts amounts)) o) (sym (its_invariant ws i w e)) (λ h. held.0 (both.0 (sym is ∙ h)), λ h. is ∙ both.1 (held.1 h))
