-- What the type keeps, through each change.
use Rattle.std.proofs.Common.{◌≡◌, ◌⊎◌, ℕ, ◌<◌, ◌≤◌, Bool, true, false, cond, List, Option, Some, None, refl, sym, ap, ◌∙◌, subst, inl, inr}
use Rattle.std.specs.Prelude.{IfSome, option_map}
use Rattle.std.specs.List.{AllByRecursion}
use Rattle.std.specs.FinMap as finmap
use Rattle.std.specs.Ordering.{eq_by_cmp}
use Rattle.std.proofs.lemmas.Map.Views.{tells_apart}
use Rattle.ham_syntax.specs.declared.act.Place.{Place}
use Rattle.ham_syntax.specs.declared.act.Call.{Call}
use Rattle.ham_syntax.specs.declared.limits.TheConstants.{MAX_LANES, MAX_SLOTS}
use Rattle.ham_buffer.specs.declared.buffer.Kept.{Kept}
use Rattle.ham_buffer.specs.Buffers.{place_cmp, place_of, map_of, shown, kept_at, kept_call, Buffer, IsKeptAt, IsBuffer}
use Rattle.ham_buffer.proofs.Maps.{place_cmp_total, place_exact}

-- nothing is kept at first
pub begun_kept : (lanes slots : ℕ) (es : List (Place × Kept)) → lanes ≤ MAX_LANES → slots ≤ MAX_SLOTS → map_of es ≡ finmap.empty → IsBuffer (shown lanes slots es)
begun_kept lanes slots es few_lanes few_slots e = record {
  few_lanes = few_lanes;
  few_slots = few_slots;
  each = λ p k found. absurd (none_some k (sym (ap (λ m. finmap.get m p) e ∙ finmap.get-empty place_cmp p) ∙ found));
}
  where
    none_some : (k : Kept) → None ≡ Some k → ⊥
    none_some k e = cc

of_before : (b : Bool) (o : Option Kept) (k : Kept) → cond b None o ≡ Some k → o ≡ Some k
of_before true o k e = cc
of_before false o k e = e

-- and so it is without a place
pub kept_without : (lanes slots : ℕ) (es fs : List (Place × Kept)) (p : Place) → IsBuffer (shown lanes slots es) → map_of fs ≡ finmap.remove (map_of es) p → IsBuffer (shown lanes slots fs)
kept_without lanes slots es fs p kept e = record {
  few_lanes = kept.few_lanes;
  few_slots = kept.few_slots;
  each = λ q k found.
      kept.each q k (of_before _ _ k (sym (ap (λ m. finmap.get m q) e ∙ finmap.get-remove place_cmp_total (map_of es) p q) ∙ found));
}

new_or_before : (b : Bool) (new : Kept) (o : Option Kept) (k : Kept) → cond b (Some new) o ≡ Some k → ((b ≡ true) × (new ≡ k)) ⊎ (o ≡ Some k)
new_or_before true new o k e = inl (refl, cc)
new_or_before false new o k e = inr e

kept_at_its_place : (lanes slots : ℕ) (p q : Place) (new k : Kept) → place_of new.call ≡ p → new.call.lane < lanes → AllByRecursion (λ w. w.slot < slots) new.waits →
    q ≡ p → new ≡ k → IsKeptAt lanes slots q k
kept_at_its_place lanes slots p q new k place lane waits same e = subst (λ (n : Kept). IsKeptAt lanes slots q n) e (record {
  place = place ∙ sym same;
  lane = subst (λ (r : Place). r.lane < lanes) (place ∙ sym same) lane;
  waits = waits;
})

-- and with a call more, at its own place
pub kept_with : (lanes slots : ℕ) (es fs : List (Place × Kept)) (p : Place) (new : Kept) → place_of new.call ≡ p → new.call.lane < lanes → AllByRecursion (λ w. w.slot < slots) new.waits →
    IsBuffer (shown lanes slots es) → map_of fs ≡ finmap.insert (map_of es) p new → IsBuffer (shown lanes slots fs)
kept_with lanes slots es fs p new place lane waits kept e = record {
  few_lanes = kept.few_lanes;
  few_slots = kept.few_slots;
  each = λ q k found.
      elim (new_or_before (eq_by_cmp place_cmp q p) new (kept_at (shown lanes slots es) q) k (sym (ap (λ m. finmap.get m q) e ∙ finmap.get-insert place_cmp_total (map_of es) p new q) ∙ found)) [
        | inl h ↦ kept_at_its_place lanes slots p q new k place lane waits (tells_apart place_exact q p h.0) h.1
        | inr h ↦ kept.each q k h
      ];
}

pub kept_same : (lanes slots : ℕ) (es fs : List (Place × Kept)) → IsBuffer (shown lanes slots es) → map_of fs ≡ map_of es → IsBuffer (shown lanes slots fs)
kept_same lanes slots es fs kept e =
    subst (λ (m : finmap.FinMap place_cmp Kept). IsBuffer (record { lanes = lanes; slots = slots; kept = m })) (sym e) kept

-- the call that is kept at a place has the place
pub place_kept : (b : Buffer) (p : Place) (found : Option Call) → IsBuffer b → found ≡ kept_call b p → IfSome found (λ c. place_of c ≡ p)
place_kept b p found kept e = subst (λ (o : Option Call). IfSome o (λ c. place_of c ≡ p)) (sym e) (at (kept_at b p) refl)
  where
    at : (o : Option Kept) → kept_at b p ≡ o → IfSome (option_map (λ (k : Kept). k.call) o) (λ c. place_of c ≡ p)
    at None h = tt
    at (Some k) h = (kept.each p k h).place
