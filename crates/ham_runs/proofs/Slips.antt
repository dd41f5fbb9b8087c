-- What the slips would do.
use Rattle.std.proofs.Common.{◌≡◌, ℕ, ◌+◌, false, true, List, [], ◌∷◌, refl, ap, subst, inl, inr, arith}
use Rattle.std.specs.Prelude.{count_by}
use Rattle.ham_syntax.specs.declared.act.Place.{Place}
use Rattle.ham_plan.specs.Lists.{In}
use Rattle.ham_turns.specs.Settings.{setting_of}
use Rattle.ham_turns.specs.Words.{in_lane, place_of}
use Rattle.ham_runs.specs.Slips.{SlipsShow, MethodNeeds, twice, second}

not_zero : (n : ℕ) → 0 ≡ n + 1 → ⊥
not_zero n h = omega arith

not_two : (l : List Place) → l ≡ [] → ◌≡◌ {A = ℕ} 2 (count_by (in_lane 2) l + 1) → ⊥
not_two l e h =
    let c : count_by (in_lane 2) l ≡ 0 = ap (λ z. count_by (in_lane 2) z) e in
    omega arith

differ : false ≡ true → ⊥
differ h = cc

no_needs : (n : Place) → MethodNeeds twice (place_of second) n → In n []
unfolding setting_of
no_needs n need = elim need.0 [
  | inl q ↦ elim (subst (λ z. MethodNeeds twice (place_of second) z) q need).1 [ inl t ↦ differ t | inr t ↦ differ t ]
  | inr none ↦ none
]

pub slips_show : SlipsShow
unfolding setting_of
slips_show = record {
  off_by_one = λ w ready. not_zero (count_by (in_lane 2) w.log) ready.next;
  without_the_decision = λ well. (well.logs_closed 2).0;
  without_the_lane = (no_needs, (inl refl, inl refl), λ w empty ready. not_two w.log empty ready.next);
  not_the_next = λ h. absurd (apart h);
  another_replica = refl;
}
  where
    first : (a b : ℕ) → a ∷ [] ≡ b ∷ [] → a ≡ b
    first a b h = cc

    apart : ◌≡◌ {A = List ℕ} (2 ∷ []) (1 ∷ []) → ⊥
    apart h = let e = first 2 1 h in omega arith
