-- A place stands in a list exactly where a test of its elements finds it.
use Rattle.std.proofs.Common.{◌≡◌, Bool, true, false, List, [], ◌∷◌, refl, sym, subst, ap, ◌∙◌, inl, inr, Option, Some, None, is_some}
use Rattle.std.specs.Prelude.{IsSome}
use Rattle.std.proofs.lemmas.Bool.{true≢false}
use Rattle.std.specs.List.{list_any}
use Rattle.ham_syntax.specs.declared.act.Call.{Call}
use Rattle.ham_syntax.specs.declared.act.Place.{Place}
use Rattle.ham_plan.specs.Lists.{In}
use Rattle.ham_plan.proofs.Lists.{true_or_false}
use Rattle.ham_turns.specs.Words.{same_place}
use Rattle.ham_runs.proofs.Decisions.{same_place_refl, same_place_true}

pub in_any : (p : Place) (xs : List Place) → In p xs → list_any (same_place p) xs ≡ true
in_any p [] k = absurd k
in_any p (x ∷ xs) (inl q) = rw (subst (λ z. same_place p z ≡ true) q (same_place_refl p)) refl
in_any p (x ∷ xs) (inr k) = elim (true_or_false (same_place p x)) [ inl t ↦ rw t refl | inr f ↦ rw f (in_any p xs k) ]

pub any_in : (p : Place) (xs : List Place) → list_any (same_place p) xs ≡ true → In p xs
any_in p [] h = cc
any_in p (x ∷ xs) h = elim (true_or_false (same_place p x)) [ inl t ↦ inl (same_place_true p x t) | inr f ↦ inr (any_in p xs (rw f at h)) ]

-- something is found exactly where the place stands in the list
pub found_any : (p : Place) (xs : List Place) (o : Option Call) → (IsSome o → In p xs) → (In p xs → IsSome o) → is_some o ≡ list_any (same_place p) xs
found_any p xs (Some c) there back = sym (in_any p xs (there refl))
found_any p xs None there back = elim (true_or_false (list_any (same_place p) xs)) [
  | inl t ↦ absurd (true≢false (sym (back (any_in p xs t))))
  | inr f ↦ sym f
]
