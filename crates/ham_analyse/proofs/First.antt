-- First reasons, and the first obligation without one.
use Rattle.std.proofs.Common.{◌≡◌, ℕ, zero, suc, ◌+◌, false, List, [], ◌∷◌, ◌++◌, length, get_or, take, map, Option, Some, None, is_some, refl, sym, ap, ◌∙◌, true≢false}
use Rattle.std.specs.Prelude.{slice_get}
use Rattle.std.proofs.lemmas.List.{take_more, map-append, length-map}
use Rattle.std.proofs.lemmas.Option.{slice_get_within, slice_get-get_or, same_Some}
use Rattle.ham_syntax.specs.Objects.{Schema}
use Rattle.ham_rules.specs.declared.claim.Claim.{Claim}
use Rattle.ham_rules.specs.declared.claim.Obligation.{Obligation}
use Rattle.ham_rules.specs.declared.claim.Reason.{Reason}
use Rattle.ham_rules.specs.Claims.{obligations_of, first_reason_of}
use Rattle.ham_rules.specs.Derivations.{IsGood, has_reason}
use Rattle.ham_rules.proofs.Listed.{found_passes}
use Rattle.ham_rules.proofs.Derived.{WithReasons}
use Rattle.ham_analyse.specs.Analysis.{AreFirst, IsFirstWithout}

none-first : (found : Option Reason) → is_some found ≡ false → found ≡ None
none-first None e = refl
none-first (Some r) e = absurd (true≢false e)

pub first_without : (o : Schema) (claim : Claim) (n : ℕ) (what : Obligation) → WithReasons o claim n → slice_get (obligations_of o claim) n ≡ Some what → has_reason o claim what ≡ false → IsFirstWithout o claim (n + 1)
first_without o claim n what before at none = record {
  what = what;
  place = n;
  number = refl;
  here = at;
  none = none-first _ none;
  before = λ i earlier h at_i e. true≢false (sym (before i earlier h at_i) ∙ ap is_some e);
}

-- ---- first reasons
pub first_more : (o : Schema) (claim : Claim) (reasons : List Reason) (n : ℕ) (what : Obligation) (r : Reason) → map Some reasons ≡ map (first_reason_of o claim) (take n (obligations_of o claim)) → slice_get (obligations_of o claim) n ≡ Some what → first_reason_of o claim what ≡ Some r → map Some (reasons ++ r ∷ []) ≡ map (first_reason_of o claim) (take (n + 1) (obligations_of o claim))
first_more o claim reasons n what r before at first =
    let within = slice_get_within (obligations_of o claim) n what at in
    let is : get_or (obligations_of o claim) n what ≡ what = same_Some _ _ (sym (slice_get-get_or (obligations_of o claim) n what within) ∙ at) in
    let more : take (n + 1) (obligations_of o claim) ≡ take n (obligations_of o claim) ++ what ∷ [] = take_more (obligations_of o claim) n what within ∙ ap (λ (w : Obligation). take n (obligations_of o claim) ++ w ∷ []) is in
    rw (more, map-append, map-append, before, first) refl

-- the first reasons make a good derivation
pub first_good : (o : Schema) (claim : Claim) (reasons : List Reason) → AreFirst o claim reasons → IsGood o claim reasons
first_good o claim reasons e = record {
  as_many = sym (length-map reasons Some) ∙ (ap length e ∙ length-map (obligations_of o claim) (first_reason_of o claim));
  each = λ i what reason at_what at_reason.
      let left : slice_get (map Some reasons) i ≡ Some (Some reason) = slice_get-map Some reasons i reason at_reason in
      let right : slice_get (map (first_reason_of o claim) (obligations_of o claim)) i ≡ Some (first_reason_of o claim what) = slice_get-map (first_reason_of o claim) (obligations_of o claim) i what at_what in
      found_passes o claim what reason (sym (same_Some _ _ (sym left ∙ (ap (λ (xs : List (Option Reason)). slice_get xs i) e ∙ right))));
}
  where
    slice_get-map : {A B : Type 0} (f : A → B) (xs : List A) (i : ℕ) (x : A) → slice_get xs i ≡ Some x → slice_get (map f xs) i ≡ Some (f x)
    slice_get-map f [] i x at = cc
    slice_get-map f (y ∷ xs) zero x at = ap (λ z. Some (f z)) (same_Some y x at)
    slice_get-map f (y ∷ xs) (suc i) x at = slice_get-map f xs i x at
