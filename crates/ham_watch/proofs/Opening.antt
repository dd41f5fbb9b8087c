-- In the opening state no row is counted, and no spot is broken.
use Rattle.std.proofs.Common.{◌≡◌, ℕ, false, not, ◌&&◌, List, [], ◌∷◌, refl, sym, ap, ◌∙◌}
use Rattle.std.specs.Prelude.{nat_lt, int_le, pos, ℤ, unwrap_or}
use Rattle.std.specs.List.{list_any}
use Rattle.std.specs.Map.{lookup}
use Rattle.std.specs.HashMap.{HashMap}
use Rattle.std.specs.HashSet.{HashSet}
use Rattle.ham_content.specs.declared.tables.FactKey.{FactKey}
use Rattle.ham_content.specs.declared.tables.Spot.{Spot}
use Rattle.ham_content.specs.Kept.{fact, spot, same_fact, same_spot, content}
use Rattle.ham_content.proofs.Contents.{has-content, value-content}
use Rattle.ham_syntax.specs.declared.object.Invariant.{Invariant}
use Rattle.ham_syntax.specs.declared.object.Invariant.TheVariants as invariants
use Rattle.ham_watch.specs.Broken.{tally_of, is_broken, OpensWell}
use Rattle.ham_content.proofs.Counting.{tally-opening}
use Rattle.ham_steps.specs.Content.{opening, has}
use Rattle.ham_steps.proofs.ContentLaws.{has-opening, value-opening, same_state}

pub tally_of-opening : (v : Invariant) (k : List ℕ) → 0 ≡ tally_of opening v k
tally_of-opening (invariants.Reference from columns to) k = sym (tally-opening from columns k)
tally_of-opening (invariants.Unique r columns) k = sym (tally-opening r columns k)
tally_of-opening (invariants.Low c limit) k = refl
tally_of-opening (invariants.High c limit) k = refl

pub none_broken : (v : Invariant) (k : List ℕ) → OpensWell v → false ≡ is_broken opening v k
none_broken (invariants.Reference from columns to) k h = sym (ap (λ n. nat_lt 0 n && not (has opening to k)) (tally-opening from columns k))
none_broken (invariants.Unique r columns) k h = sym (ap (nat_lt 1) (tally-opening r columns k))
none_broken (invariants.Low c limit) [] h = refl
none_broken (invariants.Low c limit) (k ∷ []) h = sym (ap (λ v. not (int_le limit v)) (value-opening c k) ∙ ap not h)
none_broken (invariants.Low c limit) (k ∷ j ∷ ks) h = refl
none_broken (invariants.High c limit) [] h = refl
none_broken (invariants.High c limit) (k ∷ []) h = sym (ap (λ v. not (int_le v limit)) (value-opening c k) ∙ ap not h)
none_broken (invariants.High c limit) (k ∷ j ∷ ks) h = refl

-- empty tables keep it
pub content-empty : {S T : Type 0} (facts : HashSet FactKey S) (amounts : HashMap Spot ℤ T) → facts.keys ≡ [] → amounts.entries ≡ [] → content facts amounts ≡ opening
content-empty facts amounts f a =
    same_state _ _
    (λ q x. has-content facts amounts q x ∙ ap (list_any (same_fact (fact q x))) f ∙ sym (has-opening q x))
    (λ c k. value-content facts amounts c k ∙ ap (λ es. unwrap_or (lookup (same_spot (spot c k)) es) (pos 0)) a ∙ sym (value-opening c k))
