-- A loop over the items of a list.
use Rattle.std.proofs.Common.{◌≡◌, ℕ, zero, suc, ◌+◌, ◌<◌, List, [], ◌∷◌, ◌++◌, length, get_or, take, drop, sym, ap, subst, ◌∙◌, add-one, arith}
use Rattle.std.proofs.lemmas.List.{take-append-drop}
use Rattle.std.proofs.Math.Seq.{take-suc, drop-cons}
use Rattle.std.specs.List.{AllByRecursion}

pub item_next : {X : Type 0} (all : List X) (i : ℕ) (x : X) → i < length all → x ≡ get_or all i x → take (i + 1) all ≡ take i all ++ x ∷ []
item_next all i x h e = rw add-one (take-suc all i x h ∙ ap (λ (y : _). take i all ++ y ∷ []) (sym e))

pub item_here : {X : Type 0} (P : X → Type 0) (all : List X) (i : ℕ) (x : X) → i < length all → x ≡ get_or all i x → AllByRecursion P all → P x
item_here P [] i x h e a = absurd (omega arith)
item_here P (y ∷ all) zero x h e a = subst P (sym e) a.0
item_here P (y ∷ all) (suc i) x h e a = item_here P all i x (omega arith) e a.1

pub all_cut : {X : Type 0} (all : List X) (i : ℕ) → all ≡ take i all ++ drop i all
all_cut all i = sym (take-append-drop i all)

pub item_cut : {X : Type 0} (all : List X) (i : ℕ) (x : X) → i < length all → x ≡ get_or all i x → all ≡ take i all ++ x ∷ drop (i + 1) all
item_cut all i x h e = rw add-one (all_cut all i ∙ ap (λ (r : _). take i all ++ r) (drop-cons all i x h ∙ ap (λ (y : _). y ∷ drop (suc i) all) (sym e)))
