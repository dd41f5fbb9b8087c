-- Entries of tables.
use Rattle.std.proofs.Common.{◌≡◌, ℕ, zero, suc, ◌++◌, List, [], ◌∷◌, length, Some, None}
use Rattle.std.specs.Prelude.{slice_get}
use Rattle.ham_plan.specs.Plans.{Plan}
use Rattle.ham_site.specs.declared.tables.MethodPlan.{MethodPlan}
use Rattle.ham_site.specs.Tables.{IsMethodPlan, AreMethodPlans}

-- an item of a list that got one more
pub get_more : {X : Type 0} (P : ℕ → X → Type 0) (xs : List X) (y : X) → ((i : ℕ) (x : X) → slice_get xs i ≡ Some x → P i x) → P (length xs) y →
    (i : ℕ) (x : X) → slice_get (xs ++ y ∷ []) i ≡ Some x → P i x
get_more P [] y each last zero x e = rw (same y x e) last
  where
    same : {X : Type 0} (y x : X) → Some y ≡ Some x → x ≡ y
    same y x e = cc
get_more P [] y each last (suc i) x e = absurd (none x e)
  where
    none : {X : Type 0} (x : X) → None ≡ Some x → ⊥
    none x e = cc
get_more P (z ∷ xs) y each last zero x e = each zero x e
get_more P (z ∷ xs) y each last (suc i) x e = get_more (λ n. P (suc n)) xs y (λ n. each (suc n)) last i x e

pub method_more : (p : Plan) (found : List MethodPlan) (x : MethodPlan) → AreMethodPlans p found → IsMethodPlan p (length found) x → AreMethodPlans p (found ++ x ∷ [])
method_more p found x each last = get_more (IsMethodPlan p) found x each last
