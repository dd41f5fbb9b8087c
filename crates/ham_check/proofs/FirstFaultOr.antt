-- A value where there is no fault, and else the first fault.
use Rattle.std.proofs.Common.{◌≡◌, List, [], ◌∷◌, ◌++◌, Ok, Err, refl}
use Rattle.ham_check.specs.Faults.{first_fault_or}

pub first_fault_or-Ok : {F A : Type 0} (fs : List F) (v x : A) → Ok x ≡ first_fault_or fs v → (fs ≡ []) × (x ≡ v)
first_fault_or-Ok [] v x e = (refl, cc)
first_fault_or-Ok (f ∷ fs) v x e = cc

pub first_fault_or-Err : {F A B : Type 0} (fs gs : List F) (v : A) (w : B) (f : F) → Err f ≡ first_fault_or fs v → Err f ≡ first_fault_or (fs ++ gs) w
first_fault_or-Err [] gs v w f e = cc
first_fault_or-Err (g ∷ fs) gs v w f e = cc

-- the same faults, for another value
pub first_fault_or-same_Err : {F A B : Type 0} (fs : List F) (v : A) (w : B) (f : F) → Err f ≡ first_fault_or fs v → Err f ≡ first_fault_or fs w
first_fault_or-same_Err [] v w f e = cc
first_fault_or-same_Err (g ∷ fs) v w f e = cc

pub first_fault_or-none : {F A : Type 0} (fs : List F) (v : A) → fs ≡ [] → Ok v ≡ first_fault_or fs v
first_fault_or-none [] v e = refl
first_fault_or-none (f ∷ fs) v e = cc

-- a value that is made from another
pub first_fault_or-same_Ok : {F A B : Type 0} (fs : List F) (v x : A) (f : A → B) → Ok x ≡ first_fault_or fs v → Ok (f x) ≡ first_fault_or fs (f v)
first_fault_or-same_Ok [] v x f e = cc
first_fault_or-same_Ok (g ∷ fs) v x f e = cc
