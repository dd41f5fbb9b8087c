-- Answers that are the value where there is no fault, and else the first fault.
use Rattle.std.proofs.Common.{◌≡◌, List, [], ◌∷◌, ◌++◌, Result, Ok, Err, refl}
use Rattle.std.specs.Prelude.{slice_get, Some}
use Rattle.ham_check.specs.declared.raw.Ill.{Ill}
use Rattle.ham_check.specs.declared.raw.CheckFault.{CheckFault}
use Rattle.ham_check.specs.declared.raw.CheckFault.TheVariants as check
use Rattle.ham_check.specs.declared.raw.IllKind.{IllKind}
use Rattle.ham_check.specs.declared.raw.IllPlace.{IllPlace}
use Rattle.ham_check.specs.Faults.{Checks, first_fault_or, placed, faults_at}

first-append : {A : Type 0} (xs ys : List A) (x : A) → slice_get xs 0 ≡ Some x → slice_get (xs ++ ys) 0 ≡ Some x
first-append [] ys x e = cc
first-append (w ∷ xs) ys x e = e

-- a fault of the front is the first of all
pub Checks-front : {A B : Type 0} (fs gs : List Ill) (v : A) (w : B) (e : CheckFault) → Checks fs v (Err e) → Checks (fs ++ gs) w (Err e)
Checks-front fs gs v w (check.Ill f) h = first-append fs gs f h
Checks-front fs gs v w check.NoMemory h = tt

-- the same fault, for another value
pub Checks-other : {A B : Type 0} (fs : List Ill) (v : A) (w : B) (e : CheckFault) → Checks fs v (Err e) → Checks fs w (Err e)
Checks-other fs v w (check.Ill f) h = h
Checks-other fs v w check.NoMemory h = tt

-- a front with no fault, and then the rest
pub Checks-rest_Err : {A B : Type 0} (fs gs : List Ill) (v x : A) (w : B) (e : CheckFault) → Checks fs v (Ok x) → Checks gs w (Err e) → Checks (fs ++ gs) w (Err e)
Checks-rest_Err [] gs v x w e h k = k
Checks-rest_Err (f ∷ fs) gs v x w e h k = let never = h.0 in cc

pub none-append : (fs gs : List Ill) → fs ≡ [] → gs ≡ [] → fs ++ gs ≡ []
none-append [] gs h k = k
none-append (f ∷ fs) gs h k = cc

-- an equal list of faults
pub Checks-at_Err : {A : Type 0} (fs gs : List Ill) (w : A) (e : CheckFault) → fs ≡ gs → Checks gs w (Err e) → Checks fs w (Err e)
Checks-at_Err fs gs w (check.Ill f) e h = rw e h
Checks-at_Err fs gs w check.NoMemory e h = tt

-- the tests of one entry, at its place
pub Checks-placed : {A : Type 0} (at : IllPlace) (kinds : List IllKind) (v : A) (r : Result A IllKind) (p : Result A CheckFault) → r ≡ first_fault_or kinds v → p ≡ placed at r → Checks (faults_at at kinds) v p
Checks-placed at [] v r p e k = rw (k, e) (refl, refl)
Checks-placed at (kind ∷ kinds) v r p e k = rw (k, e) refl
