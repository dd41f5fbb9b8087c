-- A walk over the entries of a section: those so far have no fault.
use Rattle.std.proofs.Common.{◌≡◌, ℕ, ◌+◌, ◌<◌, ◌≤◌, List, [], ◌∷◌, ◌++◌, length, get_or, take, drop, map, Ok, Err, refl, sym, ap, ◌∙◌}
use Rattle.std.proofs.lemmas.List.{take_more, drop_more, take_all, drop_all, map_more}
use Rattle.ham_check.specs.declared.raw.Ill.{Ill}
use Rattle.ham_check.specs.declared.raw.CheckFault.{CheckFault}
use Rattle.ham_check.specs.Faults.{Checks, entry_faults}
use Rattle.ham_check.proofs.FirstFault.{Checks-front, Checks-at_Err}

pub record IsWalked {E V : Type 0} (test : List E → E → List Ill) (value : E → V) (xs : List E) (i : ℕ) (done : List V) : Type 0 where
  pub done_is : done ≡ map value (take i xs)
  pub rest_is : entry_faults test [] xs ≡ entry_faults test (take i xs) (drop i xs)

module _ {E V : Type 0} (test : List E → E → List Ill) (value : E → V) (xs : List E) where
  pub IsWalked-none : IsWalked test value xs 0 []
  IsWalked-none = record { done_is = refl; rest_is = refl }

  -- the faults at an entry, and then those of the entries after it
  entry_faults-step : (i : ℕ) (x : E) → i < length xs → x ≡ get_or xs i x → entry_faults test (take i xs) (drop i xs) ≡ test (take i xs) x ++ entry_faults test (take (i + 1) xs) (drop (i + 1) xs)
  entry_faults-step i x h e =
      let dropped : drop i xs ≡ x ∷ drop (i + 1) xs = drop_more xs i x h ∙ ap (λ (y : E). y ∷ drop (i + 1) xs) (sym e) in
      let taken : take (i + 1) xs ≡ take i xs ++ x ∷ [] = take_more xs i x h ∙ ap (λ (y : E). take i xs ++ y ∷ []) (sym e) in
      rw (dropped, taken) refl

  pub IsWalked-more : (i : ℕ) (done : List V) (x : E) (v : V) → IsWalked test value xs i done → i < length xs → x ≡ get_or xs i x → Checks (test (take i xs) x) (value x) (Ok v) → IsWalked test value xs (i + 1) (done ++ v ∷ [])
  IsWalked-more i done x v w h e k =
      let mapped : map value (take (i + 1) xs) ≡ map value (take i xs) ++ value x ∷ [] = map_more value xs i x h ∙ ap (λ (y : E). map value (take i xs) ++ value y ∷ []) (sym e) in
      record {
        done_is = rw (w.done_is, k.1, mapped) refl;
        rest_is = w.rest_is ∙ (entry_faults-step i x h e ∙ ap (λ (fs : List Ill). fs ++ entry_faults test (take (i + 1) xs) (drop (i + 1) xs)) k.0);
      }

  pub IsWalked-stop : (i : ℕ) (done : List V) (x : E) (fault : CheckFault) → IsWalked test value xs i done → i < length xs → x ≡ get_or xs i x → Checks (test (take i xs) x) (value x) (Err fault) → Checks (entry_faults test [] xs) (map value xs) (Err fault)
  IsWalked-stop i done x fault w h e k =
      let rest = entry_faults test (take (i + 1) xs) (drop (i + 1) xs) in
      let all : entry_faults test [] xs ≡ test (take i xs) x ++ rest = w.rest_is ∙ entry_faults-step i x h e in
      Checks-at_Err _ _ (map value xs) fault all (Checks-front (test (take i xs) x) rest (value x) (map value xs) fault k)

  pub IsWalked-all : (i : ℕ) (done : List V) → IsWalked test value xs i done → length xs ≤ i → Checks (entry_faults test [] xs) (map value xs) (Ok done)
  IsWalked-all i done w h =
      let dropped = drop_all i xs h in
      let taken = take_all i xs h in
      (w.rest_is ∙ rw dropped refl, w.done_is ∙ ap (map value) taken)
