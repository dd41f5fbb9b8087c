-- Terms that are read one after another.
use Rattle.std.proofs.Common.{◌≡◌, ℕ, ◌+◌, ◌<◌, Bool, List, ◌∷◌, ◌++◌, length, get_or, drop, refl, sym, ap, ◌∙◌}
use Rattle.std.proofs.lemmas.List.{drop_more}
use Rattle.ham_syntax.specs.declared.object.Param.{Param}
use Rattle.ham_check.specs.declared.raw.RawTerm.{RawTerm}
use Rattle.ham_check.specs.Faults.{id_ills, ids_ills}

-- the faults of a term, and then those of the terms after it
pub ids_ills-step : (any : Bool) (params : List Param) (ts : List RawTerm) (i : ℕ) (t : RawTerm) → i < length ts → t ≡ get_or ts i t → ids_ills any params (drop i ts) ≡ id_ills any params t ++ ids_ills any params (drop (i + 1) ts)
ids_ills-step any params ts i t h e =
    let dropped : drop i ts ≡ t ∷ drop (i + 1) ts = drop_more ts i t h ∙ ap (λ (y : RawTerm). y ∷ drop (i + 1) ts) (sym e) in
    rw dropped refl
