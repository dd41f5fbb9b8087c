-- Records that a text spells.
use Rattle.std.proofs.Common.{◌≡◌, ℕ, zero, suc, List, [], ◌∷◌, length, inl, inr, Option, Some, None, refl, sym, subst}
use Rattle.std.specs.Prelude.{IsTrue, slice_get}
use Rattle.std.specs.List.{AllByRecursion}
use Rattle.ham_syntax.specs.Objects.{Schema, args_fit}
use Rattle.ham_plan.specs.Plans.{Plan}
use Rattle.ham_plan.specs.Lists.{In}
use Rattle.ham_turns.specs.Settings.{rules_of, setting_of}
use Rattle.ham_records.specs.declared.records.Logged.{Logged}
use Rattle.ham_records.specs.Texts.{IsLogged, IsAuditText}
use Rattle.ham_audit.specs.Claims.{IsRecorded, TextsAreRecorded}
use Rattle.ham_audit.specs.Records.{log_of, or_empty}

one_of : {X : Type 0} (P : X → Type 0) (xs : List X) → AllByRecursion P xs → (x : X) → In x xs → P x
one_of P [] all x k = absurd k
one_of P (y ∷ xs) all x (inl q) = subst P (sym q) all.0
one_of P (y ∷ xs) all x (inr k) = one_of P xs all.1 x k

log_there : (P : List Logged → Type 0) (logs : List (List Logged)) → AllByRecursion P logs → P [] → (n : ℕ) → P (or_empty (slice_get logs n))
log_there P [] all none zero = none
log_there P [] all none (suc n) = none
log_there P (log ∷ logs) all none zero = all.0
log_there P (log ∷ logs) all none (suc n) = log_there P logs all.1 none n

calls_there : (o : Schema) (logs : List (List Logged)) → AllByRecursion (AllByRecursion (IsLogged o)) logs → (r : ℕ) → AllByRecursion (IsLogged o) (log_of logs r)
calls_there o logs all zero = tt
calls_there o logs all (suc n) = log_there (AllByRecursion (IsLogged o)) logs all tt n

pub texts_recorded : (o : Schema) (p : Plan) → TextsAreRecorded o p
unfolding setting_of
texts_recorded o p records bytes text same = record {
  replicas = same;
  fits = λ r e k. (one_of (IsLogged o) (log_of records r) (calls_there o records text.logs_are.each r) e k).fits;
}
