-- The rules of a checked object are ranged.
use Rattle.std.proofs.Common.{◌≡◌, ℕ, zero, suc, ◌≤◌, ◌<◌, Bool, not, List, [], ◌∷◌, length, Option, Some, None, refl, sym, subst, true≢false, eqb-true, arith}
use Rattle.std.specs.Prelude.{slice_get, position, IsTrue, ◌==◌}
use Rattle.std.specs.List.{AllByRecursion, list_all, zip}
use Rattle.std.proofs.lemmas.Bool.{and_parts}
use Rattle.std.proofs.lemmas.List.Quantifiers.{position-Some}
use Rattle.std.proofs.lemmas.Option.{slice_get_within}
use Rattle.ham_syntax.specs.declared.act.Act.{Act}
use Rattle.ham_syntax.specs.declared.object.Method.{Method}
use Rattle.ham_syntax.specs.declared.limits.TheConstants.{MAX_PARTS}
use Rattle.ham_syntax.specs.Objects.{Schema, args_fit, method_fits, fits_kind}
use Rattle.ham_syntax.specs.Checked.{IsChecked, IsMethod}
use Rattle.ham_meaning.specs.declared.outcome.Outcome.TheVariants as outcomes
use Rattle.ham_meaning.specs.Meaning.{guards_by, guards_of, guard_holds, guard_or, invariant_at, holds, update}
use Rattle.ham_frame.specs.Spelling.{FitsAct, IsArgument}
use Rattle.ham_turns.specs.Settings.{rules_of}
use Rattle.ham_turns.specs.Tables.{IsRanged}

all_at : {X : Type 0} (P : X → Type 0) (xs : List X) (k : ℕ) (x : X) → AllByRecursion P xs → slice_get xs k ≡ Some x → P x
all_at P [] k x h e = absurd (none_some x e)
  where
    none_some : {X : Type 0} (x : X) → None ≡ Some x → ⊥
    none_some x e = cc
all_at P (y ∷ xs) zero x h e = subst P (same y x e) h.0
  where
    same : {X : Type 0} (y x : X) → Some y ≡ Some x → y ≡ x
    same y x e = cc
all_at P (y ∷ xs) (suc k) x h e = all_at P xs k x h.1 e

position_within : {X : Type 0} (test : X → Bool) (xs : List X) (i : ℕ) → position test xs ≡ Some i → i < length xs
position_within test [] i e = absurd (none_some i e)
  where
    none_some : (i : ℕ) → None ≡ Some i → ⊥
    none_some i e = cc
position_within test (x ∷ xs) i e = (position-Some test (x ∷ xs) i x e).0

-- a method that fits is one of the object's, and has as many parameters as there are arguments
act_ranged : (o : Schema) → IsChecked o → (a : Act) → IsTrue (args_fit o a) → AllByRecursion IsArgument a.args → FitsAct a
act_ranged o is a fits each = by (slice_get o.methods a.method) refl fits
  where
    by : (m : Option Method) → slice_get o.methods a.method ≡ m → IsTrue (method_fits m a.args) → FitsAct a
    by None e h = absurd (true≢false (sym h))
    by (Some m) e h =
        let within = slice_get_within o.methods a.method m e in
        let few = is.few_methods in
        let method = all_at (IsMethod o.relations o.counters) o.methods a.method m is.each_method e in
        let params = method.few_params in
        let many = eqb-true (length m.params) (length a.args) (and_parts (length m.params == length a.args) (list_all (λ p. fits_kind p.0.kind p.1) (zip m.params a.args)) h).0 in
        record { is_method = omega arith; few_args = omega arith; each_arg = each }

few_guards : (o : Schema) → IsChecked o → (a : Act) → length (guards_of o a) ≤ MAX_PARTS
few_guards o is a = by (slice_get o.methods a.method) refl
  where
    by : (m : Option Method) → slice_get o.methods a.method ≡ m → length (guards_by m) ≤ MAX_PARTS
    by None e = omega arith
    by (Some m) e = (all_at (IsMethod o.relations o.counters) o.methods a.method m is.each_method e).few_guards

guard_of : (first second : Option ℕ) (i : ℕ) → guard_or first (invariant_at second) ≡ outcomes.Guard i → first ≡ Some i
guard_of None None i e = cc
guard_of None (Some k) i e = cc
guard_of (Some k) second i e = cc

invariant_of : (first second : Option ℕ) (i : ℕ) → guard_or first (invariant_at second) ≡ outcomes.Invariant i → second ≡ Some i
invariant_of None None i e = cc
invariant_of None (Some k) i e = cc
invariant_of (Some k) second i e = cc

pub ranged : (o : Schema) → IsChecked o → IsRanged (rules_of o)
ranged o is = record {
  act = act_ranged o is;
  guard = λ s a i e.
      let within = position_within (λ g. not (guard_holds a.args s g)) (guards_of o a) i (guard_of _ (position (λ v. not (holds (update o a s) v)) o.invariants) i e) in
      let few = few_guards o is a in
      omega arith;
  invariant = λ s a i e.
      let within = position_within (λ v. not (holds (update o a s) v)) o.invariants i (invariant_of (position (λ g. not (guard_holds a.args s g)) (guards_of o a)) _ i e) in
      let few = is.few_invariants in
      omega arith;
  limit = omega arith;
}
