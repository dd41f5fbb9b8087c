-- Obligations that have reasons.
use Rattle.std.proofs.Common.{◌≡◌, ℕ, zero, suc, ◌+◌, ◌<◌, ◌≤◌, Bool, true, false, List, [], ◌∷◌, length, Option, Some, None, is_some, refl, sym, subst, ◌∙◌, true≢false, eqb, arith}
use Rattle.std.proofs.lemmas.Bool.{eqb-true, eqb-false, and_parts}
use Rattle.std.specs.Prelude.{slice_get}
use Rattle.std.specs.List.{list_all}
use Rattle.std.proofs.lemmas.Option.{slice_get_within, same_Some, none-some}
use Rattle.ham_syntax.specs.Objects.{Schema}
use Rattle.ham_syntax.specs.Checked.{IsChecked}
use Rattle.ham_rules.specs.declared.claim.Claim.{Claim}
use Rattle.ham_rules.specs.declared.claim.Obligation.{Obligation}
use Rattle.ham_rules.specs.declared.claim.Reason.{Reason}
use Rattle.ham_rules.specs.Claims.{obligations_of, first_reason_of, HasReason, Derivable, ClaimHolds}
use Rattle.ham_rules.specs.Derivations.{has_reason, is_derivable}
use Rattle.ham_rules.proofs.Listed.{none_admissible, found_passes}
use Rattle.ham_rules.proofs.Sound.{claim_holds}

-- ---- a test of each item of a list
all-each : {A : Type 0} (test : A → Bool) (xs : List A) → list_all test xs ≡ true → (i : ℕ) (x : A) → slice_get xs i ≡ Some x → test x ≡ true
all-each test [] e i x at = absurd (none-some x at)
all-each test (y ∷ xs) e zero x at = subst (λ z. test z ≡ true) (same_Some y x at) (and_parts (test y) (list_all test xs) e).0
all-each test (y ∷ xs) e (suc i) x at = all-each test xs (and_parts (test y) (list_all test xs) e).1 i x at

each-all : {A : Type 0} (test : A → Bool) (xs : List A) → ((i : ℕ) (x : A) → slice_get xs i ≡ Some x → test x ≡ true) → list_all test xs ≡ true
each-all test [] each = refl
each-all test (y ∷ xs) each =
    rw (each 0 y refl, each-all test xs (λ i x at. each (suc i) x at)) refl

-- ---- reasons
pub some_reason : (o : Schema) (claim : Claim) (what : Obligation) (found : Option Reason) → first_reason_of o claim what ≡ found → is_some found ≡ true → HasReason o claim what
some_reason o claim what None e h = absurd (true≢false (sym h))
some_reason o claim what (Some r) e h = (r, found_passes o claim what r e)

pub reason_some : (o : Schema) (claim : Claim) (what : Obligation) → IsChecked o → HasReason o claim what → has_reason o claim what ≡ true
reason_some o claim what checked h = by (first_reason_of o claim what) refl
  where
    by : (found : Option Reason) → first_reason_of o claim what ≡ found → is_some found ≡ true
    by (Some r) e = refl
    by None e = absurd (true≢false (sym h.1 ∙ none_admissible o claim what checked e h.0))

pub computed-derivable : (o : Schema) (claim : Claim) → is_derivable o claim ≡ true → Derivable o claim
unfolding is_derivable
computed-derivable o claim e = λ i what at. some_reason o claim what (first_reason_of o claim what) refl (all-each (has_reason o claim) (obligations_of o claim) e i what at)

pub derivable-computed : (o : Schema) (claim : Claim) → IsChecked o → Derivable o claim → is_derivable o claim ≡ true
unfolding is_derivable
derivable-computed o claim checked d = each-all (has_reason o claim) (obligations_of o claim) (λ i what at. reason_some o claim what checked (d i what at))

pub not-computed : (o : Schema) (claim : Claim) → (Derivable o claim → ⊥) → is_derivable o claim ≡ false
not-computed o claim never = by (is_derivable o claim) refl
  where
    by : (b : Bool) → is_derivable o claim ≡ b → b ≡ false
    by false e = refl
    by true e = absurd (never (computed-derivable o claim e))

pub computed-holds : (o : Schema) (claim : Claim) → IsChecked o → is_derivable o claim ≡ true → ClaimHolds o claim
computed-holds o claim checked e = claim_holds o claim checked (computed-derivable o claim e)

-- ---- the obligations up to one
abbrev pub WithReasons : Schema → Claim → ℕ → Type 0
WithReasons o claim n = (i : ℕ) (what : Obligation) → i < n → slice_get (obligations_of o claim) i ≡ Some what → has_reason o claim what ≡ true

pub with_none : (o : Schema) (claim : Claim) → WithReasons o claim 0
with_none o claim = λ i what h. absurd (omega arith)

pub with_more : (o : Schema) (claim : Claim) (n : ℕ) (what : Obligation) → WithReasons o claim n → slice_get (obligations_of o claim) n ≡ Some what → has_reason o claim what ≡ true → WithReasons o claim (n + 1)
with_more o claim n what before at here = λ i other h at_i. by i other h at_i (eqb i n) refl
  where
    by : (i : ℕ) (other : Obligation) → i < n + 1 → slice_get (obligations_of o claim) i ≡ Some other → (same : Bool) → eqb i n ≡ same → has_reason o claim other ≡ true
    by i other h at_i true e =
        let is = eqb-true i n e in
        let at_n : slice_get (obligations_of o claim) n ≡ Some other = subst (λ (k : ℕ). slice_get (obligations_of o claim) k ≡ Some other) is at_i in
        subst (λ w. has_reason o claim w ≡ true) (same_Some what other (sym at ∙ at_n)) here
    by i other h at_i false e = let apart = eqb-false i n e in before i other (omega arith) at_i

pub with_all : (o : Schema) (claim : Claim) (n : ℕ) → length (obligations_of o claim) ≤ n → WithReasons o claim n → Derivable o claim
with_all o claim n all with = λ i what at.
    let within = slice_get_within (obligations_of o claim) i what at in
    some_reason o claim what (first_reason_of o claim what) refl (with i what (omega arith) at)

-- an obligation with no reason
pub without : (o : Schema) (claim : Claim) → IsChecked o → (n : ℕ) (what : Obligation) → slice_get (obligations_of o claim) n ≡ Some what → has_reason o claim what ≡ false → Derivable o claim → ⊥
without o claim checked n what at none d = true≢false (sym (reason_some o claim what checked (d n what at)) ∙ none)
