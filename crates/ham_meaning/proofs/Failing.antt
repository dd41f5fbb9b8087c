-- The first invariant that fails, as a loop finds it.
use Rattle.std.proofs.Common.{◌≡◌, ℕ, ◌+◌, ◌<◌, ◌≤◌, Bool, true, false, not, List, [], Some, None, sym, ap, ◌∙◌, subst, inl, inr, arith, length, get_or}
use Rattle.std.specs.Prelude.{◌↔◌, slice_get, position}
use Rattle.std.proofs.lemmas.Bool.{cases_lt, true≢false}
use Rattle.std.proofs.lemmas.Option.{slice_get_within, slice_get-get_or}
use Rattle.ham_syntax.specs.declared.object.Invariant.{Invariant}
use Rattle.ham_syntax.specs.declared.object.Invariant.TheVariants as invariants
use Rattle.ham_state.specs.Content.{State}
use Rattle.ham_state.specs.Holding.{HoldsBy}
use Rattle.ham_meaning.specs.First.{Each, FirstFails}
use Rattle.ham_meaning.specs.Meaning.{holds}
use Rattle.ham_meaning.proofs.Lists.{first_place}
use Rattle.ham_meaning.proofs.Computed.{from_Holds, Holds-from}

-- ---- the place of the first that fails
place_none : {A : Type 0} (test : A → Bool) (xs : List A) → Each (λ x. test x ≡ true) xs → position (λ x. not (test x)) xs ≡ None
place_none test xs each =
    elim (first_place test xs) [
      | inl w ↦ w.1
      | inr w ↦ absurd (w.1.fails (each w.0 w.1.item w.1.is))
    ]

one_place : {A : Type 0} (P : A → Type 0) (xs : List A) (i j : ℕ) → FirstFails P xs i → FirstFails P xs j → i < j → ⊥
one_place P xs i j f g h = f.fails (g.before i f.item h f.is)

place_some : {A : Type 0} (test : A → Bool) (xs : List A) (i : ℕ) → FirstFails (λ x. test x ≡ true) xs i → position (λ x. not (test x)) xs ≡ Some i
place_some test xs i f =
    elim (first_place test xs) [
      | inl w ↦ absurd (f.fails (w.0 i f.item f.is))
      | inr w ↦ w.2 ∙ ap Some (elim (cases_lt w.0 i) [
        | inl less ↦ absurd (one_place (λ x. test x ≡ true) xs w.0 i w.1 f less)
        | inr more ↦ elim (cases_lt i w.0) [
          | inl less ↦ absurd (one_place (λ x. test x ≡ true) xs i w.0 f w.1 less)
          | inr same ↦ omega arith
        ]
      ])
    ]

-- ---- invariants of a state, looked at one after the other
-- those before i hold
abbrev pub HoldBelow : State → List Invariant → ℕ → Type 0
HoldBelow s vs i = (j : ℕ) (v : Invariant) → j < i → slice_get vs j ≡ Some v → holds s v ≡ true

module _ (s : State) (kept vs : List Invariant) (opened : kept ≡ vs) where
  at_place : (i : ℕ) (v : Invariant) → slice_get vs i ≡ Some v → slice_get kept i ≡ Some v
  at_place i v is = ap (λ ws. slice_get ws i) opened ∙ is

  pub one_more_holds : (i : ℕ) (b : Bool) → b ≡ true ↔ HoldsBy s (slice_get kept i) → b ≡ true → HoldBelow s vs i → HoldBelow s vs (i + 1)
  one_more_holds i b says holding below j v h is =
      elim (cases_lt j i) [
        | inl less ↦ below j v less is
        | inr here ↦
            let one : j ≡ i = omega arith in
            let this : slice_get vs i ≡ Some v = ap (slice_get vs) (sym one) ∙ is in
            from_Holds s v (subst (HoldsBy s) (at_place i v this) (says.0 holding))
      ]

  pub first_that_fails : (i : ℕ) (b : Bool) → i < length vs → b ≡ true ↔ HoldsBy s (slice_get kept i) → b ≡ false → HoldBelow s vs i → Some i ≡ position (λ v. not (holds s v)) vs
  first_that_fails i b h says failing below =
      let is = slice_get-get_or vs i (invariants.Unique 0 []) h in
      let v = get_or vs i (invariants.Unique 0 []) in
      sym (place_some (holds s) vs i (record {
        item = v;
        is = is;
        fails = λ e. true≢false (sym (says.1 (subst (HoldsBy s) (sym (at_place i v is)) (Holds-from s v e))) ∙ failing);
        before = λ j w less found. below j w less found;
      }))

  pub none_fails : (i : ℕ) → length vs ≤ i → HoldBelow s vs i → None ≡ position (λ v. not (holds s v)) vs
  none_fails i h below = sym (place_none (holds s) vs (λ j v is. below j v (let within = slice_get_within vs j v is in omega arith) is))
