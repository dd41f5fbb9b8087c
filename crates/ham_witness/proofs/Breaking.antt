-- What outcomes say, and which cases break a relation.
use Rattle.std.proofs.Common.{◌≡◌, ℕ, ◌<◌, Option, Some, None, refl, sym, ap, subst, ◌∙◌, arith}
use Rattle.std.specs.Prelude.{IsTrue, MatchOption}
use Rattle.std.specs.List.{flat_map}
use Rattle.ham_syntax.specs.declared.act.Act.{Act}
use Rattle.ham_syntax.specs.Objects.{Schema, args_fit, columns_of}
use Rattle.ham_steps.specs.Content.{State}
use Rattle.ham_meaning.specs.declared.outcome.Outcome.TheVariants as outcomes
use Rattle.ham_meaning.specs.Meaning.{update, AllHold, IsPermissible, IsOutcome, IsSafety}
use Rattle.ham_rules.specs.declared.claim.Claim.{Claim}
use Rattle.ham_rules.specs.declared.claim.Claim.TheVariants.{Sc, Is, Pr, Pl}
use Rattle.ham_rules.specs.Claims.{ClaimHolds, each_below}
use Rattle.ham_meaning.specs.OfObjects.{HasColumns}
use Rattle.ham_witness.specs.declared.answers.Shown.{Shown}
use Rattle.ham_witness.specs.declared.answers.Shown.TheVariants as shown
use Rattle.ham_witness.specs.declared.ids.Ids.{Ids}
use Rattle.ham_witness.specs.declared.kinds.Kinds.{Kinds}
use Rattle.ham_witness.specs.Cases.{first_method, second_method, state_of, first_act, second_act, mask_count, case_of, cases_with, ids_of, all_kinds, cases}
use Rattle.ham_state.specs.Store.{Store}
use Rattle.ham_witness.specs.Shown.{BreaksBy, Breaks, NoneBreaks, IsWhyNot, Shows, IsFirst, IsFirstExample, HoldsUnlessSc}
use Rattle.ham_witness.proofs.First.{first-below}

module _ (o : Schema) (s : State) (a : Act) where
  pub guard-not : (i : ℕ) → IsOutcome o s a (outcomes.Guard i) → ¬ IsPermissible o s a
  guard-not i h = λ p. h.fails (p.guards i h.item h.is)

  pub invariant-not : (i : ℕ) → IsOutcome o s a (outcomes.Invariant i) → ¬ IsPermissible o s a
  invariant-not i h = λ p. h.1.fails (p.invariants i h.1.item h.1.is)

pub unsafe-not : (o : Schema) (s : State) (i : ℕ) → IsSafety o s (outcomes.Invariant i) → ¬ AllHold o s
unsafe-not o s i h = λ p. h.fails (p i h.item h.is)

-- a case that breaks the relation of a claim leaves the claim false
pub broken : (o : Schema) (claim : Claim) (s : State) (a : Act) (b : Option Act) → BreaksBy o claim s a b → ClaimHolds o claim → ⊥
broken o (Sc m n) s a (Some b) h claim = h.differ (claim a b s h.first h.second h.well_formed)
broken o (Sc m n) s a None h claim = absurd h
broken o (Is m) s a b h claim = h.impermissible (claim a s h.first h.well_formed h.invariant)
broken o (Pr m n) s a (Some b) h claim = h.impermissible (claim a b s h.first h.second h.well_formed h.invariant h.permissible h.other_permissible)
broken o (Pr m n) s a None h claim = absurd h
broken o (Pl m n) s a (Some b) h claim = h.impermissible (claim a b s h.first h.second h.well_formed h.invariant h.other_permissible h.permissible)
broken o (Pl m n) s a None h claim = absurd h

pub holds_unless_sc : (o : Schema) (claim : Claim) (s : State) (a : Act) (b : Option Act) → BreaksBy o claim s a b → HoldsUnlessSc o claim s
holds_unless_sc o (Sc m n) s a b h = tt
holds_unless_sc o (Is m) s a b h = h.invariant
holds_unless_sc o (Pr m n) s a (Some b) h = h.invariant
holds_unless_sc o (Pr m n) s a None h = absurd h
holds_unless_sc o (Pl m n) s a (Some b) h = h.invariant
holds_unless_sc o (Pl m n) s a None h = absurd h

-- m's act is asked after n's
module _ (o : Schema) (s t : State) (a b : Act) (fits : IsTrue (args_fit o a)) (other_fits : IsTrue (args_fit o b)) (well : HasColumns (columns_of o) s) (all : AllHold o s) where
  pub right-shown : IsPermissible o s a → IsPermissible o s b → t ≡ update o b s → (found : Option Shown) → MatchOption found (IsPermissible o t a) (IsWhyNot o t a) → Shows o (Pr a.method b.method) s a (Some b) found
  right-shown may other_may is None h = λ k. k.impermissible (subst (λ (x : State). IsPermissible o x a) is h)
  right-shown may other_may is (Some shown.Unequal) h = absurd h
  right-shown may other_may is (Some (shown.Outcome outcome)) h = (
    record {
      first = (fits, refl);
      second = (other_fits, refl);
      well_formed = well;
      invariant = all;
      permissible = may;
      other_permissible = other_may;
      impermissible = λ p. h.1 (subst (λ (x : State). IsPermissible o x a) (sym is) p);
    },
    subst (λ (x : State). IsOutcome o x a outcome) is h.0,
  )

-- a claim is known by its kind and its methods
pub shows-alone : (o : Schema) (claim : Claim) (m : ℕ) (s : State) (a : Act) (b : Option Act) (found : Option Shown) → claim ≡ Is m → a.method ≡ first_method claim → Shows o (Is a.method) s a b found → Shows o claim s a b found
shows-alone o claim m s a b found e is h = subst (λ (k : Claim). Shows o k s a b found) (ap Is (is ∙ ap first_method e) ∙ sym e) h

-- ---- a case of the list
module _ (o : Schema) (ids : Ids) (claim : Claim) (kinds : Kinds) (mask : ℕ) where
  -- what holds of the case of the mask holds of what equals its parts
  pub of-case : (F : State → Act → Option Act → Type 0) (s : State) (a : Act) (b : Option Act) → s ≡ state_of o ids kinds → a ≡ first_act o ids claim → b ≡ second_act o ids mask (second_method claim) →
      F (state_of o ids kinds) (first_act o ids claim) (second_act o ids mask (second_method claim)) → F s a b
  of-case F s a b es ea eb h =
      subst (λ (t : State). F t a b) (sym es) (subst (λ (x : Act). F (state_of o ids kinds) x b) (sym ea) (subst (λ (y : Option Act). F (state_of o ids kinds) (first_act o ids claim) y) (sym eb) h))

  pub no-case : (s : State) (a : Act) (b : Option Act) → s ≡ state_of o ids kinds → a ≡ first_act o ids claim → b ≡ second_act o ids mask (second_method claim) →
      Shows o claim s a b None → ¬ Breaks o claim (case_of o ids claim kinds mask)
  no-case s a b es ea eb = of-case (λ t x y. Shows o claim t x y None → ¬ Breaks o claim (case_of o ids claim kinds mask)) s a b es ea eb (λ h. h)

  pub found-case : (count : ℕ) (s : Store) (a : Act) (b : Option Act) (what : Shown) → s.content ≡ state_of o ids kinds → s.invariants ≡ o.invariants → a ≡ first_act o ids claim → b ≡ second_act o ids mask (second_method claim) → count ≡ mask_count o (second_method claim) →
      mask < count → NoneBreaks o claim (each_below mask (case_of o ids claim kinds)) → Shows o claim s.content a b (Some what) → IsFirstExample o claim (cases_with o ids claim kinds) (record { state = s; m = a; n = b; shown = what })
  found-case count s a b what es opened ea eb ec lt none shows =
      let first =
      of-case (λ t x y. BreaksBy o claim t x y → IsFirst (Breaks o claim) (cases_with o ids claim kinds) (record { state = t; m = x; n = y })) s.content a b es ea eb
      (λ h. first-below (Breaks o claim) (case_of o ids claim kinds) (mask_count o (second_method claim)) mask (omega arith) none h) in
      record { first = first shows.0; shown = shows.1; opened = opened }

-- the kinds' cases together
pub all-cases : (o : Schema) (claim : Claim) (ids : Ids) → ids ≡ ids_of o claim → flat_map (cases_with o ids claim) all_kinds ≡ cases o claim
unfolding cases
all-cases o claim ids e = ap (λ (two : Ids). flat_map (cases_with o two claim) all_kinds) e
