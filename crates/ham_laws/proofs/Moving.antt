-- An act is moved left, or right, past permissible acts.
use Rattle.std.proofs.Common.{◌≡◌, ◌⊎◌, ◌++◌, false, List, [], ◌∷◌, refl, sym, subst, inl, inr}
use Rattle.ham_meaning.specs.Relations.{Meaning, IsLawful, InvariantSufficient, PermissibleRight, PermissibleLeft}
use Rattle.ham_plan.specs.Lists.{In, Within}
use Rattle.ham_laws.specs.Executions.{Constraints, IsSound, Execution, IsWellCoordinated, method_of}
use Rattle.ham_laws.specs.Moves.{after_acts, ArePermissible, MovesLeft, MovesRight}
use Rattle.ham_plan.proofs.Lists.{in_back}
use Rattle.ham_laws.proofs.Backwards.{state, Good, valid, holds}

-- left past by permissible-left or invariant-sufficient
pub moves_left : (m : Meaning) → IsLawful m → MovesLeft m
moves_left m lawful s a [] ok inv fits good may h = h
moves_left m lawful s a (b ∷ acts) ok inv fits good may h =
    let h' : m.Permissible (m.update b s) a =
    moves_left m lawful (m.update b s) a acts (lawful.update_well_formed b s good.0 ok) (lawful.permissible_keeps b s good.0 ok good.1) fits good.2 (λ x k. may x (inr k)) h in
    elim (may b (inl refl)) [
      | inl enough ↦ enough a s (fits, refl) ok inv
      | inr left ↦ left a b s (fits, refl) (good.0, refl) ok inv good.1 h'
    ]

-- right past by permissible-right or invariant-sufficient
pub moves_right : (m : Meaning) → IsLawful m → MovesRight m
moves_right m lawful s a [] ok inv fits good may h = h
moves_right m lawful s a (b ∷ acts) ok inv fits good may h =
    let ok' : m.IsWellFormed (m.update b s) = lawful.update_well_formed b s good.0 ok in
    let inv' : m.Invariant (m.update b s) = lawful.permissible_keeps b s good.0 ok good.1 in
    let h' : m.Permissible (m.update b s) a = elim (may b (inl refl)) [
      | inl enough ↦ enough a (m.update b s) (fits, refl) ok' inv'
      | inr right ↦ right a b s (fits, refl) (good.0, refl) ok inv h good.1
    ] in
    moves_right m lawful (m.update b s) a acts ok' inv' fits good.2 (λ x k. may x (inr k)) h'

-- ---- the same of the last calls of a list
-- the acts of calls with the newest first, oldest first, and then these
abbrev acts_of : {C : Type 0} (m : Meaning) → Execution C m.Act → List C → List m.Act → List m.Act
acts_of m e [] later = later
acts_of m e (c ∷ older) later = acts_of m e older (e.act c ∷ later)

state-acts : {C : Type 0} (m : Meaning) (e : Execution C m.Act) (rest common : List C) (later : List m.Act) →
    after_acts m (state m e (rest ++ common)) later ≡ after_acts m (state m e common) (acts_of m e rest later)
state-acts m e [] common later = refl
state-acts m e (r ∷ rest) common later = state-acts m e rest common (e.act r ∷ later)

in_acts : {C : Type 0} (m : Meaning) (e : Execution C m.Act) (rest : List C) (later : List m.Act) (b : m.Act) → In b (acts_of m e rest later) →
    ((r : C) × In r rest × (e.act r ≡ b)) ⊎ In b later
in_acts m e [] later b k = inr k
in_acts m e (r ∷ rest) later b k = elim (in_acts m e rest (e.act r ∷ later) b k) [
  | inl w ↦ inl (w.0, inr w.1, w.2)
  | inr j ↦ elim j [ inl q ↦ inl (r, inl refl, sym q) | inr i ↦ inr i ]
]

module _ {C : Type 0} (m : Meaning) (p : Constraints) (e : Execution C m.Act) (lawful : IsLawful m) (sound : IsSound m p) (well : IsWellCoordinated m p e) where
  good_acts : (rest common : List C) (later : List m.Act) → Within (rest ++ common) e.decided → Good m e (rest ++ common) →
      ArePermissible m (state m e (rest ++ common)) later → ArePermissible m (state m e common) (acts_of m e rest later)
  good_acts [] common later calls good h = h
  good_acts (r ∷ rest) common later calls good h =
      good_acts rest common (e.act r ∷ later) (λ y k. calls y (inr k)) good.1 (well.fits r (calls r (inl refl)), good.0, h)

  tail_good : (rest common : List C) → Good m e (rest ++ common) → Good m e common
  tail_good [] common good = good
  tail_good (r ∷ rest) common good = tail_good rest common good.1

  -- c goes left past the last calls, on none of which it depends
  pub left_past : (c : C) (rest common : List C) → In c e.decided → Within (rest ++ common) e.decided → Good m e (rest ++ common) →
      ((r : C) → In r rest → p.depends (method_of m e c) (method_of m e r) ≡ false) →
      m.Permissible (state m e (rest ++ common)) (e.act c) → m.Permissible (state m e common) (e.act c)
  left_past c rest common d calls good free h =
      let known : Within common e.decided = λ x k. calls x (in_back x rest common k) in
      moves_left m lawful (state m e common) (e.act c) (acts_of m e rest [])
      (valid m p e lawful well common known) (holds m p e lawful well common known (tail_good rest common good)) (well.fits c d)
      (good_acts rest common [] calls good tt)
      (λ b k. elim (in_acts m e rest [] b k) [
        | inl w ↦ subst (λ x. InvariantSufficient m (method_of m e c) ⊎ PermissibleLeft m (method_of m e c) (m.method x)) w.2 (sound.left (method_of m e c) (method_of m e w.0) (free w.0 w.1))
        | inr none ↦ absurd none
      ])
      (subst (λ s. m.Permissible s (e.act c)) (state-acts m e rest common []) h)

  -- c goes right past further calls that do not conflict with it
  pub right_past : (c : C) (rest common : List C) → In c e.decided → Within (rest ++ common) e.decided → Good m e (rest ++ common) →
      ((r : C) → In r rest → p.conflict (method_of m e c) (method_of m e r) ≡ false) →
      m.Permissible (state m e common) (e.act c) → m.Permissible (state m e (rest ++ common)) (e.act c)
  right_past c rest common d calls good apart h =
      let known : Within common e.decided = λ x k. calls x (in_back x rest common k) in
      subst (λ s. m.Permissible s (e.act c)) (sym (state-acts m e rest common []))
      (moves_right m lawful (state m e common) (e.act c) (acts_of m e rest [])
      (valid m p e lawful well common known) (holds m p e lawful well common known (tail_good rest common good)) (well.fits c d)
      (good_acts rest common [] calls good tt)
      (λ b k. elim (in_acts m e rest [] b k) [
        | inl w ↦ subst (λ x. InvariantSufficient m (method_of m e c) ⊎ PermissibleRight m (method_of m e c) (m.method x)) w.2 (sound.right (method_of m e c) (method_of m e w.0) (apart w.0 w.1))
        | inr none ↦ absurd none
      ])
      h)
