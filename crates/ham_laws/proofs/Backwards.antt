-- Lists of calls with the newest call first: the proof of the laws goes along their tails.
use Rattle.std.proofs.Common.{◌++◌, List, [], ◌∷◌, refl, sym, subst, inl, inr}
use Rattle.std.specs.Prelude.{⊤}
use Rattle.ham_meaning.specs.Relations.{Meaning, IsLawful}
use Rattle.ham_plan.specs.Lists.{In, Within}
use Rattle.ham_laws.specs.Executions.{Constraints, Execution, Needs, IsWellCoordinated}
use Rattle.ham_plan.proofs.Lists.{in_back, in_with, in_without}

-- the state after the list
abbrev pub state : {C : Type 0} (m : Meaning) → Execution C m.Act → List C → m.State
state m e [] = m.opening
state m e (c ∷ older) = m.update (e.act c) (state m e older)

-- each call is decided, stands once, and stands after all its needs
abbrev pub Closed : {C : Type 0} (m : Meaning) → Constraints → Execution C m.Act → List C → Type 0
Closed m p e [] = ⊤
Closed {C} m p e (c ∷ older) =
    In c e.decided × (In c older → ⊥) × ((n : C) → Needs m p e c n → In n older) × Closed m p e older

-- each call is permissible at its place
abbrev pub Good : {C : Type 0} (m : Meaning) → Execution C m.Act → List C → Type 0
Good m e [] = ⊤
Good m e (c ∷ older) = m.Permissible (state m e older) (e.act c) × Good m e older

-- the calls are in the order of their decision
abbrev pub Ordered : {C : Type 0} → (C → List C) → List C → Type 0
Ordered before [] = ⊤
Ordered before (c ∷ older) = (In c older → ⊥) × Within (before c) older × Ordered before older

pub ordered_before : {C : Type 0} (before : C → List C) (older : List C) → Ordered before older → (r n : C) → In r older → In n (before r) → In n older
ordered_before before [] h r n k j = absurd k
ordered_before before (x ∷ older) h r n (inl q) j = inr (h.1 n (subst (λ z. In n (before z)) q j))
ordered_before before (x ∷ older) h r n (inr k) j = inr (ordered_before before older h.2 r n k j)

-- ---- closed lists
module _ {C : Type 0} (m : Meaning) (p : Constraints) (e : Execution C m.Act) where
  pub calls_of : (xs : List C) → Closed m p e xs → Within xs e.decided
  calls_of [] h c k = absurd k
  calls_of (x ∷ xs) h c (inl q) = subst (λ y. In y e.decided) (sym q) h.0
  calls_of (x ∷ xs) h c (inr k) = calls_of xs h.3 c k

  -- what a call of the list needs stands in it
  pub needed : (c n : C) (xs : List C) → Closed m p e xs → In c xs → Needs m p e c n → In n xs
  needed c n [] h k need = absurd k
  needed c n (x ∷ xs) h (inl q) need = inr (h.2 n (subst (λ y. Needs m p e y n) q need))
  needed c n (x ∷ xs) h (inr k) need = inr (needed c n xs h.3 k need)

  pub tail_closed : (xs ys : List C) → Closed m p e (xs ++ ys) → Closed m p e ys
  tail_closed [] ys h = h
  tail_closed (x ∷ xs) ys h = tail_closed xs ys h.3

  pub not_both : (c : C) (xs ys : List C) → Closed m p e (xs ++ ys) → In c xs → In c ys → ⊥
  not_both c [] ys h k j = k
  not_both c (x ∷ xs) ys h (inl q) j = h.1 (in_back x xs ys (subst (λ y. In y ys) q j))
  not_both c (x ∷ xs) ys h (inr k) j = not_both c xs ys h.3 k j

  -- without a call that no later one needs
  pub without : (c : C) (xs ys : List C) → Closed m p e (xs ++ c ∷ ys) → ((x : C) → In x xs → Needs m p e x c → ⊥) → Closed m p e (xs ++ ys)
  without c [] ys h free = h.3
  without c (x ∷ xs) ys h free = (
    h.0,
    λ k. h.1 (in_with x c xs ys k),
    λ n need. in_without n c xs ys (λ q. free x (inl refl) (subst (λ y. Needs m p e x y) q need)) (h.2 n need),
    without c xs ys h.3 (λ y k. free y (inr k)),
  )

  -- with a new call after all its needs
  pub insert : (c : C) (xs ys : List C) → Closed m p e (xs ++ ys) → In c e.decided → (In c (xs ++ ys) → ⊥) → ((n : C) → Needs m p e c n → In n ys) → Closed m p e (xs ++ c ∷ ys)
  insert c [] ys h d new needs = (d, new, needs, h)
  insert c (x ∷ xs) ys h d new needs = (
    h.0,
    λ k. h.1 (in_without x c xs ys (λ q. new (inl (sym q))) k),
    λ n need. in_with n c xs ys (h.2 n need),
    insert c xs ys h.3 d (λ k. new (inr k)) needs,
  )

-- ---- states after lists
module _ {C : Type 0} (m : Meaning) (p : Constraints) (e : Execution C m.Act) (lawful : IsLawful m) (well : IsWellCoordinated m p e) where
  pub valid : (xs : List C) → Within xs e.decided → m.IsWellFormed (state m e xs)
  valid [] calls = lawful.opening_well_formed
  valid (c ∷ older) calls =
      lawful.update_well_formed (e.act c) (state m e older) (well.fits c (calls c (inl refl))) (valid older (λ x k. calls x (inr k)))

  -- the invariant holds after calls that are permissible at their places
  pub holds : (xs : List C) → Within xs e.decided → Good m e xs → m.Invariant (state m e xs)
  holds [] calls good = lawful.opening_invariant
  holds (x ∷ xs) calls good =
      lawful.permissible_keeps (e.act x) _ (well.fits x (calls x (inl refl))) (valid xs (λ y k. calls y (inr k))) good.0
