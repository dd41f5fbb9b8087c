-- Lists with the oldest call first, as the definitions have them, and the same lists with the newest call first.
use Rattle.std.proofs.Common.{◌≡◌, ◌++◌, List, [], ◌∷◌, refl, sym, subst, inl, inr}
use Rattle.std.specs.Prelude.{⊤}
use Rattle.ham_meaning.specs.Relations.{Meaning}
use Rattle.ham_plan.specs.Lists.{In, Within}
use Rattle.ham_laws.specs.Executions.{Constraints, Execution, state_after, IsInOrder, IsClosed, IsClosedAfter}
use Rattle.ham_plan.proofs.Lists.{onto, onto_in, in_turned}
use Rattle.ham_laws.proofs.Backwards.{state, Closed, Good, Ordered}

pub ordered_onto : {C : Type 0} (before : C → List C) (seen xs : List C) → IsInOrder before seen xs → Ordered before seen → Ordered before (onto xs seen)
ordered_onto before seen [] h hs = hs
ordered_onto before seen (x ∷ xs) h hs = ordered_onto before (x ∷ seen) xs h.2 (h.0, h.1, hs)

-- the same calls, turned round
pub within_turned : {C : Type 0} (xs ys : List C) → Within xs ys → Within (onto xs []) (onto ys [])
within_turned xs ys f x k = onto_in x ys [] (f x (in_turned x xs k))

-- each call is permissible at its place, from the state s on
abbrev pub GoodFrom : {C : Type 0} (m : Meaning) → Execution C m.Act → m.State → List C → Type 0
GoodFrom m e s [] = ⊤
GoodFrom m e s (c ∷ rest) = m.Permissible s (e.act c) × GoodFrom m e (m.update (e.act c) s) rest

pub good_at : {C : Type 0} (m : Meaning) (e : Execution C m.Act) (s : m.State) (earlier later : List C) (c : C) →
    GoodFrom m e s (earlier ++ c ∷ later) → m.Permissible (state_after m e s earlier) (e.act c)
good_at m e s [] later c h = h.0
good_at m e s (x ∷ earlier) later c h = good_at m e (m.update (e.act x) s) earlier later c h.1

module _ {C : Type 0} (m : Meaning) (p : Constraints) (e : Execution C m.Act) where
  pub closed_onto : (seen xs : List C) → IsClosedAfter m p e seen xs → Closed m p e seen → Closed m p e (onto xs seen)
  closed_onto seen [] h hs = hs
  closed_onto seen (x ∷ xs) h hs = closed_onto (x ∷ seen) xs h.3 (h.0, h.1, h.2, hs)

  -- and back
  pub closed_from : (older later : List C) → Closed m p e older → IsClosedAfter m p e older later → IsClosed m p e (onto older later)
  closed_from [] later h hl = hl
  closed_from (x ∷ older) later h hl = closed_from older (x ∷ later) h.3 (h.0, h.1, h.2, hl)

  pub state-onto : (seen xs : List C) → state m e (onto xs seen) ≡ state_after m e (state m e seen) xs
  state-onto seen [] = refl
  state-onto seen (x ∷ xs) = state-onto (x ∷ seen) xs

  pub good_onto : (seen xs : List C) → Good m e (onto xs seen) → GoodFrom m e (state m e seen) xs × Good m e seen
  good_onto seen [] h = (tt, h)
  good_onto seen (x ∷ xs) h = let w = good_onto (x ∷ seen) xs h in ((w.1.0, w.0), w.1.1)

  -- what begins a closed list is closed
  pub front_closed : (seen earlier later : List C) → IsClosedAfter m p e seen (earlier ++ later) → IsClosedAfter m p e seen earlier
  front_closed seen [] later h = tt
  front_closed seen (x ∷ earlier) later h = (h.0, h.1, h.2, front_closed (x ∷ seen) earlier later h.3)

  -- the calls of a closed list are decided
  pub calls_after : (seen xs : List C) → IsClosedAfter m p e seen xs → Within xs e.decided
  calls_after seen [] h x k = absurd k
  calls_after seen (y ∷ ys) h x (inl q) = subst (λ z. In z e.decided) (sym q) h.0
  calls_after seen (y ∷ ys) h x (inr k) = calls_after (y ∷ seen) ys h.3 x k
