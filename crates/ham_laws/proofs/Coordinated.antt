-- The induction on the order of decision, and the laws.
use Rattle.std.proofs.Common.{◌≡◌, ◌≢◌, ◌⊎◌, ◌∙◌, List, [], ◌∷◌, refl, sym, subst, inl, inr}
use Rattle.ham_meaning.specs.Relations.{Meaning, IsLawful}
use Rattle.ham_plan.specs.Lists.{In, Within, SameCalls}
use Rattle.ham_laws.specs.Executions.{Constraints, IsSound, Execution, IsWellCoordinated, IsClosed}
use Rattle.ham_laws.specs.Coordinated.{EndAlike, IsPermissibleThroughout, HoldsThroughout, IsCoordinated}
use Rattle.ham_plan.proofs.Lists.{onto, onto_in, in_turned}
use Rattle.ham_laws.proofs.Backwards.{Closed, Good, Ordered, holds}
use Rattle.ham_laws.proofs.Exchange.{same_state}
use Rattle.ham_laws.proofs.Newest.{grow}
use Rattle.ham_laws.proofs.Bridge.{ordered_onto, within_turned, GoodFrom, good_at, closed_onto, state-onto, good_onto, front_closed, calls_after}

module _ {C : Type 0} (m : Meaning) (p : Constraints) (e : Execution C m.Act) (lawful : IsLawful m) (sound : IsSound m p) (same : (a b : C) → (a ≡ b) ⊎ (a ≢ b)) (well : IsWellCoordinated m p e) where
  nothing_good : (xs : List C) → Within xs [] → Good m e xs
  nothing_good [] to = tt
  nothing_good (x ∷ xs) to = absurd (to x (inl refl))

  -- every closed list of the calls that were decided first, here ds with the newest first, has each permissible at its place
  all_good : (ds : List C) → Ordered e.before ds → Within ds e.decided → (xs : List C) → Closed m p e xs → Within xs ds → Good m e xs
  all_good [] order calls xs h to = nothing_good xs to
  all_good (c ∷ older) order calls xs h to =
      let d : In c e.decided = calls c (inl refl) in
      let calls' : Within older e.decided = λ x k. calls x (inr k) in
      grow m p e lawful sound same well c older (onto (e.before c) []) d order calls'
      (λ zs hz tz. all_good older order.2 calls' zs hz tz)
      (closed_onto m p e [] (e.before c) (well.before_closed c d) tt)
      (λ x k. in_turned x (e.before c) k)
      (λ x k. onto_in x (e.before c) [] k)
      (subst (λ s. m.Permissible s (e.act c)) (sym (state-onto m p e [] (e.before c))) (well.permissible_at c d))
      xs h to

  closed_good : (xs : List C) → IsClosed m p e xs → Good m e (onto xs [])
  closed_good xs h =
      all_good (onto e.decided []) (ordered_onto e.before [] e.decided well.in_order tt)
      (λ x k. in_turned x e.decided k)
      (onto xs []) (closed_onto m p e [] xs h tt)
      (within_turned xs e.decided (calls_after m p e [] xs h))

  -- closed lists of the same calls end in one state
  pub states_agree : (xs ys : List C) → IsClosed m p e xs → IsClosed m p e ys → SameCalls xs ys → EndAlike m e xs ys
  states_agree xs ys hx hy calls =
      sym (state-onto m p e [] xs)
      ∙ same_state m p e lawful sound well (onto xs []) (onto ys [])
      (closed_onto m p e [] xs hx tt) (closed_onto m p e [] ys hy tt)
      (within_turned xs ys calls.0) (within_turned ys xs calls.1)
      ∙ state-onto m p e [] ys

  -- each call of a closed list is permissible at its place
  pub permissible_throughout : (xs : List C) → IsClosed m p e xs → IsPermissibleThroughout m e xs
  permissible_throughout xs h earlier later c is =
      good_at m e m.opening earlier later c (subst (λ l. GoodFrom m e m.opening l) is (good_onto m p e [] xs (closed_good xs h)).0)

  -- the invariant holds after every prefix of a closed list
  pub invariant_throughout : (xs : List C) → IsClosed m p e xs → HoldsThroughout m e xs
  invariant_throughout xs h earlier later is =
      let front : IsClosed m p e earlier = front_closed m p e [] earlier later (subst (λ l. IsClosed m p e l) is h) in
      subst (λ s. m.Invariant s) (state-onto m p e [] earlier)
      (holds m p e lawful well (onto earlier [])
      (λ x k. calls_after m p e [] earlier front x (in_turned x earlier k))
      (closed_good earlier front))

  pub coordinated : IsCoordinated m p e
  coordinated = record { states_agree = states_agree; permissible = permissible_throughout; invariant = invariant_throughout }
