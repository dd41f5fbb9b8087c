-- Two closed lists of the same calls are exchanged into each other: neighbours that do not conflict commute.
use Rattle.std.proofs.Common.{◌≡◌, ◌++◌, false, List, [], ◌∷◌, refl, sym, ap, subst, ◌∙◌, inl, inr}
use Rattle.ham_meaning.specs.Relations.{Meaning, IsLawful}
use Rattle.ham_plan.specs.Lists.{In, Within}
use Rattle.ham_laws.specs.Executions.{Constraints, IsSound, Execution, IsWellCoordinated, method_of}
use Rattle.ham_plan.proofs.Lists.{occurrence_of, in_front, in_parts, in_without, in_with, true_or_false}
use Rattle.ham_laws.proofs.Backwards.{state, Closed, calls_of, needed, tail_closed, not_both, without, valid}

module _ {C : Type 0} (m : Meaning) (p : Constraints) (e : Execution C m.Act) (lawful : IsLawful m) (sound : IsSound m p) (well : IsWellCoordinated m p e) where
  -- c goes past the calls after it, none of which conflicts with it
  pub past : (c : C) (xs ys : List C) → Within (xs ++ ys) e.decided → In c e.decided →
      ((x : C) → In x xs → p.conflict (method_of m e x) (method_of m e c) ≡ false) →
      state m e (xs ++ c ∷ ys) ≡ m.update (e.act c) (state m e (xs ++ ys))
  past c [] ys calls d apart = refl
  past c (x ∷ xs) ys calls d apart =
      ap (m.update (e.act x)) (past c xs ys (λ y k. calls y (inr k)) d (λ y k. apart y (inr k)))
      ∙ sound.commute (method_of m e x) (method_of m e c) (apart x (inl refl)) (e.act x) (e.act c) (state m e (xs ++ ys))
      (well.fits x (calls x (inl refl)), refl) (well.fits c d, refl) (valid m p e lawful well (xs ++ ys) (λ y k. calls y (inr k)))

  -- calls that two closed lists have in different orders do not conflict
  apart_if_swapped : (x v : C) (xs vs us : List C) → Closed m p e (x ∷ xs) → Closed m p e (vs ++ x ∷ us) → In v xs → In v vs →
      p.conflict (method_of m e v) (method_of m e x) ≡ false
  apart_if_swapped x v xs vs us hx hy in_xs in_vs =
      elim (true_or_false (p.conflict (method_of m e v) (method_of m e x))) [
        | inr f ↦ f
        | inl t ↦ absurd (elim (well.conflicts_ordered v x (calls_of m p e xs hx.3 v in_xs) hx.0 (λ q. hx.1 (subst (λ z. In z xs) q in_xs)) t) [
          | inl v_first ↦ not_both m p e v vs (x ∷ us) hy in_vs (inr ((tail_closed m p e vs (x ∷ us) hy).2 v (v_first, inr (inl t))))
          | inr x_first ↦ hx.1 (needed m p e v x xs hx.3 in_xs (x_first, inr (inl (sound.symmetric _ _ ∙ t))))
        ])
      ]

  -- the newest call of one list goes to the end of the other
  swap_at : (x : C) (xs vs us : List C) → Closed m p e (x ∷ xs) → Closed m p e (vs ++ x ∷ us) → Within (x ∷ xs) (vs ++ x ∷ us) → Within (vs ++ x ∷ us) (x ∷ xs) →
      ((zs : List C) → Closed m p e zs → Within xs zs → Within zs xs → state m e xs ≡ state m e zs) →
      state m e (x ∷ xs) ≡ state m e (vs ++ x ∷ us)
  swap_at x xs vs us hx hy f g ih =
      let in_xs : (v : C) → In v vs → In v xs =
      λ v k. elim (g v (in_front v vs (x ∷ us) k)) [ inl q ↦ absurd (not_both m p e v vs (x ∷ us) hy k (inl q)) | inr j ↦ j ] in
      let hz : Closed m p e (vs ++ us) = without m p e x vs us hy (λ v k need. hx.1 (needed m p e v x xs hx.3 (in_xs v k) need)) in
      let f' : Within xs (vs ++ us) = λ n k. in_without n x vs us (λ q. hx.1 (subst (λ z. In z xs) q k)) (f n (inr k)) in
      let x_out : In x (vs ++ us) → ⊥ =
      λ k. elim (in_parts x vs us k) [ inl j ↦ not_both m p e x vs (x ∷ us) hy j (inl refl) | inr j ↦ (tail_closed m p e vs (x ∷ us) hy).1 j ] in
      let g' : Within (vs ++ us) xs =
      λ n k. elim (g n (in_with n x vs us k)) [ inl q ↦ absurd (x_out (subst (λ z. In z (vs ++ us)) q k)) | inr j ↦ j ] in
      ap (m.update (e.act x)) (ih (vs ++ us) hz f' g')
      ∙ sym (past x vs us (calls_of m p e (vs ++ us) hz) hx.0 (λ v k. apart_if_swapped x v xs vs us hx hy (in_xs v k) k))

  swap : (x : C) (xs ys : List C) → Closed m p e (x ∷ xs) → Closed m p e ys → Within (x ∷ xs) ys → Within ys (x ∷ xs) →
      ((zs : List C) → Closed m p e zs → Within xs zs → Within zs xs → state m e xs ≡ state m e zs) →
      state m e (x ∷ xs) ≡ state m e ys
  swap x xs ys hx hy f g ih =
      let w = occurrence_of x ys (f x (inl refl)) in
      subst (λ l. Closed m p e l → Within (x ∷ xs) l → Within l (x ∷ xs) → state m e (x ∷ xs) ≡ state m e l) (sym w.is)
      (λ hl fl gl. swap_at x xs w.front w.back hx hl fl gl ih) hy f g

  -- two closed lists of the same calls end in one state
  pub same_state : (xs ys : List C) → Closed m p e xs → Closed m p e ys → Within xs ys → Within ys xs → state m e xs ≡ state m e ys
  same_state [] [] hx hy f g = refl
  same_state [] (y ∷ ys) hx hy f g = absurd (g y (inl refl))
  same_state (x ∷ xs) ys hx hy f g = swap x xs ys hx hy f g (λ zs hz f' g'. same_state xs zs hx.3 hz f' g')
