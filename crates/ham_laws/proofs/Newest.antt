-- The step of the induction on the order of decision: one newest call more.
use Rattle.std.proofs.Common.{◌≡◌, ◌≢◌, ◌⊎◌, ◌++◌, false, List, [], ◌∷◌, refl, sym, subst, ◌∙◌, inl, inr}
use Rattle.ham_meaning.specs.Relations.{Meaning, IsLawful}
use Rattle.ham_plan.specs.Lists.{In, Within}
use Rattle.ham_laws.specs.Executions.{Constraints, IsSound, Execution, IsWellCoordinated, method_of}
use Rattle.ham_plan.proofs.Lists.{occurrence_of, in_front, in_back, in_parts, in_with, decide_in, true_or_false}
use Rattle.ham_laws.proofs.Backwards.{state, Closed, Good, Ordered, ordered_before, calls_of, tail_closed, not_both, without, valid, holds}
use Rattle.ham_laws.proofs.Exchange.{past, same_state}
use Rattle.ham_laws.proofs.Cutting.{cut_back}
use Rattle.ham_laws.proofs.Moving.{left_past, right_past}

module _ {C : Type 0} (m : Meaning) (p : Constraints) (e : Execution C m.Act) (lawful : IsLawful m) (sound : IsSound m p) (same : (a b : C) → (a ≡ b) ⊎ (a ≢ b)) (well : IsWellCoordinated m p e) where
  -- permissible after a closed list is permissible after any other of the same calls
  reordered : (c : C) (xs ys : List C) → Closed m p e xs → Closed m p e ys → Within xs ys → Within ys xs →
      m.Permissible (state m e xs) (e.act c) → m.Permissible (state m e ys) (e.act c)
  reordered c xs ys hx hy f g h = subst (λ s. m.Permissible s (e.act c)) (same_state m p e lawful sound well xs ys hx hy f g) h

  -- the newest call c is permissible after the closed list B before it; A is what its replica had logged
  newest_permissible : (c : C) (older A B : List C) → In c e.decided → Ordered e.before (c ∷ older) → Within older e.decided →
      ((xs : List C) → Closed m p e xs → Within xs older → Good m e xs) →
      Closed m p e A → Within A (e.before c) → Within (e.before c) A → m.Permissible (state m e A) (e.act c) →
      Closed m p e (c ∷ B) → Within B older → m.Permissible (state m e B) (e.act c)
  newest_permissible c older A B d order calls ih hA A_to to_A h hB B_to =
      let u = cut_back m p e same A B hA hB.3 in
      let v = cut_back m p e same B A hB.3 hA in
      let uc : Closed m p e u.common = tail_closed m p e u.rest u.common u.closed in
      let vc : Closed m p e v.common = tail_closed m p e v.rest v.common v.closed in
      let good_u : Good m e (u.rest ++ u.common) = ih (u.rest ++ u.common) u.closed (λ n k. order.1 n (A_to n (u.from n k))) in
      let good_v : Good m e (v.rest ++ v.common) = ih (v.rest ++ v.common) v.closed (λ n k. B_to n (v.from n k)) in
      let free : (r : C) → In r u.rest → p.depends (method_of m e c) (method_of m e r) ≡ false =
      λ r k. elim (true_or_false (p.depends (method_of m e c) (method_of m e r))) [
        | inr f ↦ f
        | inl t ↦ absurd ((u.rest_only r k).1 (hB.2 r (A_to r (u.rest_only r k).0, inr (inr t))))
      ] in
      let apart : (r : C) → In r v.rest → p.conflict (method_of m e c) (method_of m e r) ≡ false =
      λ r k. elim (true_or_false (p.conflict (method_of m e c) (method_of m e r))) [
        | inr f ↦ f
        | inl t ↦ absurd (elim (well.conflicts_ordered c r d (calls r (B_to r (v.rest_only r k).0)) (λ q. hB.1 (subst (λ z. In z B) (sym q) (v.rest_only r k).0)) t) [
          | inl c_first ↦ order.0 (ordered_before e.before older order.2 r c (B_to r (v.rest_only r k).0) c_first)
          | inr r_first ↦ (v.rest_only r k).1 (to_A r r_first)
        ])
      ] in
      let after_cut : m.Permissible (state m e (u.rest ++ u.common)) (e.act c) = reordered c A (u.rest ++ u.common) hA u.closed u.to u.from h in
      let after_common : m.Permissible (state m e u.common) (e.act c) =
      left_past m p e lawful sound well c u.rest u.common d (calls_of m p e (u.rest ++ u.common) u.closed) good_u free after_cut in
      let after_common' : m.Permissible (state m e v.common) (e.act c) =
      reordered c u.common v.common uc vc
      (λ n k. v.both_common n (u.common_both n k).1 (u.common_both n k).0)
      (λ n k. u.both_common n (v.common_both n k).1 (v.common_both n k).0) after_common in
      let after_all : m.Permissible (state m e (v.rest ++ v.common)) (e.act c) =
      right_past m p e lawful sound well c v.rest v.common d (calls_of m p e (v.rest ++ v.common) v.closed) good_v apart after_common' in
      reordered c (v.rest ++ v.common) B v.closed hB.3 v.from v.to after_all

  -- the calls ys after the newest call c
  above : (c : C) (older ys B : List C) → In c e.decided → Ordered e.before (c ∷ older) → Within older e.decided →
      Closed m p e (ys ++ c ∷ B) → Within (ys ++ B) older → Good m e (ys ++ B) → m.Permissible (state m e B) (e.act c) →
      Good m e (ys ++ c ∷ B)
  above c older [] B d order calls h to good pc = (pc, good)
  above c older (y ∷ ys) B d order calls h to good pc =
      let fits_c : m.Fits (e.act c) = well.fits c d in
      let fits_y : m.Fits (e.act y) = well.fits y (calls y (to y (inl refl))) in
      let calls' : Within (ys ++ B) e.decided = λ z k. calls z (to z (inr k)) in
      let ok : m.IsWellFormed (state m e (ys ++ B)) = valid m p e lawful well (ys ++ B) calls' in
      let inv : m.Invariant (state m e (ys ++ B)) = holds m p e lawful well (ys ++ B) calls' good.1 in
      let apart : (z : C) → In z (y ∷ ys) → p.conflict (method_of m e z) (method_of m e c) ≡ false =
      λ z k. elim (true_or_false (p.conflict (method_of m e z) (method_of m e c))) [
        | inr f ↦ f
        | inl t ↦ absurd (elim (well.conflicts_ordered z c (calls z (to z (in_front z (y ∷ ys) B k))) d (λ q. not_both m p e z (y ∷ ys) (c ∷ B) h k (inl q)) t) [
          | inl z_first ↦ not_both m p e z (y ∷ ys) (c ∷ B) h k (inr ((tail_closed m p e (y ∷ ys) (c ∷ B) h).2 z (z_first, inr (inl t))))
          | inr c_first ↦ order.0 (ordered_before e.before older order.2 z c (to z (in_front z (y ∷ ys) B k)) c_first)
        ])
      ] in
      let pc' : m.Permissible (state m e (ys ++ B)) (e.act c) =
      right_past m p e lawful sound well c ys B d calls' good.1 (λ z k. sound.symmetric _ _ ∙ apart z (inr k)) pc in
      let py : m.Permissible (m.update (e.act c) (state m e (ys ++ B))) (e.act y) =
      elim (sound.right (method_of m e y) (method_of m e c) (apart y (inl refl))) [
        | inl enough ↦ enough (e.act y) _ (fits_y, refl) (lawful.update_well_formed (e.act c) _ fits_c ok) (lawful.permissible_keeps (e.act c) _ fits_c ok pc')
        | inr right ↦ right (e.act y) (e.act c) _ (fits_y, refl) (fits_c, refl) ok inv good.0 pc'
      ] in (
        subst (λ s. m.Permissible s (e.act y)) (sym (past m p e lawful sound well c ys B calls' d (λ z k. apart z (inr k)))) py,
        above c older ys B d order calls h.3 (λ z k. to z (inr k)) good.1 pc,
      )

  -- where the newest call c stands in the list
  grow_at : (c : C) (older A ys B : List C) → In c e.decided → Ordered e.before (c ∷ older) → Within older e.decided →
      ((xs : List C) → Closed m p e xs → Within xs older → Good m e xs) →
      Closed m p e A → Within A (e.before c) → Within (e.before c) A → m.Permissible (state m e A) (e.act c) →
      Closed m p e (ys ++ c ∷ B) → Within (ys ++ c ∷ B) (c ∷ older) → Good m e (ys ++ c ∷ B)
  grow_at c older A ys B d order calls ih hA A_to to_A pA h to =
      let hB : Closed m p e (c ∷ B) = tail_closed m p e ys (c ∷ B) h in
      let c_out : In c (ys ++ B) → ⊥ =
      λ k. elim (in_parts c ys B k) [ inl j ↦ not_both m p e c ys (c ∷ B) h j (inl refl) | inr j ↦ hB.1 j ] in
      let to' : Within (ys ++ B) older =
      λ n k. elim (to n (in_with n c ys B k)) [ inl q ↦ absurd (c_out (subst (λ z. In z (ys ++ B)) q k)) | inr j ↦ j ] in
      let h' : Closed m p e (ys ++ B) =
      without m p e c ys B h (λ x k need. order.0 (ordered_before e.before older order.2 x c (to' x (in_front x ys B k)) need.0)) in
      above c older ys B d order calls h to' (ih (ys ++ B) h' to')
      (newest_permissible c older A B d order calls ih hA A_to to_A pA hB (λ n k. to' n (in_back n ys B k)))

  -- if every closed list of older calls is good, so is every closed list of these and c
  pub grow : (c : C) (older A : List C) → In c e.decided → Ordered e.before (c ∷ older) → Within older e.decided →
      ((xs : List C) → Closed m p e xs → Within xs older → Good m e xs) →
      Closed m p e A → Within A (e.before c) → Within (e.before c) A → m.Permissible (state m e A) (e.act c) →
      (xs : List C) → Closed m p e xs → Within xs (c ∷ older) → Good m e xs
  grow c older A d order calls ih hA A_to to_A pA xs h to = elim (decide_in same c xs) [
    | inl at ↦
        let w = occurrence_of c xs at in
        subst (λ l. Closed m p e l → Within l (c ∷ older) → Good m e l) (sym w.is)
        (λ hl tl. grow_at c older A w.front w.back d order calls ih hA A_to to_A pA hl tl) h to
    | inr out ↦
        ih xs h (λ n k. elim (to n k) [ inl q ↦ absurd (out (subst (λ z. In z xs) q k)) | inr j ↦ j ])
  ]
