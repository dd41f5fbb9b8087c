-- A closed list, cut into its calls that stand in another closed list too and the rest.
use Rattle.std.proofs.Common.{◌≡◌, ◌≢◌, ◌⊎◌, ◌++◌, ◌∙◌, List, [], ◌∷◌, refl, sym, subst, inl, inr}
use Rattle.std.proofs.lemmas.List.{append-nil}
use Rattle.ham_meaning.specs.Relations.{Meaning}
use Rattle.ham_plan.specs.Lists.{In, Within}
use Rattle.ham_laws.specs.Executions.{Constraints, Execution, IsClosed}
use Rattle.ham_laws.specs.Moves.{IsPart, Cut}
use Rattle.ham_laws.specs.Moves.IsPart.{Ended, Taken, Passed}
use Rattle.ham_plan.proofs.Lists.{in_parts, in_without, in_with, in_place, decide_in, onto, onto_in, in_turned, onto-append, onto-turned}
use Rattle.ham_laws.proofs.Backwards.{Closed, needed, insert}
use Rattle.ham_laws.proofs.Bridge.{closed_onto, closed_from}

-- ---- parts, the other way round
onto_both : {X : Type 0} (xs part seen more : List X) → IsPart part xs → IsPart more seen → IsPart (onto part more) (onto xs seen)
onto_both [] [] seen more Ended h = h
onto_both {X = X} [] (y ∷ part) seen more x4 h = elim x4 [ ]
onto_both (x ∷ xs) (y ∷ part) seen more (Taken t) h = onto_both xs part (x ∷ seen) (x ∷ more) t (Taken h)
onto_both (x ∷ xs) part seen more (Passed t) h = onto_both xs part (x ∷ seen) more t (Passed h)

onto_twice : {X : Type 0} (xs seen more : List X) → onto (onto xs seen) more ≡ onto seen (xs ++ more)
onto_twice [] seen more = refl
onto_twice (x ∷ xs) seen more = onto_twice xs (x ∷ seen) more

-- a part of a list that is turned round, turned back, is a part of the list
turned_part : {X : Type 0} (part xs : List X) → IsPart part (onto xs []) → IsPart (onto part []) xs
turned_part part xs h = subst (λ l. IsPart (onto part []) l) (onto_twice xs [] [] ∙ append-nil xs) (onto_both (onto xs []) part [] [] h Ended)

-- the calls of xs, newest first: the rest, and before it those that stand in ys too
pub record CutBack {C : Type 0} (m : Meaning) (p : Constraints) (e : Execution C m.Act) (xs ys : List C) : Type 0 where
  pub common : List C
  pub rest : List C
  pub common_both : (c : C) → In c common → In c xs × In c ys
  pub both_common : (c : C) → In c xs → In c ys → In c common
  pub rest_only : (c : C) → In c rest → In c xs × (In c ys → ⊥)
  pub common_order : IsPart common xs
  pub rest_order : IsPart rest xs
  pub from : Within (rest ++ common) xs
  pub to : Within xs (rest ++ common)
  pub closed : Closed m p e (rest ++ common)

module _ {C : Type 0} (m : Meaning) (p : Constraints) (e : Execution C m.Act) (same : (a b : C) → (a ≡ b) ⊎ (a ≢ b)) where
  -- the newest call x stands in ys
  cut_in : (x : C) (xs ys : List C) → Closed m p e (x ∷ xs) → Closed m p e ys → In x ys → CutBack m p e xs ys → CutBack m p e (x ∷ xs) ys
  cut_in x xs ys hx hy at w = record {
    common = x ∷ w.common;
    rest = w.rest;
    common_both = λ c. elim [ inl q ↦ (inl q, subst (λ z. In z ys) (sym q) at) | inr k ↦ (inr (w.common_both c k).0, (w.common_both c k).1) ];
    both_common = λ c. elim [ inl q ↦ λ j. inl q | inr k ↦ λ j. inr (w.both_common c k j) ];
    rest_only = λ c k. (inr (w.rest_only c k).0, (w.rest_only c k).1);
    common_order = Taken w.common_order;
    rest_order = Passed w.rest_order;
    from = λ c k. elim (same c x) [ inl q ↦ inl q | inr ne ↦ inr (w.from c (in_without c x w.rest w.common ne k)) ];
    to = λ c. elim [ inl q ↦ subst (λ z. In z (w.rest ++ x ∷ w.common)) (sym q) (in_place x w.rest w.common) | inr k ↦ in_with c x w.rest w.common (w.to c k) ];
    closed = insert m p e x w.rest w.common w.closed hx.0 (λ k. hx.1 (w.from x k))
        (λ n need. w.both_common n (hx.2 n need) (needed m p e x n ys hy at need));
  }

  -- the newest call x does not stand in ys
  cut_out : (x : C) (xs ys : List C) → Closed m p e (x ∷ xs) → (In x ys → ⊥) → CutBack m p e xs ys → CutBack m p e (x ∷ xs) ys
  cut_out x xs ys hx out w = record {
    common = w.common;
    rest = x ∷ w.rest;
    common_both = λ c k. (inr (w.common_both c k).0, (w.common_both c k).1);
    both_common = λ c. elim [ inl q ↦ λ j. absurd (out (subst (λ z. In z ys) q j)) | inr k ↦ λ j. w.both_common c k j ];
    rest_only = λ c. elim [ inl q ↦ (inl q, λ j. out (subst (λ z. In z ys) q j)) | inr k ↦ (inr (w.rest_only c k).0, (w.rest_only c k).1) ];
    common_order = Passed w.common_order;
    rest_order = Taken w.rest_order;
    from = λ c. elim [ inl q ↦ inl q | inr k ↦ inr (w.from c k) ];
    to = λ c. elim [ inl q ↦ inl q | inr k ↦ inr (w.to c k) ];
    closed = (hx.0, λ k. hx.1 (w.from x k), λ n need. w.to n (hx.2 n need), w.closed);
  }

  pub cut_back : (xs ys : List C) → Closed m p e xs → Closed m p e ys → CutBack m p e xs ys
  cut_back [] ys hx hy = record {
    common = [];
    rest = [];
    common_both = λ c k. absurd k;
    both_common = λ c k j. k;
    rest_only = λ c k. absurd k;
    common_order = Ended;
    rest_order = Ended;
    from = λ c k. k;
    to = λ c k. k;
    closed = hx;
  }
  cut_back (x ∷ xs) ys hx hy =
      let w = cut_back xs ys hx.3 hy in
      elim (decide_in same x ys) [ inl at ↦ cut_in x xs ys hx hy at w | inr out ↦ cut_out x xs ys hx out w ]

  -- the cut, oldest call first
  pub cut : (xs ys : List C) → IsClosed m p e xs → IsClosed m p e ys → Cut m p e xs ys
  cut xs ys hx hy =
      let w = cut_back (onto xs []) (onto ys []) (closed_onto m p e [] xs hx tt) (closed_onto m p e [] ys hy tt) in
      let left_over : (c : C) → In c xs → (In c ys → ⊥) → In c w.rest =
      λ c k out. elim (in_parts c w.rest w.common (w.to c (onto_in c xs [] k))) [
        | inl j ↦ j
        | inr j ↦ absurd (out (in_turned c ys (w.common_both c j).1))
      ] in
      record {
        common = onto w.common [];
        rest = onto w.rest [];
        common_exact = λ c. (
          λ k. let b = w.common_both c (in_turned c w.common k) in (in_turned c xs b.0, in_turned c ys b.1),
          λ b. onto_in c w.common [] (w.both_common c (onto_in c xs [] b.0) (onto_in c ys [] b.1)),
        );
        rest_exact = λ c. (
          λ k. let b = w.rest_only c (in_turned c w.rest k) in (in_turned c xs b.0, λ j. b.1 (onto_in c ys [] j)),
          λ b. onto_in c w.rest [] (left_over c b.0 b.1),
        );
        common_order = turned_part w.common xs w.common_order;
        rest_order = turned_part w.rest xs w.rest_order;
        closed = subst (λ l. IsClosed m p e l) (onto-append w.rest w.common [] ∙ onto-turned w.common (onto w.rest [])) (closed_from m p e (w.rest ++ w.common) [] w.closed tt);
      }
