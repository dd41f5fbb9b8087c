-- Needs by greatest numbers: exact wherever a log holds of a lane just the calls up to some number, whatever the other logs hold.
use Rattle.std.proofs.Common.{◌≡◌, ℕ, ◌≤◌, max, Bool, true, false, List, [], ◌∷◌, refl, sym, subst, ap, ◌∙◌, inl, inr, arith}
use Rattle.std.specs.Prelude.{nat_le, if◌then◌else◌}
use Rattle.std.proofs.lemmas.Bool.{true≢false, leb-true, le-leb}
use Rattle.ham_syntax.specs.declared.act.Place.{Place}
use Rattle.ham_plan.specs.Lists.{In}
use Rattle.ham_plan.proofs.Lists.{true_or_false}
use Rattle.ham_audit.specs.Records.{stands}

-- the greatest number of the calls that pass the test; 0 where none does
abbrev pub greatest : (Place → Bool) → List Place → ℕ
greatest test [] = 0
greatest test (c ∷ rest) = if test c then max c.number (greatest test rest) else greatest test rest

-- of the calls that pass the test, those up to k stand among those seen
abbrev pub HasFirst : (Place → Bool) → List Place → List Place → ℕ → Type 0
HasFirst test front seen k = (n : Place) → In n front → test n ≡ true → stands n seen ≡ nat_le n.number k

pub seen_from : (test : Place → Bool) (front seen : List Place) (k : ℕ) → HasFirst test front seen k → greatest test front ≤ k →
    (n : Place) → In n front → test n ≡ true → stands n seen ≡ true
seen_from test [] seen k has h n j t = absurd j
seen_from test (c ∷ rest) seen k has h n j t = elim (true_or_false (test c)) [
  | inl p ↦
      let m : max c.number (greatest test rest) ≤ k = rw p at h in
      elim j [
        | inl q ↦ has n (inl q) t ∙ le-leb n.number k (subst (λ (z : Place). z.number ≤ k) (sym q) (omega arith))
        | inr i ↦ seen_from test rest seen k (λ z v. has z (inr v)) (omega arith) n i t
      ]
  | inr p ↦
      let m : greatest test rest ≤ k = rw p at h in
      elim j [
        | inl q ↦ absurd (true≢false (sym t ∙ subst (λ z. test z ≡ false) (sym q) p))
        | inr i ↦ seen_from test rest seen k (λ z v. has z (inr v)) m n i t
      ]
]

pub greatest_from : (test : Place → Bool) (front seen : List Place) (k : ℕ) → HasFirst test front seen k →
    ((n : Place) → In n front → test n ≡ true → stands n seen ≡ true) → greatest test front ≤ k
greatest_from test [] seen k has all = omega arith
greatest_from test (c ∷ rest) seen k has all = elim (true_or_false (test c)) [
  | inl p ↦
      let g : greatest test rest ≤ k = greatest_from test rest seen k (λ z v. has z (inr v)) (λ z v. all z (inr v)) in
      let b : c.number ≤ k = leb-true c.number k (sym (has c (inl refl) p) ∙ all c (inl refl) p) in
      rw p (let m : max c.number (greatest test rest) ≤ k = omega arith in m)
  | inr p ↦ rw p (greatest_from test rest seen k (λ z v. has z (inr v)) (λ z v. all z (inr v)))
]
