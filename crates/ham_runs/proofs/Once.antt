-- Each request is decided once, in the order of their numbers.
use Rattle.std.proofs.Common.{◌≡◌, ◌⊎◌, ◌++◌, ℕ, zero, suc, ◌+◌, Bool, true, false, cond, eqb, ◌&&◌, List, [], ◌∷◌, length, length-append, refl, sym, subst, ap, ◌∙◌, inl, inr, arith}
use Rattle.std.specs.Prelude.{Some, None}
use Rattle.std.specs.List.{range_with_len}
use Rattle.std.proofs.lemmas.List.{append-nil}
use Rattle.std.proofs.lemmas.Bool.{eqb-true, and_parts}
use Rattle.ham_syntax.specs.declared.act.Act.{Act}
use Rattle.ham_frame.specs.declared.frame.Ruling.{Ruling}
use Rattle.ham_frame.specs.declared.frame.Ruled.{Ruled}
use Rattle.ham_frame.specs.declared.frame.Frame.TheVariants as frames
use Rattle.ham_frame.specs.declared.frame.Frame.TheVariants.{Hello, Ack, Request, Verdict, Bye}
use Rattle.ham_turns.specs.Settings.{Rules, Setting}
use Rattle.ham_turns.specs.Words.{Intake, ActComes, FrameComes, PartComes, Beat}
use Rattle.ham_turns.specs.Work.{ruling_of, ruled_of, ruling_in}
use Rattle.ham_runs.specs.Runs.{Note, rulings_of, words_of, IsRun}
use Rattle.ham_runs.specs.Headline.{numbers_ruled, decided_numbers, IsDecidedOnce}
use Rattle.ham_plan.proofs.Lists.{true_or_false}
use Rattle.ham_runs.proofs.Listed.{some_inj}
use Rattle.ham_runs.proofs.Links.{RunKept}

range_push : (from n : ℕ) → range_with_len from (suc n) ≡ range_with_len from n ++ (from + n) ∷ []
range_push from zero = ap (λ z. z ∷ []) (let e : from ≡ from + 0 = omega arith in e)
range_push from (suc n) = ap (λ l. from ∷ l) (range_push (from + 1) n ∙ ap (λ z. range_with_len (from + 1) n ++ z ∷ []) (let e : from + 1 + n ≡ from + suc n = omega arith in e))

-- what a request that came adds to the numbers decided, and to the rulings
request_number : (next : Bool) (from g q k h i : ℕ) (a : Act) (v : Ruling) →
    ((numbers_ruled from g (FrameComes q k (Request h i a)) (cond next (Some v) None) ≡ []) × (ruling_in from g (FrameComes q k (Request h i a)) (cond next (Some v) None) ≡ [])) ⊎
    ((next ≡ true) × (((eqb q from) && (eqb h g)) ≡ true) ×
    (numbers_ruled from g (FrameComes q k (Request h i a)) (cond next (Some v) None) ≡ i ∷ []) ×
    (ruling_in from g (FrameComes q k (Request h i a)) (cond next (Some v) None) ≡ record { act = a; ruling = v } ∷ []))
request_number true from g q k h i a v = elim (true_or_false ((eqb q from) && (eqb h g))) [
  | inl t ↦ inr (refl, t, rw t refl, rw t refl)
  | inr f ↦ inl (rw f refl, rw f refl)
]
request_number false from g q k h i a v = elim (true_or_false ((eqb q from) && (eqb h g))) [
  | inl t ↦ inl (refl, rw t refl)
  | inr f ↦ inl (refl, rw f refl)
]

module _ (x : Rules) (y : Setting) (earlier : List Note) (r : ℕ) (from g : ℕ) where
  new_number : (took : Intake) →
      ((numbers_ruled from g took (ruled_of x (words_of x y earlier r) took) ≡ []) × (ruling_in from g took (ruled_of x (words_of x y earlier r) took) ≡ [])) ⊎
      ((numbers_ruled from g took (ruled_of x (words_of x y earlier r) took) ≡ (length (rulings_of earlier r from g) + 1) ∷ []) ×
      (d : Ruled) × (ruling_in from g took (ruled_of x (words_of x y earlier r) took) ≡ d ∷ []))
  new_number (FrameComes q k (Request h i a)) =
      elim (request_number (eqb i (length (rulings_of earlier r q h) + 1)) from g q k h i a (ruling_of x (words_of x y earlier r) h a)) [
        | inl none ↦ inl none
        | inr new ↦
            let w = and_parts (eqb q from) (eqb h g) new.1 in
            let next : i ≡ length (rulings_of earlier r from g) + 1 =
            eqb-true i (length (rulings_of earlier r q h) + 1) new.0 ∙ ap (λ z. length (rulings_of earlier r z h) + 1) (eqb-true q from w.0)
            ∙ ap (λ z. length (rulings_of earlier r from z) + 1) (eqb-true h g w.1) in
            inr (new.2 ∙ ap (λ z. z ∷ []) next, record { act = a; ruling = ruling_of x (words_of x y earlier r) h a }, new.3)
      ]
  new_number (ActComes a) = inl (refl, refl)
  new_number (FrameComes q k (frames.Call c)) = inl (refl, refl)
  new_number (FrameComes q k (Ack l i)) = inl (refl, refl)
  new_number (FrameComes q k (Verdict h i v)) = inl (refl, refl)
  new_number (FrameComes q k (Hello version digest sender of)) = inl (refl, refl)
  new_number (FrameComes q k Bye) = inl (refl, refl)
  new_number (PartComes q k f) = inl (refl, refl)
  new_number Beat = inl (refl, refl)

pub in_number_order : (x : Rules) (y : Setting) (notes : List Note) → IsRun x y notes → (r from g : ℕ) →
    decided_numbers notes r from g ≡ range_with_len 1 (length (rulings_of notes r from g))
in_number_order x y [] run r from g = refl
in_number_order x y (n ∷ earlier) run r from g = elim (true_or_false (eqb n.at r)) [
  | inl t ↦ rw t (here (eqb-true n.at r t) (in_number_order x y earlier run.1 r from g))
  | inr f ↦ rw f (in_number_order x y earlier run.1 r from g)
]
  where
    here : n.at ≡ r → decided_numbers earlier r from g ≡ range_with_len 1 (length (rulings_of earlier r from g)) →
        decided_numbers earlier r from g ++ numbers_ruled from g n.took n.ruled ≡ range_with_len 1 (length (rulings_of earlier r from g ++ ruling_in from g n.took n.ruled))
    here at ih =
        let re : n.ruled ≡ ruled_of x (words_of x y earlier r) n.took = subst (λ z. n.ruled ≡ ruled_of x (words_of x y earlier z) n.took) at run.0.ruled in
        rw (re, ih) (elim (new_number x y earlier r from g n.took) [
          | inl w ↦ rw (w.0, w.1, append-nil (rulings_of earlier r from g), append-nil (range_with_len 1 (length (rulings_of earlier r from g)))) refl
          | inr w ↦
              let e : length (rulings_of earlier r from g ++ w.1 ∷ []) ≡ suc (length (rulings_of earlier r from g)) = rw (length-append (rulings_of earlier r from g) (w.1 ∷ [])) (omega arith) in
              let e' : 1 + length (rulings_of earlier r from g) ≡ length (rulings_of earlier r from g) + 1 = omega arith in
              rw (w.0, w.2, e, range_push 1 (length (rulings_of earlier r from g)), e') refl
        ])

pub decided_once : (x : Rules) (y : Setting) (notes : List Note) → IsRun x y notes → RunKept x y notes → IsDecidedOnce notes
decided_once x y notes run kept = record {
  in_order = λ r from g. in_number_order x y notes run r from g;
  as_kept = λ from to g n v kv. let sv = kept.links from to (Verdict g n v) kv in (sv.1, sv.2, sv.3);
  one_verdict = λ from to g n v u kv ku.
      let sv = kept.links from to (Verdict g n v) kv in
      let su = kept.links from to (Verdict g n u) ku in
      sym sv.3 ∙ ap (λ (z : Ruled). z.ruling) (some_inj sv.1 su.1 (sym sv.2 ∙ su.2)) ∙ su.3;
}
