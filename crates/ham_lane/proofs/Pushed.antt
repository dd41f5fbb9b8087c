-- A lane with one more call, and the number of a call in it.
use Rattle.std.proofs.Common.{◌≡◌, ℕ, zero, suc, ◌+◌, ◌<◌, List, [], ◌∷◌, ◌++◌, length, Option, sym, ap, ◌∙◌, subst, arith}
use Rattle.std.proofs.lemmas.List.{length_push}
use Rattle.std.specs.Prelude.{slice_get, IfSome}
use Rattle.ham_syntax.specs.declared.act.Call.{Call}
use Rattle.ham_syntax.specs.declared.limits.TheConstants.{MAX_LANE_CALLS}
use Rattle.ham_lane.specs.Lanes.{numbered, AreNumberedFrom, IsNumbered, IsOutLane}

numbered_more : (n : ℕ) (calls : List Call) (c : Call) → AreNumberedFrom n calls → c.number ≡ length calls + n → AreNumberedFrom n (calls ++ c ∷ [])
numbered_more n [] c h e = (omega arith, tt)
numbered_more n (d ∷ calls) c h e = (h.0, numbered_more (n + 1) calls c h.1 (omega arith))

pub in_more : (calls more : List Call) (c : Call) → IsNumbered calls → length calls < MAX_LANE_CALLS → c.number ≡ length calls + 1 → more ≡ calls ++ c ∷ [] → IsNumbered more
in_more calls more c lane few number e =
    subst IsNumbered (sym e) (record { few = let long = length_push calls c in omega arith; numbers = numbered_more 1 calls c lane.numbers number })

pub out_more : (calls more : List Call) (c : Call) (acked : List ℕ) → IsOutLane calls acked → length calls < MAX_LANE_CALLS → c.number ≡ length calls + 1 → more ≡ calls ++ c ∷ [] → IsOutLane more acked
out_more calls more c acked lane few number e = record {
  lane = in_more calls more c lane.lane few number e;
  within = λ k. let long = ap length e ∙ length_push calls c in let before = lane.within k in omega arith;
}

number_from : (n k : ℕ) (calls : List Call) → AreNumberedFrom n calls → IfSome (slice_get calls k) (λ c. c.number ≡ n + k)
number_from n k [] h = tt
number_from n zero (c ∷ calls) h = let first = h.0 in omega arith
number_from n (suc k) (c ∷ calls) h =
    let e : n + 1 + k ≡ n + suc k = omega arith in
    subst (λ (m : ℕ). IfSome (slice_get calls k) (λ c. c.number ≡ m)) e (number_from (n + 1) k calls h.1)

number_at : (calls : List Call) (number : ℕ) → AreNumberedFrom 1 calls → IfSome (numbered calls number) (λ c. c.number ≡ number)
number_at calls zero h = tt
number_at calls (suc k) h =
    let e : 1 + k ≡ suc k = omega arith in
    subst (λ (m : ℕ). IfSome (slice_get calls k) (λ c. c.number ≡ m)) e (number_from 1 k calls h)

-- the call that was looked up has the number that was asked for
pub number_found : (calls list : List Call) (number : ℕ) (found : Option Call) → AreNumberedFrom 1 calls → list ≡ calls → found ≡ numbered list number → IfSome found (λ c. c.number ≡ number)
number_found calls list number found h same e =
    subst (λ (o : Option Call). IfSome o (λ c. c.number ≡ number)) (sym (e ∙ ap (λ (l : List Call). numbered l number) same)) (number_at calls number h)
