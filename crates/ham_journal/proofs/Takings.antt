-- What a turn takes in, where it isn't refused: calls of other replicas' lanes, and a decision in a lane of its own.
use Rattle.std.proofs.Common.{◌≡◌, ◌≢◌, ℕ, zero, suc, ◌+◌, ◌⊎◌, Bool, true, false, List, [], ◌∷◌, ◌++◌, length, map, if◌then◌else◌, Option, Some, None, refl, sym, ap, subst, ◌∙◌, inl, inr, arith}
use Rattle.std.specs.Prelude.{◌==◌, ◌&&◌, nat_lt, slice_get}
use Rattle.std.proofs.lemmas.Bool.{eqb-true, and_parts}
use Rattle.std.proofs.lemmas.Option.{none-some, same_Some}
use Rattle.ham_syntax.specs.declared.act.Place.{Place}
use Rattle.ham_syntax.specs.declared.act.Call.{Call}
use Rattle.ham_syntax.specs.declared.act.Act.{Act}
use Rattle.ham_frame.specs.declared.frame.Frame.{Frame}
use Rattle.ham_frame.specs.declared.frame.Frame.TheVariants as frames
use Rattle.ham_meaning.specs.declared.outcome.Outcome.{Outcome}
use Rattle.ham_meaning.specs.declared.outcome.Outcome.TheVariants as outcomes
use Rattle.ham_frame.specs.declared.frame.Ruling.{Ruling}
use Rattle.ham_frame.specs.declared.frame.Ruling.TheVariants as rulings
use Rattle.ham_turns.specs.declared.turn.Issued.TheVariants as issueds
use Rattle.ham_turns.specs.declared.turn.DeliverRefusal.{DeliverRefusal}
use Rattle.ham_turns.specs.Settings.{Rules, Setting}
use Rattle.ham_turns.specs.Refusals.{deliver_refusal}
use Rattle.ham_turns.specs.Words.{ReplicaWords, Intake, ActComes, FrameComes, place_of, same_place, numbered}
use Rattle.ham_turns.specs.Work.{made_of, made_issued, made_ruled, issued_by, new_call, lane_here, call_in, at_place, decided_after}
use Rattle.ham_journal.proofs.Drained.{same_true}
use Rattle.ham_journal.proofs.Parts.{some_if}

pub get_still : {X : Type 0} (xs : List X) (x : X) (n : ℕ) (d : X) → slice_get xs n ≡ Some d → slice_get (xs ++ x ∷ []) n ≡ Some d
get_still [] x zero d h = absurd (none-some d h)
get_still [] x (suc n) d h = absurd (none-some d h)
get_still (z ∷ zs) x zero d h = h
get_still (z ∷ zs) x (suc n) d h = get_still zs x n d h

pub numbered_still : {X : Type 0} (xs : List X) (x : X) (n : ℕ) (d : X) → numbered xs n ≡ Some d → numbered (xs ++ x ∷ []) n ≡ Some d
numbered_still xs x zero d h = absurd (none-some d h)
numbered_still xs x (suc n) d h = get_still xs x n d h

pub get_last : {X : Type 0} (xs : List X) (x : X) (n : ℕ) → n ≡ length xs → slice_get (xs ++ x ∷ []) n ≡ Some x
get_last [] x zero e = refl
get_last [] x (suc n) e = absurd (omega arith)
get_last (z ∷ zs) x zero e = absurd (omega arith)
get_last (z ∷ zs) x (suc n) e = get_last zs x n (omega arith)

pub numbered_last : {X : Type 0} (xs : List X) (x : X) (n : ℕ) → n ≡ length xs + 1 → numbered (xs ++ x ∷ []) n ≡ Some x
numbered_last xs x zero e = absurd (omega arith)
numbered_last xs x (suc n) e = get_last xs x n (omega arith)

get_either : {X : Type 0} (xs : List X) (x : X) (n : ℕ) (d : X) → slice_get (xs ++ x ∷ []) n ≡ Some d → (slice_get xs n ≡ Some d) ⊎ ((n ≡ length xs) × (x ≡ d))
get_either [] x zero d h = inr (refl, same_Some x d h)
get_either [] x (suc n) d h = absurd (none-some d h)
get_either (z ∷ zs) x zero d h = inl h
get_either (z ∷ zs) x (suc n) d h = elim (get_either zs x n d h) [ inl old ↦ inl old | inr new ↦ inr (ap suc new.0, new.1) ]

pub numbered_either : {X : Type 0} (xs : List X) (x : X) (n : ℕ) (d : X) → numbered (xs ++ x ∷ []) n ≡ Some d → (numbered xs n ≡ Some d) ⊎ ((n ≡ length xs + 1) × (x ≡ d))
numbered_either xs x zero d h = absurd (none-some d h)
numbered_either xs x (suc n) d h = elim (get_either xs x n d h) [ inl old ↦ inl old | inr new ↦ inr (omega (arith, new.0), new.1) ]

-- what an allowed turn takes in: calls of other replicas' lanes, and a decision in a lane of its own
pub record Takes (x : Rules) (y : Setting) (me : ℕ) (w : ReplicaWords) (took : Intake) : Type 0 where
  pub brought : (p : Place) (c : Call) → at_place (call_in took) p ≡ Some c → y.decider p.lane ≢ me
  pub lane : (c : Call) → made_of x y w me took ≡ Some c → y.decider c.lane ≡ me
  pub number : (c : Call) → made_of x y w me took ≡ Some c → c.number ≡ length (w.decided c.lane) + 1
  pub deps : (c : Call) → made_of x y w me took ≡ Some c → c.deps ≡ map w.count_of (y.needs c.act.method)

pub decided_still : (lane n : ℕ) (calls : List Call) (made : Option Call) (c : Call) → numbered calls n ≡ Some c → numbered (decided_after lane calls made) n ≡ Some c
decided_still lane n calls None c h = h
decided_still lane n calls (Some d) c h = by_test (d.lane == lane)
  where
    by_test : (b : Bool) → numbered (if b then calls ++ d ∷ [] else calls) n ≡ Some c
    by_test true = numbered_still calls d n c h
    by_test false = h

-- ---- allowed turns

made_here : (y : Setting) (w : ReplicaWords) (me lane : ℕ) (c d : Call) (place : Place) (u : Outcome) (g n : ℕ) (b : Bool) → (b ≡ true → y.decider lane ≡ me)
    → made_issued c (if b then issued_by place u else issueds.Forwarded g n) ≡ Some d → (y.decider lane ≡ me) × (c ≡ d)
made_here y w me lane c d place u g n false f e = absurd (none-some d e)
made_here y w me lane c d place outcomes.Yes g n true f e = (f refl, same_Some c d e)
made_here y w me lane c d place (outcomes.Guard i) g n true f e = absurd (none-some d e)
made_here y w me lane c d place (outcomes.Invariant i) g n true f e = absurd (none-some d e)

pub issue_takes : (x : Rules) (y : Setting) (me : ℕ) (w : ReplicaWords) (a : Act) → Takes x y me w (ActComes a)
issue_takes x y me w a = record {
  brought = λ p c h. absurd (none-some c h);
  lane = λ c h. subst (λ (z : Call). y.decider z.lane ≡ me) (parts c h).1 (parts c h).0;
  number = λ c h. subst (λ (z : Call). z.number ≡ length (w.decided z.lane) + 1) (parts c h).1 refl;
  deps = λ c h. subst (λ (z : Call). z.deps ≡ map w.count_of (y.needs z.act.method)) (parts c h).1 refl;
}
  where
    parts : (c : Call) → made_of x y w me (ActComes a) ≡ Some c → (y.decider (lane_here y me a) ≡ me) × (new_call y w (lane_here y me a) a ≡ c)
    parts c h = made_here y w me (lane_here y me a) (new_call y w (lane_here y me a) a) c (place_of (new_call y w (lane_here y me a) a)) (x.outcome w.state a)
        (lane_here y me a) (length (w.requests (lane_here y me a)) + 1) (y.decider (lane_here y me a) == me) (eqb-true (y.decider (lane_here y me a)) me) h

pub quiet_takes : (x : Rules) (y : Setting) (me : ℕ) (w : ReplicaWords) (took : Intake) → call_in took ≡ [] → made_of x y w me took ≡ None → Takes x y me w took
quiet_takes x y me w took q m = record {
  brought = λ p c h. absurd (none-some c (sym (ap (λ (l : List Call). at_place l p) q) ∙ h));
  lane = λ c h. absurd (none-some c (sym m ∙ h));
  number = λ c h. absurd (none-some c (sym m ∙ h));
  deps = λ c h. absurd (none-some c (sym m ∙ h));
}

first_true : (b : Bool) (why : DeliverRefusal) (rest : Option DeliverRefusal) → (if b then rest else Some why) ≡ None → b ≡ true
first_true true why rest e = refl
first_true false why rest e = absurd (none-some why (sym e))

made_ruling : (c d : Call) (v : Option Ruling) → made_ruled c v ≡ Some d → c ≡ d
made_ruling c d (Some (rulings.Applied n)) e = same_Some c d e
made_ruling c d (Some (rulings.Guard g)) e = absurd (none-some d e)
made_ruling c d (Some (rulings.Invariant g)) e = absurd (none-some d e)
made_ruling c d (Some rulings.Full) e = absurd (none-some d e)
made_ruling c d None e = absurd (none-some d e)

pub deliver_takes : (x : Rules) (y : Setting) (me : ℕ) (w : ReplicaWords) (from : ℕ) (f : Frame) → from ≢ me → deliver_refusal x y w me from f ≡ None → Takes x y me w (FrameComes from 0 f)
deliver_takes x y me w from (frames.Call c) n e =
    let test = first_true (nat_lt c.lane y.lanes && (y.decider c.lane == from)) _ _ e in
    let of : y.decider c.lane ≡ from = eqb-true (y.decider c.lane) from (and_parts (nat_lt c.lane y.lanes) (y.decider c.lane == from) test).1 in
    record {
      brought = λ p d h. (
          let at = some_if (same_place (place_of c) p) (Some c) d h in
          let lane : c.lane ≡ p.lane = ap (λ (q : Place). q.lane) (same_true (place_of c) p at.0) in
          λ q. n (sym of ∙ ap y.decider lane ∙ q));
      lane = λ d h. absurd (none-some d h);
      number = λ d h. absurd (none-some d h);
      deps = λ d h. absurd (none-some d h);
    }
deliver_takes x y me w from (frames.Request g k a) n e =
    let test = first_true (nat_lt g y.groups && (y.decider g == me)) _ _ e in
    let here : y.decider g ≡ me = eqb-true (y.decider g) me (and_parts (nat_lt g y.groups) (y.decider g == me) test).1 in
    record {
      brought = λ p d h. absurd (none-some d h);
      lane = λ d h. subst (λ (z : Call). y.decider z.lane ≡ me) (made_ruling (new_call y w g a) d _ h) here;
      number = λ d h. subst (λ (z : Call). z.number ≡ length (w.decided z.lane) + 1) (made_ruling (new_call y w g a) d _ h) refl;
      deps = λ d h. subst (λ (z : Call). z.deps ≡ map w.count_of (y.needs z.act.method)) (made_ruling (new_call y w g a) d _ h) refl;
    }
deliver_takes x y me w from (frames.Ack lane count) n e = quiet_takes x y me w (FrameComes from 0 (frames.Ack lane count)) refl refl
deliver_takes x y me w from (frames.Verdict g k v) n e = quiet_takes x y me w (FrameComes from 0 (frames.Verdict g k v)) refl refl
deliver_takes x y me w from (frames.Hello version digest sender of) n e = quiet_takes x y me w (FrameComes from 0 (frames.Hello version digest sender of)) refl refl
deliver_takes x y me w from frames.Bye n e = quiet_takes x y me w (FrameComes from 0 frames.Bye) refl refl
