-- The act of a call that a replica logged is the one with which the call was decided.
use Rattle.std.proofs.Common.{◌≡◌, ◌⊎◌, ℕ, zero, suc, ◌+◌, Bool, true, false, cond, List, [], ◌∷◌, ◌++◌, length, get_or, ◌-◌, ◌==◌, Option, Some, None, refl, sym, subst, ap, ◌∙◌, inl, inr}
use Rattle.std.specs.Prelude.{slice_get}
use Rattle.std.proofs.lemmas.Bool.{eqb-true}
use Rattle.std.proofs.lemmas.List.{append-nil}
use Rattle.ham_syntax.specs.declared.act.Place.{Place}
use Rattle.ham_syntax.specs.declared.act.Call.{Call}
use Rattle.ham_syntax.specs.Objects.{Schema}
use Rattle.ham_plan.specs.Plans.{Plan}
use Rattle.ham_plan.specs.Lists.{In}
use Rattle.ham_plan.proofs.Lists.{true_or_false}
use Rattle.ham_turns.specs.Settings.{Rules, Setting, rules_of, setting_of}
use Rattle.ham_turns.specs.Words.{ReplicaWords, place_of, in_lane, numbered}
use Rattle.ham_turns.specs.Work.{at_place, first_of_two}
use Rattle.ham_buffer.specs.Buffers.{kept_call}
use Rattle.ham_replica.specs.Values.{Lists, Replica, words}
use Rattle.ham_replica.specs.Looks.{logged_call}
use Rattle.ham_runs.specs.Facts.{IsGiven}
use Rattle.ham_runs.specs.Runs.{Note, Decision, execution, decision_of, decisions, log_of, calls_of_lane, decided_here, arrived, words_of, IsRun}
use Rattle.ham_runs.proofs.Decisions.{places_of, place_in, found, lane_push, lane_in, numbered_in, numbered_split}
use Rattle.ham_runs.proofs.Listed.{some_inj, none_some, at_place_in}
use Rattle.ham_runs.proofs.Links.{RunKept, made_is}
use Rattle.ham_runs.proofs.Steps.{run_kept}
use Rattle.ham_world.specs.Keeping.{HasReplica, IsAt}
use Rattle.ham_world.proofs.Kept.{is_at}

none_numbered : (n : ℕ) (k : Call) → numbered [] n ≡ Some k → ⊥
none_numbered zero k h = none_some k h
none_numbered (suc n) k h = none_some k h

-- the calls of a lane have the numbers from 1 on
abbrev pub AreNumbered : List Decision → ℕ → Type 0
AreNumbered ds l = (n : ℕ) (k : Call) → numbered (calls_of_lane l ds) n ≡ Some k → k.number ≡ n

last : (ds : List Decision) (d : Decision) (l n : ℕ) (k : Call) → AreNumbered ds l → d.call.number ≡ length (calls_of_lane d.call.lane ds) + 1 →
    (in_lane l (place_of d.call) ≡ true) ⊎ (in_lane l (place_of d.call) ≡ false) →
    numbered (calls_of_lane l ds ++ cond (in_lane l (place_of d.call)) (d.call ∷ []) []) n ≡ Some k → k.number ≡ n
last ds d l n k before new (inl t) h =
    let lane : d.call.lane ≡ l = eqb-true d.call.lane l t in
    elim (numbered_split (calls_of_lane l ds) d.call n k (subst (λ b. numbered (calls_of_lane l ds ++ cond b (d.call ∷ []) []) n ≡ Some k) t h)) [
      | inl old ↦ before n k old
      | inr w ↦ ap (λ (z : Call). z.number) w.0 ∙ new ∙ ap (λ z. length (calls_of_lane z ds) + 1) lane ∙ sym w.1
    ]
last ds d l n k before new (inr f) h =
    let none : numbered (calls_of_lane l ds ++ []) n ≡ Some k = subst (λ b. numbered (calls_of_lane l ds ++ cond b (d.call ∷ []) []) n ≡ Some k) f h in
    before n k (subst (λ z. numbered z n ≡ Some k) (append-nil (calls_of_lane l ds)) none)

more : (ds : List Decision) (r : ℕ) (log : List Place) (made : Option Call) (l n : ℕ) (k : Call) → AreNumbered ds l →
    ((c : Call) → made ≡ Some c → c.number ≡ length (calls_of_lane c.lane ds) + 1) →
    numbered (calls_of_lane l (ds ++ decision_of r log made)) n ≡ Some k → k.number ≡ n
more ds r log None l n k before new h = before n k (subst (λ (z : List Decision). numbered (calls_of_lane l z) n ≡ Some k) (append-nil ds) h)
more ds r log (Some c) l n k before new h =
    let d : Decision = record { call = c; by = r; before = log } in
    last ds d l n k before (new c refl) (true_or_false (in_lane l (place_of c))) (subst (λ z. numbered z n ≡ Some k) (lane_push l ds d) h)

here_by : (b : Bool) (calls : List Call) (n : ℕ) (k : Call) → numbered (cond b calls []) n ≡ Some k → numbered calls n ≡ Some k
here_by true calls n k h = h
here_by false calls n k h = absurd (none_numbered n k h)

module _ (x : Rules) (y : Setting) (given : IsGiven x y) where
  kept_of : (notes : List Note) → IsRun x y notes → RunKept x y notes
  kept_of notes run = run_kept x y given.setting given.sound given.laws notes run

  lanes_numbered : (notes : List Note) → IsRun x y notes → (l : ℕ) → AreNumbered (decisions notes) l
  lanes_numbered [] run l n k h = absurd (none_numbered n k h)
  lanes_numbered (m ∷ earlier) run l n k h =
      more (decisions earlier) m.at (log_of earlier m.at) m.made l n k (lanes_numbered earlier run.1 l)
      (λ c made. (made_is x y given.setting earlier (kept_of earlier run.1) m.at run.0.replica m.took c run.0.may (sym run.0.made ∙ made)).number) h

  module _ (notes : List Note) (run : IsRun x y notes) where
    -- the act of a decided call
    decided_act : (d : Decision) → In d (decisions notes) → (c : Place) → place_of d.call ≡ c → d.call.act ≡ (execution notes).act c
    decided_act d k c is =
        let w = found (decisions notes) c (subst (λ z. In z (places_of (decisions notes))) is (place_in (decisions notes) d k)) in
        let same : w.decision ≡ d = (kept_of notes run).kept.unique w.decision d w.stands k (w.place ∙ sym is) in
        sym (w.act ∙ ap (λ (z : Decision). z.call.act) same)

    -- the call was decided here
    here : (c : Place) (k : Call) (r : ℕ) → numbered (decided_here y r c.lane (calls_of_lane c.lane (decisions notes))) c.number ≡ Some k → k.act ≡ (execution notes).act c
    here c k r h =
        let stands = here_by (y.decider c.lane == r) (calls_of_lane c.lane (decisions notes)) c.number k h in
        let d = lane_in c.lane (decisions notes) k (numbered_in (calls_of_lane c.lane (decisions notes)) c.number k stands) in
        let number : k.number ≡ c.number = lanes_numbered notes run c.lane c.number k stands in
        let at : place_of k ≡ c = ap (λ l. record { lane = l; number = k.number }) d.3 ∙ ap (λ n. record { lane = c.lane; number = n }) number in
        ap (λ (z : Call). z.act) d.2 ∙ decided_act d.0 d.1 c (ap place_of (sym d.2) ∙ at)

    -- the call came
    there : (c : Place) (k : Call) (r : ℕ) → at_place (arrived notes r) c ≡ Some k → k.act ≡ (execution notes).act c
    there c k r h =
        let w = at_place_in (arrived notes r) c k h in
        let d = (kept_of notes run).came r k w.0 in
        ap (λ (z : Call). z.act) (sym d.2) ∙ decided_act d.0 d.1 c (ap place_of d.2 ∙ w.1)

    pub logged_act : (r : ℕ) (v : Lists) (c : Place) (k : Call) → words v ≡ words_of x y notes r → logged_call v c ≡ Some k → k.act ≡ (execution notes).act c
    logged_act r v c k said h = told (numbered (get_or v.decided c.lane []) c.number) refl h
      where
        told : (o : Option Call) → numbered (get_or v.decided c.lane []) c.number ≡ o → first_of_two o (numbered (get_or v.came c.lane []) c.number) ≡ Some k → k.act ≡ (execution notes).act c
        told (Some z) e q = here c k r (sym (ap (λ (w : ReplicaWords). numbered (w.decided c.lane) c.number) said) ∙ (e ∙ q))
        told None e q =
            there c k r (sym (ap (λ (w : ReplicaWords). w.kept c) said) ∙ ap (λ o. first_of_two o (kept_call v.buffer c)) q)

pub act_at : (o : Schema) (p : Plan) (notes : List Note) (vs : List Replica) (r : ℕ) (v : Replica) (c : Place) (k : Call) →
    IsGiven (rules_of o) (setting_of p) → IsRun (rules_of o) (setting_of p) notes →
    HasReplica o p notes vs r → slice_get vs (r - 1) ≡ Some v → logged_call v.lists c ≡ Some k → k.act ≡ (execution notes).act c
act_at o p notes vs r v c k given run has there_is h =
    logged_act (rules_of o) (setting_of p) given notes run r v.lists c k (is_at o p notes vs r v has there_is).said h
