-- The own work of a note: what it took in is so, and its decision keeps what a run keeps.
use Rattle.std.proofs.Common.{◌≡◌, ◌++◌, ℕ, eqb, List, [], ◌∷◌, refl, sym, subst, ap, ◌∙◌, inl, inr}
use Rattle.std.specs.Prelude.{Option, Some, None}
use Rattle.std.proofs.lemmas.List.{append-nil}
use Rattle.ham_syntax.specs.declared.act.Place.{Place}
use Rattle.ham_syntax.specs.declared.act.Call.{Call}
use Rattle.ham_frame.specs.declared.frame.Frame.{Frame}
use Rattle.ham_frame.specs.declared.frame.Frame.TheVariants as frames
use Rattle.ham_frame.specs.declared.frame.Frame.TheVariants.{Hello, Ack, Request, Verdict, Bye}
use Rattle.ham_plan.specs.Lists.{In, Within}
use Rattle.ham_laws.specs.Executions.{IsSound}
use Rattle.ham_runs.specs.Facts.{constraints, IsSetting, Laws}
use Rattle.ham_turns.specs.Settings.{Rules, Setting, meaning_by, IsReplica}
use Rattle.ham_turns.specs.Words.{Intake, ActComes, FrameComes, PartComes, Beat, place_of}
use Rattle.ham_turns.specs.Work.{made_of, call_in, place_made}
use Rattle.ham_runs.specs.Runs.{Note, Decision, log_of, decision_of, decisions, on_link, arrived, pushed, words_of, MayTake, places}
use Rattle.ham_plan.proofs.Lists.{in_parts, true_or_false}
use Rattle.ham_runs.proofs.Decisions.{places_of, place_in, numbered_in}
use Rattle.ham_runs.proofs.Kept.{Kept, IsMade, decision_kept}
use Rattle.ham_runs.proofs.Listed.{in_map}
use Rattle.ham_runs.proofs.Links.{IsSo, RunKept, decisions_grow, made_is}

pub pushed_none : (log : ℕ → List Place) (r q : ℕ) → pushed log r [] q ≡ log q
pushed_none log r q = elim (true_or_false (eqb r q)) [ inl t ↦ rw t (append-nil (log q)) | inr f ↦ rw f refl ]

-- the own work of a note
pub record IsBegun (x : Rules) (y : Setting) (earlier : List Note) (n : Note) : Type 0 where
  pub replica : IsReplica y n.at
  pub may : MayTake x y earlier n.at n.took
  pub made : n.made ≡ made_of x y (words_of x y earlier n.at) n.at n.took

module _ (x : Rules) (y : Setting) (setting : IsSetting x y) (sound : IsSound (meaning_by x) (constraints y)) (laws : Laws (meaning_by x)) (earlier : List Note) (n : Note)
    (kept : RunKept x y earlier) (next : IsBegun x y earlier n) where
  -- the frame that came tells what is so
  pub frame_so : (from k : ℕ) (f : Frame) → n.took ≡ FrameComes from k f → IsSo y earlier from n.at f
  frame_so from k f e = kept.links from n.at f (numbered_in (on_link earlier from n.at) k f (subst (λ t. MayTake x y earlier n.at t) e next.may))

  pub came_later : (r : ℕ) (c : Call) → In c (arrived (n ∷ earlier) r) → (d : Decision) × In d (decisions (n ∷ earlier)) × (d.call ≡ c)
  came_later r c k = elim (true_or_false (eqb n.at r)) [
    | inl t ↦ elim (in_parts c (arrived earlier r) (call_in n.took) (rw t at k)) [
      | inl j ↦ old j
      | inr j ↦ by_took n.took refl j
    ]
    | inr f ↦ old (rw f at k)
  ]
    where
      old : In c (arrived earlier r) → (d : Decision) × In d (decisions (n ∷ earlier)) × (d.call ≡ c)
      old j = let w = kept.came r c j in (w.0, decisions_grow earlier n w.0 w.1, w.2)

      by_took : (took : Intake) → n.took ≡ took → In c (call_in took) → (d : Decision) × In d (decisions (n ∷ earlier)) × (d.call ≡ c)
      by_took (FrameComes from k (frames.Call it)) e j =
          let so = frame_so from k (frames.Call it) e in
          elim j [
            | inl q ↦ (so.0, decisions_grow earlier n so.0 so.1, so.2 ∙ sym q)
            | inr z ↦ absurd z
          ]
      by_took (FrameComes from k (Ack l i)) e j = absurd j
      by_took (FrameComes from k (Request g i a)) e j = absurd j
      by_took (FrameComes from k (Verdict g i v)) e j = absurd j
      by_took (FrameComes from k (Hello version digest sender of)) e j = absurd j
      by_took (FrameComes from k Bye) e j = absurd j
      by_took (ActComes a) e j = absurd j
      by_took (PartComes from k f) e j = absurd j
      by_took Beat e j = absurd j

  pub delivered_known : Within (places (arrived (n ∷ earlier) n.at)) (places_of (decisions (n ∷ earlier)))
  delivered_known c k =
      let w = in_map place_of (arrived (n ∷ earlier) n.at) c k in
      let d = came_later n.at w.0 w.1 in
      subst (λ z. In z (places_of (decisions (n ∷ earlier)))) (ap place_of d.2 ∙ sym w.2) (place_in (decisions (n ∷ earlier)) d.0 d.1)

  pub made_so : (c : Call) → n.made ≡ Some c → IsMade x y (decisions earlier) (log_of earlier) (record { call = c; by = n.at; before = log_of earlier n.at })
  made_so c e = made_is x y setting earlier kept n.at next.replica n.took c next.may (sym next.made ∙ e)

  -- after the decision, before the drain
  pub mid_kept : Kept x y (decisions (n ∷ earlier)) (pushed (log_of earlier) n.at (place_made n.made))
  mid_kept = by_made n.made refl
    where
      by_made : (m : Option Call) → n.made ≡ m → Kept x y (decisions (n ∷ earlier)) (pushed (log_of earlier) n.at (place_made n.made))
      by_made None e =
          let same : decisions (n ∷ earlier) ≡ decisions earlier = ap (λ m. decisions earlier ++ decision_of n.at (log_of earlier n.at) m) e ∙ append-nil (decisions earlier) in
          subst (λ ds. Kept x y ds (pushed (log_of earlier) n.at (place_made n.made))) (sym same)
          (subst (λ log. Kept x y (decisions earlier) log)
          (λ i q. sym (ap (λ m. pushed (log_of earlier) n.at (place_made m) q) e ∙ pushed_none (log_of earlier) n.at q) i) kept.kept)
      by_made (Some c) e =
          subst (λ m. Kept x y (decisions earlier ++ decision_of n.at (log_of earlier n.at) m) (pushed (log_of earlier) n.at (place_made m))) (sym e)
          (decision_kept x y setting sound laws (decisions earlier) (log_of earlier) kept.kept (record { call = c; by = n.at; before = log_of earlier n.at }) (made_so c e))

pub start_kept : (x : Rules) (y : Setting) → Kept x y [] (λ r. [])
start_kept x y = record {
  well = record {
    in_order = tt;
    decided_there = λ c d. absurd d;
    fits = λ c d. absurd d;
    permissible_at = λ c d. absurd d;
    before_closed = λ c d. absurd d;
    logs_closed = λ r. tt;
    conflicts_ordered = λ c d dc dd ne t. absurd dc;
  };
  ordered = λ c d dc dd ne q. absurd dc;
  numbers = λ c d. absurd d;
  counted = λ c d. absurd d;
  unique = λ d f k j q. absurd k;
  own = λ d k. absurd k;
}
