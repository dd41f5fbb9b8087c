-- Between turns no call is ready; and so what brings nothing logs nothing.
use Rattle.std.proofs.Common.{◌≡◌, ◌≢◌, ◌++◌, ℕ, eqb, List, [], ◌∷◌, max, refl, sym, subst, inl, inr, arith}
use Rattle.std.specs.Prelude.{Option, Some, None}
use Rattle.std.proofs.lemmas.List.{append-nil}
use Rattle.std.proofs.lemmas.Bool.{eqb-true, eqb-false}
use Rattle.ham_frame.specs.declared.frame.Frame.{Frame}
use Rattle.ham_frame.specs.declared.frame.Frame.TheVariants.{Bye}
use Rattle.ham_plan.specs.Lists.{In}
use Rattle.ham_laws.specs.Executions.{IsSound}
use Rattle.ham_laws.specs.Drain.{IsWaiting}
use Rattle.ham_runs.specs.Facts.{constraints, IsSetting, Laws, IsGiven}
use Rattle.ham_turns.specs.Settings.{Rules, Setting, meaning_by, IsReplica}
use Rattle.ham_turns.specs.Words.{ReplicaWords, Intake, PartComes, Beat, place_of}
use Rattle.ham_turns.specs.Work.{first_of_two, own_work}
use Rattle.ham_turns.specs.Ready.{IsSettled, DrainsHere}
use Rattle.ham_turns.specs.Ready.LogsReady.{Stop}
use Rattle.ham_runs.specs.Runs.{Note, log_of, decisions, execution, arrived, places, words_of, MayTake, IsNext, IsRun}
use Rattle.ham_runs.specs.Next.{note_by}
use Rattle.ham_runs.specs.Claims.{words_at, ReadyByNeeds, RunsAreSettled, Leaves, TornAndTicksLeave}
use Rattle.ham_plan.proofs.Lists.{true_or_false}
use Rattle.ham_laws.proofs.Drain.{settled}
use Rattle.ham_runs.proofs.Kept.{pushed_same}
use Rattle.ham_runs.proofs.Listed.{none_some}
use Rattle.ham_runs.proofs.Begun.{IsBegun}
use Rattle.ham_runs.proofs.Steps.{run_kept, decided_kept}
use Rattle.ham_runs.proofs.Drained.{IsMid, ready_waits, waits_ready}
use Rattle.ham_runs.proofs.Refined.{IsAt, waits_at, others_same, refined}

none_after : {X : Type 0} (o : Option X) → first_of_two o None ≡ o
none_after None = refl
none_after (Some v) = refl

none_more : (n : ℕ) → max n 0 ≡ n
none_more n = omega arith

pub part_leaves : (x : Rules) (y : Setting) (w : ReplicaWords) (r from k : ℕ) (f : Frame) → own_work x y w r (PartComes from k f) ≡ w
part_leaves x y w r from k f = λ i. record {
  state = w.state;
  log = w.log;
  count_of = w.count_of;
  decided = w.decided;
  kept = λ p. none_after (w.kept p) i;
  requests = λ g. append-nil (w.requests g) i;
  verdict = λ g n. none_after (w.verdict g n) i;
  rulings = λ q g. append-nil (w.rulings q g) i;
  acked = λ l p. none_more (w.acked l p) i;
}

pub beat_leaves : (x : Rules) (y : Setting) (w : ReplicaWords) (r : ℕ) → own_work x y w r Beat ≡ w
beat_leaves x y w r = part_leaves x y w r 0 0 (Bye)

module _ (x : Rules) (y : Setting) (setting : IsSetting x y) (sound : IsSound (meaning_by x) (constraints y)) (laws : Laws (meaning_by x)) where
  -- of the replica whose turn it was
  settled_here : (earlier : List Note) (n : Note) → IsRun x y earlier → IsNext x y earlier n → IsSettled y (words_of x y (n ∷ earlier) n.at)
  settled_here earlier n run next c ready =
      let kept = run_kept x y setting sound laws earlier run in
      let begun : IsBegun x y earlier n = record { replica = next.replica; may = next.may; made = next.made } in
      let log : log_of (n ∷ earlier) n.at ≡ log_of earlier n.at ++ n.logged = pushed_same (log_of earlier) n.at n.logged in
      let mid : IsAt x y setting sound laws earlier n kept begun (words_of x y (n ∷ earlier) n.at) (log_of (n ∷ earlier) n.at) =
      record { log_is = refl; counts = λ s. refl; state_is = refl; kept_is = λ p. refl } in
      let waits = waits_at x y setting sound laws earlier n kept begun (words_of x y (n ∷ earlier) n.at) (log_of (n ∷ earlier) n.at) c mid
      ((decided_kept x y setting sound laws earlier n kept next).well.logs_closed n.at) ready in
      settled (meaning_by x) (constraints y) _ _ next.logged (place_of c)
      (record { came = waits.came; new = λ k. waits.new (subst (λ l. In (place_of c) l) (sym log) k); needs = λ d need. subst (λ l. In d l) log (waits.needs d need) })

  pub run_settled : (notes : List Note) → IsRun x y notes → (r : ℕ) → IsSettled y (words_of x y notes r)
  run_settled [] run r = λ c ready. none_some c ready.kept
  run_settled (n ∷ earlier) run r = elim (true_or_false (eqb n.at r)) [
    | inl t ↦ subst (λ z. IsSettled y (words_of x y (n ∷ earlier) z)) (eqb-true n.at r t) (settled_here earlier n run.1 run.0)
    | inr f ↦
        let next = run.0 in
        let other : r ≢ n.at = λ q. eqb-false n.at r f (sym q) in
        subst (λ w. IsSettled y w) (others_same x y setting sound laws earlier n (run_kept x y setting sound laws earlier run.1)
        (record { replica = next.replica; may = next.may; made = next.made }) r other) (run_settled earlier run.1 r)
  ]

  leaves : (earlier : List Note) (r : ℕ) (took : Intake) → IsRun x y earlier → IsReplica y r → MayTake x y earlier r took → own_work x y (words_of x y earlier r) r took ≡ words_of x y earlier r →
      Leaves x y earlier r took
  leaves earlier r took run here may same =
      let w = words_of x y earlier r in
      let drains : DrainsHere x y (own_work x y w r took) [] w = subst (λ z. DrainsHere x y z [] w) (sym same) (Stop, run_settled earlier run r) in
      let next = refined x y setting sound laws earlier r took [] w w run here may refl drains in (
        next.run,
        λ q. elim (true_or_false (eqb q r)) [
          | inl t ↦ subst (λ z. words_of x y (note_by x y w r took [] ∷ earlier) z ≡ words_of x y earlier z) (sym (eqb-true q r t)) (sym next.own)
          | inr f ↦ sym (next.others q (eqb-false q r f))
        ],
      )

pub runs_are_settled : (x : Rules) (y : Setting) → IsGiven x y → RunsAreSettled x y
runs_are_settled x y given = run_settled x y given.setting given.sound given.laws

pub torn_and_ticks_leave : (x : Rules) (y : Setting) → IsGiven x y → TornAndTicksLeave x y
torn_and_ticks_leave x y given earlier r run here = (
  λ from k f may. leaves x y given.setting given.sound given.laws earlier r (PartComes from k f) run here may (part_leaves x y (words_of x y earlier r) r from k f),
  leaves x y given.setting given.sound given.laws earlier r Beat run here tt (beat_leaves x y (words_of x y earlier r) r),
)

pub ready_by_needs : (x : Rules) (y : Setting) → IsGiven x y → ReadyByNeeds x y
ready_by_needs x y given notes r log p run closed =
    let kept = run_kept x y given.setting given.sound given.laws notes run in
    let at : IsMid x y given.setting given.sound given.laws (decisions notes) (log_of notes) kept.kept (arrived notes r) (kept.came r) (words_at x y notes r log) log =
    record { log_is = refl; counts = λ s. refl; state_is = refl; kept_is = λ c. refl } in (
      waits_ready x y given.setting given.sound given.laws (decisions notes) (log_of notes) kept.kept (arrived notes r) (kept.came r) (words_at x y notes r log) log p at closed,
      λ ready.
          subst (λ z. IsWaiting (meaning_by x) (constraints y) (execution notes) log (places (arrived notes r)) z) ready.1
          (ready_waits x y given.setting given.sound given.laws (decisions notes) (log_of notes) kept.kept (arrived notes r) (kept.came r) (words_at x y notes r log) log ready.0 at closed ready.2),
    )
