-- What is so of a run at each moment: the headline, and which of the calls that came are logged.
use Rattle.std.proofs.Common.{◌≡◌, ◌⊎◌, ◌++◌, ◌↔◌, ℕ, true, eqb, List, [], ◌∷◌, refl, sym, subst, ap, inl, inr}
use Rattle.std.proofs.lemmas.List.{append-nil}
use Rattle.std.proofs.lemmas.Bool.{eqb-true}
use Rattle.ham_syntax.specs.declared.act.Act.{Act}
use Rattle.ham_syntax.specs.declared.act.Place.{Place}
use Rattle.ham_syntax.specs.declared.act.Call.{Call}
use Rattle.ham_plan.specs.Lists.{In}
use Rattle.ham_laws.specs.Executions.{IsSound, Needs, IsClosed}
use Rattle.ham_laws.specs.Drain.InReach.{Delivered}
use Rattle.ham_runs.specs.Facts.{constraints, IsSetting, Laws, IsGiven}
use Rattle.ham_turns.specs.Settings.{Rules, Setting, meaning_by}
use Rattle.ham_turns.specs.Words.{place_of}
use Rattle.ham_runs.specs.Runs.{Note, log_of, decisions, execution, decided_execution, arrived, places, IsNext, IsRun}
use Rattle.ham_runs.specs.Headline.{AtEachMoment, OfEachTurn, IsSafe, LogsItsReach, DecidesExactly, IsAccepted, IsFaithful}
use Rattle.ham_runs.specs.Claims.{RunsAreFaithful, FramesAreTaken}
use Rattle.ham_plan.proofs.Lists.{true_or_false}
use Rattle.ham_laws.proofs.Bridge.{calls_after}
use Rattle.ham_laws.proofs.Counts.{distinct, needed_in}
use Rattle.ham_runs.proofs.Decisions.{places_of, place_in}
use Rattle.ham_runs.proofs.Kept.{pushed_same}
use Rattle.ham_runs.proofs.Listed.{place_of_call}
use Rattle.ham_runs.proofs.Links.{RunKept}
use Rattle.ham_runs.proofs.Begun.{delivered_known}
use Rattle.ham_runs.proofs.Steps.{run_kept}
use Rattle.ham_runs.proofs.Refined.{act_same, before_same}
use Rattle.ham_runs.proofs.Accepted.{delivery_accepted}
use Rattle.ham_runs.proofs.Once.{decided_once}
use Rattle.ham_runs.proofs.Exact.{decides_exactly}
use Rattle.ham_runs.specs.Runs.{MayTake}

module _ (x : Rules) (y : Setting) (setting : IsSetting x y) (sound : IsSound (meaning_by x) (constraints y)) (laws : Laws (meaning_by x)) where
  module _ (earlier : List Note) (n : Note) (kept : RunKept x y earlier) where
    -- the needs of a decided call stay
    needs_stay : (c d : Place) → In c (places_of (decisions earlier)) →
        Needs (meaning_by x) (constraints y) (execution (n ∷ earlier)) c d ↔ Needs (meaning_by x) (constraints y) (execution earlier) c d
    needs_stay c d k =
        let same = before_same earlier n c k in
        let act_c = ap (λ (a : Act). a.method) (act_same earlier n c k) in
        let known : In d ((execution earlier).before c) → In d (places_of (decisions earlier)) =
        λ j. calls_after (meaning_by x) (constraints y) (execution earlier) [] ((execution earlier).before c) (kept.kept.well.before_closed c k) d j in
        let act_d : In d ((execution earlier).before c) → ((execution (n ∷ earlier)).act d).method ≡ ((execution earlier).act d).method =
        λ j. ap (λ (a : Act). a.method) (act_same earlier n d (known j)) in
        let Related : ℕ → ℕ → Type 0 = λ (md mc : ℕ). (d.lane ≡ c.lane) ⊎ ((y.conflict md mc ≡ true) ⊎ (y.depends mc md ≡ true)) in (
          λ need.
              let j = subst (λ l. In d l) same need.0 in
              (j, subst (λ z. Related z ((execution earlier).act c).method) (act_d j) (subst (λ z. Related ((execution (n ∷ earlier)).act d).method z) act_c need.1)),
          λ need. (
            subst (λ l. In d l) (sym same) need.0,
            subst (λ z. Related z ((execution (n ∷ earlier)).act c).method) (sym (act_d need.0)) (subst (λ z. Related ((execution earlier).act d).method z) (sym act_c) need.1),
          ),
        )

  -- a turn logs its reach
  pub turn_reach : (earlier : List Note) (n : Note) → RunKept x y earlier → IsNext x y earlier n → LogsItsReach x y earlier n
  turn_reach earlier n kept next =
      (laws.drains_reach (constraints y) (decided_execution n earlier) (places (arrived (n ∷ earlier) n.at)) _ _
      (delivered_known x y setting sound laws earlier n kept (record { replica = next.replica; may = next.may; made = next.made })) next.logged).0

  -- of the replica whose turn it was
  applied_here : (earlier : List Note) (n : Note) → RunKept x y earlier → RunKept x y (n ∷ earlier) → IsNext x y earlier n → (c : Call) → In c (arrived (n ∷ earlier) n.at) →
      In (place_of c) (log_of (n ∷ earlier) n.at) ↔ ((d : Place) → Needs (meaning_by x) (constraints y) (execution (n ∷ earlier)) (place_of c) d → In d (log_of (n ∷ earlier) n.at))
  applied_here earlier n kept after next c k =
      let log : log_of (n ∷ earlier) n.at ≡ log_of earlier n.at ++ n.logged = pushed_same (log_of earlier) n.at n.logged in
      let closed : IsClosed (meaning_by x) (constraints y) (execution (n ∷ earlier)) (log_of (n ∷ earlier) n.at) = after.kept.well.logs_closed n.at in
      let reach = turn_reach earlier n kept next in (
        λ logged d need. needed_in (meaning_by x) (constraints y) (execution (n ∷ earlier)) (log_of (n ∷ earlier) n.at) (place_of c) d closed logged need,
        λ needs. subst (λ l. In (place_of c) l) (sym log) ((reach (place_of c)).1
            (Delivered (place_of_call (arrived (n ∷ earlier) n.at) c k) (λ d need. (reach d).0 (subst (λ l. In d l) log (needs d need))))),
      )

  applied : (notes : List Note) → IsRun x y notes → (r : ℕ) (c : Call) → In c (arrived notes r) →
      In (place_of c) (log_of notes r) ↔ ((d : Place) → Needs (meaning_by x) (constraints y) (execution notes) (place_of c) d → In d (log_of notes r))
  applied [] run r c k = absurd k
  applied (n ∷ earlier) run r c k = elim (true_or_false (eqb n.at r)) [
    | inl t ↦ subst (λ z. In c (arrived (n ∷ earlier) z) → In (place_of c) (log_of (n ∷ earlier) z) ↔
        ((d : Place) → Needs (meaning_by x) (constraints y) (execution (n ∷ earlier)) (place_of c) d → In d (log_of (n ∷ earlier) z))) (eqb-true n.at r t)
        (applied_here earlier n kept (run_kept x y setting sound laws (n ∷ earlier) run) run.0 c) k
    | inr f ↦
        let j : In c (arrived earlier r) = rw f at k in
        let old = applied earlier run.1 r c j in
        let d = kept.came r c j in
        let decided : In (place_of c) (places_of (decisions earlier)) = subst (λ z. In (place_of z) (places_of (decisions earlier))) d.2 (place_in (decisions earlier) d.0 d.1) in
        let log : log_of (n ∷ earlier) r ≡ log_of earlier r = rw f refl in (
          λ logged z need. subst (λ l. In z l) (sym log) (old.0 (subst (λ l. In (place_of c) l) log logged) z ((needs_stay earlier n kept (place_of c) z decided).0 need)),
          λ needs. subst (λ l. In (place_of c) l) (sym log) (old.1 (λ z need. subst (λ l. In z l) log (needs z ((needs_stay earlier n kept (place_of c) z decided).1 need)))),
        )
  ]
    where
      kept : RunKept x y earlier
      kept = run_kept x y setting sound laws earlier run.1

  pub safe : (notes : List Note) → IsRun x y notes → IsSafe x y notes
  safe notes run =
      let kept = run_kept x y setting sound laws notes run in
      let well = kept.kept.well in
      let e = execution notes in
      record {
        invariant = λ r. laws.invariant_holds (constraints y) e sound well (log_of notes r) (well.logs_closed r) (log_of notes r) [] (sym (append-nil (log_of notes r)));
        agree = λ r q same. laws.states_agree (constraints y) e sound well (log_of notes r) (log_of notes q) (well.logs_closed r) (well.logs_closed q) same;
        permissible = λ r. laws.calls_are_permissible (constraints y) e sound well (log_of notes r) (well.logs_closed r);
        once = λ r. distinct (meaning_by x) (constraints y) e [] (log_of notes r) (well.logs_closed r);
        applied = applied notes run;
      }

  each_moment : (notes : List Note) → IsRun x y notes → AtEachMoment (IsSafe x y) notes
  each_moment [] run = safe [] run
  each_moment (n ∷ earlier) run = (safe (n ∷ earlier) run, each_moment earlier run.1)

  each_exact : (notes : List Note) → IsRun x y notes → OfEachTurn (DecidesExactly x y) notes
  each_exact [] run = tt
  each_exact (n ∷ earlier) run = (decides_exactly x y setting earlier n (run_kept x y setting sound laws earlier run.1) run.0, each_exact earlier run.1)

  each_reach : (notes : List Note) → IsRun x y notes → OfEachTurn (LogsItsReach x y) notes
  each_reach [] run = tt
  each_reach (n ∷ earlier) run = (turn_reach earlier n (run_kept x y setting sound laws earlier run.1) run.0, each_reach earlier run.1)

  each_accepted : (notes : List Note) → IsRun x y notes → OfEachTurn (IsAccepted x y) notes
  each_accepted [] run = tt
  each_accepted (n ∷ earlier) run = (
    λ from k f te. delivery_accepted x y setting earlier (run_kept x y setting sound laws earlier run.1) n.at from k f (subst (λ t. MayTake x y earlier n.at t) te run.0.may),
    each_accepted earlier run.1,
  )

  faithful : (notes : List Note) → IsRun x y notes → IsFaithful x y notes
  faithful notes run =
      let kept = run_kept x y setting sound laws notes run in
      record {
        run = run;
        well = kept.kept.well;
        safe = each_moment notes run;
        exact = each_exact notes run;
        reach = each_reach notes run;
        accepted = each_accepted notes run;
        asked_once = decided_once x y notes run kept;
      }

pub runs_are_faithful : (x : Rules) (y : Setting) → IsGiven x y → RunsAreFaithful x y
runs_are_faithful x y given = faithful x y given.setting given.sound given.laws

pub frames_are_taken : (x : Rules) (y : Setting) → IsGiven x y → FramesAreTaken x y
frames_are_taken x y given notes run from to which f sent =
    delivery_accepted x y given.setting notes (run_kept x y given.setting given.sound given.laws notes run) to from which f sent
