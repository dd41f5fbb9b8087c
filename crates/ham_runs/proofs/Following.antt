-- Each allowed input has its note, and so a run is what its inputs give.
use Rattle.std.proofs.Common.{◌≡◌, ◌++◌, ℕ, Bool, true, false, cond, ltb, leb, ◌&&◌, List, [], ◌∷◌, length, fold, refl, sym, ap, ◌∙◌, inl, inr, arith}
use Rattle.std.specs.Prelude.{Option, Some, None, is_some, not}
use Rattle.std.proofs.lemmas.List.Sums.{fold-append, count_by-le-length}
use Rattle.std.proofs.lemmas.Bool.{eq-eqb, ltb-true, lt-ltb, leb-true, le-leb, and_parts}
use Rattle.ham_syntax.specs.declared.act.Place.{Place}
use Rattle.ham_syntax.specs.declared.act.Call.{Call}
use Rattle.ham_frame.specs.declared.frame.Frame.{Frame}
use Rattle.ham_plan.specs.Lists.{In}
use Rattle.ham_laws.specs.Executions.{IsSound}
use Rattle.ham_runs.specs.Facts.{constraints, IsSetting, Laws, IsGiven}
use Rattle.ham_turns.specs.Settings.{Rules, Setting, meaning_by, IsReplica}
use Rattle.ham_turns.specs.Words.{ReplicaWords, Intake, ActComes, FrameComes, PartComes, Beat, place_of, numbered}
use Rattle.ham_turns.specs.Work.{at_place, call_in, made_of, logged_made, own_work}
use Rattle.ham_turns.specs.Refusals.{issue_refusal}
use Rattle.ham_runs.specs.Runs.{Note, Decision, decisions, arrived, on_link, words_of, MayTake, IsRun}
use Rattle.ham_runs.specs.Next.{note_by, Input, at_of, found, intake_of, is_replica, may_take, taken_as, next_note, after_input, run_of, input_of, inputs}
use Rattle.ham_runs.specs.Next.Input.{Issue, Deliver, Tear, Tick}
use Rattle.ham_runs.specs.Claims.{NotesFollow, InputsGiveRuns}
use Rattle.ham_plan.proofs.Lists.{true_or_false}
use Rattle.ham_runs.proofs.Listed.{at_place_push}
use Rattle.ham_runs.proofs.Begun.{IsBegun, came_later, mid_kept}
use Rattle.ham_runs.proofs.Steps.{run_kept}
use Rattle.ham_runs.proofs.Refined.{refined}
use Rattle.ham_runs.proofs.Drainers.{drain_follows}
use Rattle.ham_runs.proofs.OneRun.{note_one}

none_is : {R : Type 0} (o : Option R) → not (is_some o) ≡ true → o ≡ None
none_is None h = refl
none_is (Some v) h = absurd (differ h)
  where
    differ : false ≡ true → ⊥
    differ h = cc

module _ (x : Rules) (y : Setting) (setting : IsSetting x y) (sound : IsSound (meaning_by x) (constraints y)) (laws : Laws (meaning_by x)) where
  pub follows : (earlier : List Note) (r : ℕ) (took : Intake) → IsRun x y earlier → IsReplica y r → MayTake x y earlier r took → IsRun x y (next_note x y earlier r took ∷ earlier)
  follows earlier r took run here may =
      let kept = run_kept x y setting sound laws earlier run in
      let calls : List Call = arrived earlier r ++ call_in took in
      let w : ReplicaWords = own_work x y (words_of x y earlier r) r took in
      let n : Note = note_by x y (words_of x y earlier r) r took [] in
      let begun : IsBegun x y earlier n = record { replica = here; may = may; made = refl } in
      let came : (c : Call) → In c calls → (d : Decision) × In d (decisions (n ∷ earlier)) × (d.call ≡ c) =
      λ c k. came_later x y setting sound laws earlier n kept begun r c (rw (eq-eqb r r refl) k) in
      let agree : (c d : Call) → In c calls → In d calls → place_of c ≡ place_of d → c ≡ d =
      λ c d kc kd q.
      let ec = came c kc in
      let ed = came d kd in
      let same = (mid_kept x y setting sound laws earlier n kept begun).unique ec.0 ed.0 ec.1 ed.1 (ap place_of ec.2 ∙ q ∙ sym (ap place_of ed.2)) in
      sym ec.2 ∙ ap (λ (z : Decision). z.call) same ∙ ed.2 in
      let keeps : (p : Place) → w.kept p ≡ at_place calls p =
      λ p. ap (λ f. f p) (made_kept _ (made_of x y (words_of x y earlier r) r took)) ∙ sym (at_place_push (arrived earlier r) (call_in took) p) in
      (refined x y setting sound laws earlier r took _ (words_of x y earlier r) _ run here may refl
      (drain_follows x y calls agree (length calls) w keeps (count_by-le-length _ calls))).run
    where
      made_kept : (w : ReplicaWords) (m : Option Call) → (logged_made x y w m).kept ≡ w.kept
      made_kept w None = refl
      made_kept w (Some c) = refl

  replica_is : (r : ℕ) → is_replica y r ≡ true → IsReplica y r
  replica_is r h = let p = and_parts (ltb 0 r) (leb r y.replicas) h in (let b = ltb-true 0 r p.0 in omega arith, leb-true r y.replicas p.1)

  is_replica_so : (r : ℕ) → IsReplica y r → is_replica y r ≡ true
  is_replica_so r h = let one = h.0 in rw (lt-ltb 0 r (omega arith), le-leb r y.replicas h.1) refl

  may_so : (notes : List Note) (r : ℕ) (took : Intake) → MayTake x y notes r took → may_take x y notes r took ≡ true
  may_so notes r (ActComes a) may = rw may refl
  may_so notes r (FrameComes from k f) may = refl
  may_so notes r (PartComes from k f) may = refl
  may_so notes r Beat may = refl

  -- what is taken in where it is allowed
  taken : (notes : List Note) (r : ℕ) (took : Intake) → IsRun x y notes → (may_take x y notes r took ≡ true → MayTake x y notes r took) → IsRun x y (taken_as x y notes r (Some took))
  taken notes r took run may = elim (true_or_false (is_replica y r && may_take x y notes r took)) [
    | inl t ↦
        let p = and_parts (is_replica y r) (may_take x y notes r took) t in
        rw t (follows notes r took run (replica_is r p.0) (may p.1))
    | inr f ↦ rw f run
  ]

  frame_taken : (notes : List Note) (r from k : ℕ) (o : Option Frame) → numbered (on_link notes from r) k ≡ o → IsRun x y notes → IsRun x y (taken_as x y notes r (found (FrameComes from k) o))
  frame_taken notes r from k None e run = run
  frame_taken notes r from k (Some f) e run = taken notes r (FrameComes from k f) run (λ t. e)

  part_taken : (notes : List Note) (r from k : ℕ) (o : Option Frame) → numbered (on_link notes from r) k ≡ o → IsRun x y notes → IsRun x y (taken_as x y notes r (found (PartComes from k) o))
  part_taken notes r from k None e run = run
  part_taken notes r from k (Some f) e run = taken notes r (PartComes from k f) run (λ t. e)

  pub input_kept : (notes : List Note) (i : Input) → IsRun x y notes → IsRun x y (after_input x y notes i)
  input_kept notes (Issue r a) run = taken notes r (ActComes a) run (λ t. none_is (issue_refusal x y (words_of x y notes r) r a) t)
  input_kept notes (Deliver r from k) run = frame_taken notes r from k (numbered (on_link notes from r) k) refl run
  input_kept notes (Tear r from k) run = part_taken notes r from k (numbered (on_link notes from r) k) refl run
  input_kept notes (Tick r) run = taken notes r Beat run (λ t. tt)

  inputs_kept : (i : List Input) (notes : List Note) → IsRun x y notes → IsRun x y (fold (after_input x y) notes i)
  inputs_kept [] notes run = run
  inputs_kept (i ∷ rest) notes run = inputs_kept rest (after_input x y notes i) (input_kept notes i run)

  at_is : (r : ℕ) (took : Intake) → at_of (input_of r took) ≡ r
  at_is r (ActComes a) = refl
  at_is r (FrameComes from k f) = refl
  at_is r (PartComes from k f) = refl
  at_is r Beat = refl

  intake_is : (notes : List Note) (r : ℕ) (took : Intake) → MayTake x y notes r took → intake_of notes (input_of r took) ≡ Some took
  intake_is notes r (ActComes a) may = refl
  intake_is notes r (FrameComes from k f) may = rw may refl
  intake_is notes r (PartComes from k f) may = rw may refl
  intake_is notes r Beat may = refl

  -- the note of an input is the run's
  input_gives : (earlier : List Note) (n : Note) → IsRun x y (n ∷ earlier) → after_input x y earlier (input_of n.at n.took) ≡ n ∷ earlier
  input_gives earlier n run =
      let next = run.0 in
      let same : next_note x y earlier n.at n.took ≡ n =
      note_one x y setting sound laws earlier (next_note x y earlier n.at n.took) n run.1 (follows earlier n.at n.took run.1 next.replica next.may).0 next refl refl in
      ap (λ r. taken_as x y earlier r (intake_of earlier (input_of n.at n.took))) (at_is n.at n.took)
      ∙ ap (λ o. taken_as x y earlier n.at o) (intake_is earlier n.at n.took next.may)
      ∙ ap (λ b. cond b (next_note x y earlier n.at n.took ∷ earlier) earlier) (both (is_replica y n.at) (may_take x y earlier n.at n.took) (is_replica_so n.at next.replica) (may_so earlier n.at n.took next.may))
      ∙ ap (λ z. z ∷ earlier) same
    where
      both : (a b : Bool) → a ≡ true → b ≡ true → (a && b) ≡ true
      both a b h k = rw (h, k) refl

  inputs_give : (notes : List Note) → IsRun x y notes → fold (after_input x y) [] (inputs notes) ≡ notes
  inputs_give [] run = refl
  inputs_give (n ∷ earlier) run =
      fold-append (after_input x y) [] (inputs earlier) (input_of n.at n.took ∷ [])
      ∙ ap (λ z. after_input x y z (input_of n.at n.took)) (inputs_give earlier run.1) ∙ input_gives earlier n run

pub notes_follow : (x : Rules) (y : Setting) → IsGiven x y → NotesFollow x y
notes_follow x y given = follows x y given.setting given.sound given.laws

pub inputs_give_runs : (x : Rules) (y : Setting) → IsGiven x y → InputsGiveRuns x y
unfolding run_of
inputs_give_runs x y given = (
  λ i. inputs_kept x y given.setting given.sound given.laws i [] tt,
  λ notes run. inputs_give x y given.setting given.sound given.laws notes run,
)
