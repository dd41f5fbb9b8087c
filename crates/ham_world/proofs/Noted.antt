-- A replica's turn is noted: the run goes on with its note.
use Rattle.std.proofs.Common.{◌≡◌, ◌≢◌, ℕ, List, [], ◌∷◌, ◌++◌, Bool, true, false, cond, not, ◌&&◌, ◌==◌, Some, is_some, length, map, fold, refl, sym, ap, ◌∙◌, arith, subst}
use Rattle.std.proofs.lemmas.Bool.Decides.{nat_tests}
use Rattle.std.proofs.lemmas.List.{map_push}
use Rattle.std.proofs.lemmas.List.Sums.{fold-append}
use Rattle.ham_syntax.specs.declared.act.Place.{Place}
use Rattle.ham_syntax.specs.Objects.{Schema}
use Rattle.ham_plan.specs.Plans.{Plan}
use Rattle.ham_laws.specs.Constrained.{IsPlanned}
use Rattle.ham_frame.specs.declared.frame.Frame.{Frame}
use Rattle.ham_frame.specs.declared.frame.Frame.TheVariants as frames
use Rattle.ham_turns.specs.declared.turn.Out.{Out}
use Rattle.ham_turns.specs.declared.turn.What.{What}
use Rattle.ham_turns.specs.Settings.{Rules, Setting, rules_of, setting_of, IsReplica}
use Rattle.ham_turns.specs.Words.{ReplicaWords, Intake, ActComes, FrameComes, PartComes, Beat, place_of}
use Rattle.ham_turns.specs.Work.{answer_of, ruled_of, made_of, answer_to, place_made}
use Rattle.ham_turns.specs.Sends.{sent_by}
use Rattle.ham_turns.specs.Turns.{IsTurnOf}
use Rattle.ham_runs.specs.Runs.{Note, IsRun, MayTake, words_of, log_of}
use Rattle.ham_runs.specs.Next.{at_of, intake_of, found, is_replica, may_take, taken_as, next_note, note_by, input_of, inputs, run_of, after_input}
use Rattle.ham_runs.specs.Next.Input.{Deliver}
use Rattle.ham_runs.specs.Claims.{TurnsRefine, NotesFollow, InputsGiveRuns, OneRun}
use Rattle.ham_world.specs.declared.note.Took.TheVariants as tooks
use Rattle.ham_world.specs.declared.note.Note.{Note as Told}
use Rattle.ham_world.specs.Worlds.{shown, took_of}
use Rattle.ham_world.specs.Keeping.{input_by, input_told, notes_of}

pub record RunLaws : Type 0 where
  pub refine : (o : Schema) (p : Plan) → IsPlanned o p → TurnsRefine (rules_of o) (setting_of p)
  pub follow : (o : Schema) (p : Plan) → IsPlanned o p → NotesFollow (rules_of o) (setting_of p)
  pub computed : (o : Schema) (p : Plan) → IsPlanned o p → InputsGiveRuns (rules_of o) (setting_of p)
  pub one : (o : Schema) (p : Plan) → IsPlanned o p → OneRun (rules_of o) (setting_of p)

pub record Noted (o : Schema) (p : Plan) (notes : List Note) (r : ℕ) (took : Intake) (what : What) (logged : List Place) (outs : List Out) (after : ReplicaWords) : Type 0 where
  pub note : Note
  pub run : IsRun (rules_of o) (setting_of p) (note ∷ notes)
  pub own : after ≡ words_of (rules_of o) (setting_of p) (note ∷ notes) r
  pub others : (q : ℕ) → q ≢ r → words_of (rules_of o) (setting_of p) notes q ≡ words_of (rules_of o) (setting_of p) (note ∷ notes) q
  pub at_is : note.at ≡ r
  pub took_is : note.took ≡ took
  pub answer_is : what ≡ answer_of (rules_of o) (setting_of p) (words_of (rules_of o) (setting_of p) notes r) r took
  pub sent_is : note.sent ≡ outs
  pub shown_is : shown note ≡ record { replica = r; took = took_of took; what = what; logged = logged; sent = length outs }

same_test : (a b : ℕ) → a ≡ b → (a == b) ≡ true
same_test a b e = grind (arith, nat_tests)

log_more : (notes : List Note) (n : Note) (r : ℕ) → n.at ≡ r → log_of (n ∷ notes) r ≡ log_of notes r ++ n.logged
log_more notes n r e = rw (same_test n.at r e) refl

pub noted : RunLaws → (o : Schema) (p : Plan) → IsPlanned o p → (notes : List Note) → IsRun (rules_of o) (setting_of p) notes →
    (r : ℕ) (took : Intake) (what : What) (logged : List Place) (outs : List Out) (w after : ReplicaWords) → IsReplica (setting_of p) r → MayTake (rules_of o) (setting_of p) notes r took →
    w ≡ words_of (rules_of o) (setting_of p) notes r →
    IsTurnOf (rules_of o) (setting_of p) r w after took what logged outs true →
    Noted o p notes r took what logged outs after
noted laws o p sound notes run r took what logged outs w after rep may words t =
    let x : Rules = rules_of o in
    let y : Setting = setting_of p in
    let n : Note = note_by x y w r took t.calls in
    let g = laws.refine o p sound notes r took t.calls w after run rep may words (t.drain, t.settled.0 refl) in
    let log : after.log ≡ w.log ++ n.logged = ap (λ (v : ReplicaWords). v.log) g.own ∙ (log_more notes n r refl ∙ ap (λ (v : ReplicaWords). v.log ++ n.logged) (sym words)) in
    let sent : n.sent ≡ outs = ap (sent_by y w r took (answer_of x y w r took) (ruled_of x w took) (made_of x y w r took)) (sym log) ∙ sym t.sent in
    record {
      note = n;
      run = g.run;
      own = g.own;
      others = g.others;
      at_is = refl;
      took_is = refl;
      answer_is = t.answer ∙ ap (λ v. answer_of x y v r took) words;
      sent_is = sent;
      shown_is = rw (t.answer, t.logged, ← sent) refl;
    }

-- ---- the input of a turn

answer_input : (w : ReplicaWords) (r from k : ℕ) (f : Frame) → input_by r (tooks.Frame from k) (answer_to w from f) ≡ Deliver r from k
answer_input w r from k (frames.Call c) = refl
answer_input w r from k (frames.Ack lane count) = refl
answer_input w r from k (frames.Request h n a) = refl
answer_input w r from k (frames.Verdict h n v) = refl
answer_input w r from k (frames.Hello version digest sender of) = refl
answer_input w r from k frames.Bye = refl

pub input_is : (x : Rules) (y : Setting) (w : ReplicaWords) (r : ℕ) (took : Intake) → input_by r (took_of took) (answer_of x y w r took) ≡ input_of r took
input_is x y w r (ActComes a) = refl
input_is x y w r (FrameComes from k f) = answer_input w r from k f
input_is x y w r (PartComes from k f) = refl
input_is x y w r Beat = refl

at_is : (r : ℕ) (took : Intake) → at_of (input_of r took) ≡ r
at_is r (ActComes a) = refl
at_is r (FrameComes from k f) = refl
at_is r (PartComes from k f) = refl
at_is r Beat = refl

intake_is : (x : Rules) (y : Setting) (notes : List Note) (r : ℕ) (took : Intake) → MayTake x y notes r took → intake_of notes (input_of r took) ≡ Some took
intake_is x y notes r (ActComes a) may = refl
intake_is x y notes r (FrameComes from k f) may = ap (found (FrameComes from k)) may
intake_is x y notes r (PartComes from k f) may = ap (found (PartComes from k)) may
intake_is x y notes r Beat may = refl

may_is : (x : Rules) (y : Setting) (notes : List Note) (r : ℕ) (took : Intake) → MayTake x y notes r took → may_take x y notes r took ≡ true
may_is x y notes r (ActComes a) may = ap (λ o. not (is_some o)) may
may_is x y notes r (FrameComes from k f) may = refl
may_is x y notes r (PartComes from k f) may = refl
may_is x y notes r Beat may = refl

pub replica_is : (y : Setting) (r : ℕ) → IsReplica y r → is_replica y r ≡ true
replica_is y r h = grind (arith, nat_tests)

when_true : {X : Type 0} (b : Bool) (xs ys : X) → b ≡ true → cond b xs ys ≡ xs
when_true true xs ys e = refl
when_true false xs ys e = cc

and_true : (a b : Bool) → a ≡ true → b ≡ true → (a && b) ≡ true
and_true true true e f = refl
and_true true false e f = f
and_true false b e f = e

pub goes_on : RunLaws → (o : Schema) (p : Plan) → IsPlanned o p → (notes : List Note) → IsRun (rules_of o) (setting_of p) notes →
    (r : ℕ) (took : Intake) (n : Note) → IsReplica (setting_of p) r → MayTake (rules_of o) (setting_of p) notes r took →
    IsRun (rules_of o) (setting_of p) (n ∷ notes) → n.at ≡ r → n.took ≡ took →
    after_input (rules_of o) (setting_of p) notes (input_of r took) ≡ n ∷ notes
goes_on laws o p sound notes run r took n rep may longer at is =
    let x : Rules = rules_of o in
    let y : Setting = setting_of p in
    let next : Note = next_note x y notes r took in
    let asked : inputs (next ∷ notes) ≡ inputs (n ∷ notes) = ap (λ q. inputs notes ++ input_of q took ∷ []) (sym at) ∙ ap (λ t. inputs notes ++ input_of n.at t ∷ []) (sym is) in
    let same : next ∷ notes ≡ n ∷ notes = laws.one o p sound (next ∷ notes) (n ∷ notes) (laws.follow o p sound notes r took run rep may) longer asked in
    let test : (is_replica y r && may_take x y notes r took) ≡ true =
    and_true (is_replica y r) (may_take x y notes r took) (replica_is y r rep) (may_is x y notes r took may) in
    ap (λ q. taken_as x y notes q (intake_of notes (input_of r took))) (at_is r took)
    ∙ (ap (taken_as x y notes r) (intake_is x y notes r took may)
    ∙ (when_true (is_replica y r && may_take x y notes r took) (next ∷ notes) notes test ∙ same))

-- ---- the run of the kept notes

pub notes_of-push : (o : Schema) (p : Plan) (kept : List Told) (s : Told) → notes_of o p (kept ++ s ∷ []) ≡ after_input (rules_of o) (setting_of p) (notes_of o p kept) (input_told s)
unfolding notes_of run_of
notes_of-push o p kept s =
    ap (fold (after_input (rules_of o) (setting_of p)) []) (map_push input_told kept s)
    ∙ fold-append (after_input (rules_of o) (setting_of p)) [] (map input_told kept) (input_told s ∷ [])

pub runs : ((o : Schema) (p : Plan) → IsPlanned o p → InputsGiveRuns (rules_of o) (setting_of p)) → (o : Schema) (p : Plan) → IsPlanned o p → (kept : List Told) → IsRun (rules_of o) (setting_of p) (notes_of o p kept)
unfolding notes_of
runs law o p sound kept = (law o p sound).0 (map input_told kept)

-- the kept notes with that of a turn are those of the run with the turn's note
pub record KeptMore (o : Schema) (p : Plan) (kept : List Told) (r : ℕ) (took : Intake) (n : Note) : Type 0 where
  pub notes : notes_of o p (kept ++ shown n ∷ []) ≡ n ∷ notes_of o p kept
  pub run : notes_of o p (kept ++ shown n ∷ []) ≡ after_input (rules_of o) (setting_of p) (notes_of o p kept) (input_of r took)

pub kept_more : RunLaws → (o : Schema) (p : Plan) → IsPlanned o p → (kept : List Told) →
    (r : ℕ) (took : Intake) (what : What) (logged : List Place) (outs : List Out) (after : ReplicaWords) → IsReplica (setting_of p) r → MayTake (rules_of o) (setting_of p) (notes_of o p kept) r took →
    (n : Noted o p (notes_of o p kept) r took what logged outs after) → KeptMore o p kept r took n.note
kept_more laws o p sound kept r took what logged outs after rep may n =
    let run = runs laws.computed o p sound kept in
    let i : input_told (shown n.note) ≡ input_of r took =
    ap input_told n.shown_is ∙ (ap (λ a. input_by r (took_of took) a) n.answer_is
    ∙ input_is (rules_of o) (setting_of p) (words_of (rules_of o) (setting_of p) (notes_of o p kept) r) r took) in
    let e : notes_of o p (kept ++ shown n.note ∷ []) ≡ after_input (rules_of o) (setting_of p) (notes_of o p kept) (input_of r took) =
    notes_of-push o p kept (shown n.note) ∙ ap (after_input (rules_of o) (setting_of p) (notes_of o p kept)) i in
    record { notes = e ∙ goes_on laws o p sound (notes_of o p kept) run r took n.note rep may n.run n.at_is n.took_is; run = e }
