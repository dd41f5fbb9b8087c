-- Lines that are answered or refused.
use Rattle.std.proofs.Common.{◌≡◌, ℕ, ◌+◌, ◌-◌, List, [], ◌∷◌, ◌++◌, length, drop, map, reverse, Bool, true, false, ◌&&◌, Option, Some, None, Err, refl, sym, ap, ◌∙◌, arith, append_assoc, append-nil}
use Rattle.std.specs.Prelude.{IsTrue, ◌↔◌}
use Rattle.std.proofs.lemmas.List.{length-reverse, length-map}
use Rattle.std.proofs.lemmas.Bool.{eqb-true}
use Rattle.std.proofs.lemmas.Bool.Decides.{nat_tests}
use Rattle.std.specs.Prelude.{◌==◌}
use base.Stored.{Gv, gnil, gnum, gcons}
use Rattle.ham_state.specs.Content.{State, coded_state}
use Rattle.ham_frame.specs.declared.frame.Frame.{Frame}
use Rattle.ham_turns.specs.Settings.{setting_of}
use Rattle.ham_lines.specs.declared.answer.Answer.{Answer}
use Rattle.ham_lines.specs.declared.answer.Answer.TheVariants as answers
use Rattle.ham_lines.specs.Texts.{answer_text}
use Rattle.ham_turns.specs.declared.event.Event.{Event}
use Rattle.ham_world.specs.declared.note.Note.{Note as Told}
use Rattle.ham_world.specs.declared.refusal.StepRefusal.{StepRefusal}
use Rattle.ham_world.specs.declared.refusal.StepRefusal.TheVariants as step
use Rattle.ham_frame.specs.Spelling.{spelling}
use Rattle.ham_world.specs.Worlds.{Run, Steps, Takes, Refuses as Refused, refusal_of, shown, bytes_of, same_code, equal_states}
use Rattle.ham_replay.specs.declared.end.LineRefusal.TheVariants.{NoSuchReplica, NoSuchFrame}
use Rattle.ham_replay.specs.Ends.{IsLineOutcome, is_memory}
use Rattle.ham_replay.specs.Replays.{answer_if, frame_if, event_by, event_outcome, answer_of, answer_line, answer_lines, reason_of}

-- one line more
line_text : (before mid after : List ℕ) (a : Answer) → mid ≡ before ++ answer_text a → after ≡ mid ++ 10 ∷ [] → after ≡ before ++ answer_lines (a ∷ [])
line_text before mid after a put ended =
    ended ∙ ap (λ (t : List ℕ). t ++ 10 ∷ []) put ∙ append_assoc before (answer_text a) (10 ∷ []) ∙ ap (λ (t : List ℕ). before ++ t) (sym (append-nil (answer_line a)))

pub answered : (w : Run) (before mid after : List ℕ) (b : Bool) (a : Answer) → b ≡ true → mid ≡ before ++ answer_text a → after ≡ mid ++ 10 ∷ [] → IsLineOutcome w w before after (answer_if b w.notes a) None
answered w before mid after true a is_so put ended = (refl, line_text before mid after a put ended)
answered w before mid after false a is_so put ended = absurd cc

pub unanswered : (w : Run) (before after : List ℕ) (b : Bool) (a : Answer) → b ≡ false → IsLineOutcome w w before after (answer_if b w.notes a) (Some NoSuchReplica)
unanswered w before after false a not_so = (refl, refl)
unanswered w before after true a not_so = absurd cc

pub unlinked : (w : Run) (before after : List ℕ) (b : Bool) (f : Option Frame) → b ≡ false → IsLineOutcome w w before after (frame_if b w.notes f) (Some NoSuchReplica)
unlinked w before after false f not_so = (refl, refl)
unlinked w before after true f not_so = absurd cc

pub unsent : (w : Run) (before after : List ℕ) (b : Bool) (f : Option Frame) → b ≡ true → f ≡ None → IsLineOutcome w w before after (frame_if b w.notes f) (Some NoSuchFrame)
unsent w before after true None is_so none = (refl, refl)
unsent w before after true (Some f) is_so none = absurd cc
unsent w before after false f is_so none = absurd cc

same_bytes : (xs ys : List ℕ) → Some xs ≡ Some ys → xs ≡ ys
same_bytes xs ys e = cc

pub framed : (w : Run) (before mid after bytes : List ℕ) (b : Bool) (f : Option Frame) → b ≡ true → bytes_of f ≡ Some bytes → mid ≡ before ++ answer_text (answers.Frame bytes) → after ≡ mid ++ 10 ∷ [] →
    IsLineOutcome w w before after (frame_if b w.notes f) None
framed w before mid after bytes true (Some f) is_so is put ended =
    (refl, line_text before mid after (answers.Frame (spelling f)) (put ∙ ap (λ (t : List ℕ). before ++ answer_text (answers.Frame t)) (sym (same_bytes (spelling f) bytes is))) ended)
framed w before mid after bytes true None is_so is put ended = absurd cc
framed w before mid after bytes false f is_so is put ended = absurd cc

-- ---- events

-- the newest notes are those that came since
newest : (old new count : ℕ) → new ≡ old + count → new - count ≡ old
newest old new count e = omega (arith, e)

taken_by : (old new : Run) (before after : List ℕ) (e : Event) (count : ℕ) (told : List Told) (why : Option StepRefusal) → refusal_of old.object (setting_of old.plan) old.notes e ≡ why → Takes old new e count →
    told ≡ map shown (reverse new.notes) → after ≡ before ++ answer_lines (map answer_of (drop (length told - count) told)) →
    IsLineOutcome old new before after (event_by old.object (setting_of old.plan) old.notes e why) None
taken_by old new before after e count told None is h are put =
    let len : length told ≡ length new.notes = ap length are ∙ length-map (reverse new.notes) shown ∙ length-reverse new.notes in
    let at : length told - count ≡ length old.notes = newest (length old.notes) (length told) count (len ∙ h.turns) in (
      h.run,
      put ∙ ap (λ (n : ℕ). before ++ answer_lines (map answer_of (drop n told))) at
          ∙ ap (λ (ts : List Told). before ++ answer_lines (map answer_of (drop (length old.notes) ts))) (are ∙ ap (λ (r : Run). map shown (reverse r.notes)) h.run),
    )
taken_by old new before after e count told (Some why) is h are put = absurd (let bad = sym is ∙ h.allowed in cc)

pub takes : (old new : Run) (before after : List ℕ) (e : Event) (count : ℕ) (told : List Told) → Takes old new e count → told ≡ map shown (reverse new.notes) →
    after ≡ before ++ answer_lines (map answer_of (drop (length told - count) told)) → IsLineOutcome old new before after (event_outcome old.object (setting_of old.plan) old.notes e) None
unfolding event_outcome
takes old new before after e count told h are put = taken_by old new before after e count told (refusal_of old.object (setting_of old.plan) old.notes e) refl h are put

refused_by : (old new : Run) (before after : List ℕ) (e : Event) (why : StepRefusal) (found : Option StepRefusal) → found ≡ Some why → new ≡ old →
    IsLineOutcome old new before after (event_by old.object (setting_of old.plan) old.notes e found) (Some (reason_of why))
refused_by old new before after e why (Some other) is same = (ap reason_of (let e : why ≡ other = cc in e), same)
refused_by old new before after e why None is same = absurd cc

refuses : (old new : Run) (before after : List ℕ) (e : Event) (why : StepRefusal) → Refused old new e why → IsLineOutcome old new before after (event_outcome old.object (setting_of old.plan) old.notes e) (Some (reason_of why))
unfolding event_outcome
refuses old new before after e why h = refused_by old new before after e why (refusal_of old.object (setting_of old.plan) old.notes e) h.0 h.1

-- a step that was refused, and not for want of memory
pub refuses_why : (old new : Run) (before after : List ℕ) (e : Event) (why : StepRefusal) → Steps old new e (Err why) → is_memory why ≡ false → IsLineOutcome old new before after (event_outcome old.object (setting_of old.plan) old.notes e) (Some (reason_of why))
refuses_why old new before after e step.NoSuchReplica h other = refuses old new before after e step.NoSuchReplica h
refuses_why old new before after e step.NoSuchFrame h other = refuses old new before after e step.NoSuchFrame h
refuses_why old new before after e step.BadCut h other = refuses old new before after e step.BadCut h
refuses_why old new before after e step.SentFull h other = refuses old new before after e step.SentFull h
refuses_why old new before after e (step.Issue why) h other = refuses old new before after e (step.Issue why) h
refuses_why old new before after e step.NoMemory h other = absurd cc

-- ---- equal states

open_and : (a b : Bool) → (a && b) ≡ true → (a ≡ true) × (b ≡ true)
open_and true b e = (refl, e)
open_and false b e = absurd cc

code_same : (a b : Gv) → same_code a b ≡ true → a ≡ b
code_same gnil gnil e = refl
code_same gnil (gnum n) e = absurd cc
code_same gnil (gcons c d) e = absurd cc
code_same (gnum m) gnil e = absurd cc
code_same (gnum m) (gnum n) e = ap gnum (eqb-true m n e)
code_same (gnum m) (gcons c d) e = absurd cc
code_same (gcons a b) gnil e = absurd cc
code_same (gcons a b) (gnum n) e = absurd cc
code_same (gcons a b) (gcons c d) e =
    let p = open_and (same_code a c) (same_code b d) e in
    ap (λ (x : Gv). gcons x b) (code_same a c p.0) ∙ ap (λ (x : Gv). gcons c x) (code_same b d p.1)

same_number : (n : ℕ) → (n == n) ≡ true
same_number n = grind (arith, nat_tests)

code_refl : (a : Gv) → same_code a a ≡ true
code_refl gnil = refl
code_refl (gnum n) = same_number n
code_refl (gcons a b) = rw (code_refl a, code_refl b) refl

same_bool : (a b : Bool) → (a ≡ true → b ≡ true) → (b ≡ true → a ≡ true) → a ≡ b
same_bool true b f g = sym (f refl)
same_bool false true f g = g refl
same_bool false false f g = refl

-- a test of equality is `equal_states`
pub equal_by : (b : Bool) (s t u v : State) → s ≡ u → t ≡ v → (IsTrue b ↔ (s ≡ t)) → b ≡ equal_states u v
unfolding equal_states
equal_by b s t u v su tv h =
    same_bool b (same_code (coded_state.code u) (coded_state.code v))
    (λ e. let same : u ≡ v = sym su ∙ h.0 e ∙ tv in ap (λ (x : State). same_code (coded_state.code u) (coded_state.code x)) (sym same) ∙ code_refl (coded_state.code u))
    (λ e. h.1 (su ∙ coded_state.inj u v (code_same (coded_state.code u) (coded_state.code v) e) ∙ sym tv))
