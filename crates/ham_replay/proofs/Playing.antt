-- A schedule that is played line by line.
use Rattle.std.proofs.Common.{◌≡◌, ℕ, ◌+◌, ◌≤◌, List, [], ◌∷◌, ◌++◌, length, Bool, true, false, Option, Some, None, Result, Ok, Err, refl, sym, ap, subst, ◌∙◌, arith}
use Rattle.std.specs.Prelude.{if◌then◌else◌}
use Rattle.std.proofs.lemmas.List.{append-nil}
use Rattle.ham_bytes.specs.Outside.{TakesSome}
use Rattle.ham_bytes.specs.Gathered.{Carries}
use Rattle.ham_bytes.proofs.Gathering.{Sending, Sending-start, Sending-write, Sending-fault, Sending-end}
use Rattle.ham_text.specs.Cuts.{lines_of}
use Rattle.ham_syntax.specs.Objects.{Schema}
use Rattle.ham_plan.specs.Plans.{Plan}
use Rattle.ham_turns.specs.Settings.{Setting, setting_of}
use Rattle.ham_lines.specs.declared.answer.Answer.TheVariants as answers
use Rattle.ham_grammar.specs.Lines.{is_skipped}
use Rattle.ham_grammar.specs.Computed.{read_of}
use Rattle.ham_world.specs.Worlds.{Run, begun}
use Rattle.ham_replay.specs.declared.end.LineRefusal.{LineRefusal}
use Rattle.ham_replay.specs.declared.end.LineRefusal.TheVariants.{NotALine}
use Rattle.ham_replay.specs.declared.end.Stop.{Stop}
use Rattle.ham_replay.specs.declared.end.Stop.TheVariants.{Sink, Memory}
use Rattle.ham_replay.specs.Ends.{IsLineOutcome, Gathers, StopsWith, left}
use Rattle.ham_replay.specs.Replays.{LineOutcome, Refuses, Answers, Played, line_outcome, answer_line, refused_at, ended, then_played, played_from, played_made, played_first, played_lines}

-- ---- one line more of what is played

answered_by : (r new : Run) (number : ℕ) (l : List ℕ) (ls : List (List ℕ)) (text : List ℕ) (t : LineOutcome) → line_outcome r.object (setting_of r.plan) r.notes l ≡ t → IsLineOutcome r new [] text t None →
    left r number (l ∷ ls) ≡ then_played text (left new (number + 1) ls)
unfolding played_from
answered_by r new number l ls text (Answers notes told) e h = rw (played_from, e)
    (ap (λ (t : List ℕ). then_played t (left (record r { notes = notes }) (number + 1) ls)) (sym h.1)
    ∙ ap (λ (x : Run). then_played text (left x (number + 1) ls)) (sym h.0))
answered_by r new number l ls text (Refuses why) e h = absurd h

refused_by : (r new : Run) (number : ℕ) (l : List ℕ) (ls : List (List ℕ)) (text : List ℕ) (why : LineRefusal) (t : LineOutcome) → line_outcome r.object (setting_of r.plan) r.notes l ≡ t → IsLineOutcome r new [] text t (Some why) →
    left r number (l ∷ ls) ≡ refused_at (Some r.plan.replicas) r.notes (record { line = number; why = why })
unfolding played_from
refused_by r new number l ls text why (Refuses reason) e h = rw (played_from, e) (ap (λ (x : LineRefusal). refused_at (Some r.plan.replicas) r.notes (record { line = number; why = x })) (sym h.0))
refused_by r new number l ls text why (Answers notes told) e h = absurd h

going_by : (r new : Run) (text : List ℕ) (t : LineOutcome) → IsLineOutcome r new [] text t None → r.stopped ≡ false → new.stopped ≡ false
going_by r new text (Answers notes told) h going = ap (λ (x : Run). x.stopped) h.0 ∙ going
going_by r new text (Refuses why) h going = absurd h

pub still_going : (r new : Run) (l text : List ℕ) → IsLineOutcome r new [] text (line_outcome r.object (setting_of r.plan) r.notes l) None → r.stopped ≡ false → new.stopped ≡ false
still_going r new l text h going = going_by r new text (line_outcome r.object (setting_of r.plan) r.notes l) h going

-- into an empty text
pub turned : (r new : Run) (before text : List ℕ) (t : LineOutcome) (found want : Option LineRefusal) → before ≡ [] → found ≡ want → IsLineOutcome r new before text t found → IsLineOutcome r new [] text t want
turned r new before text t found want b f h = subst (λ (x : List ℕ). IsLineOutcome r new x text t want) b (subst (λ (x : Option LineRefusal). IsLineOutcome r new before text t x) f h)

-- the lines that are left, by the first of them
pub next_answered : (number : ℕ) (r new : Run) (rest line after text : List ℕ) → lines_of rest ≡ line ∷ lines_of after → IsLineOutcome r new [] text (line_outcome r.object (setting_of r.plan) r.notes line) None →
    left r number (lines_of rest) ≡ then_played text (left new (number + 1) (lines_of after))
next_answered number r new rest line after text e h = ap (left r number) e ∙ answered_by r new number line (lines_of after) text (line_outcome r.object (setting_of r.plan) r.notes line) refl h

pub next_refused : (number : ℕ) (r new : Run) (rest line after text : List ℕ) (why : LineRefusal) → lines_of rest ≡ line ∷ lines_of after → IsLineOutcome r new [] text (line_outcome r.object (setting_of r.plan) r.notes line) (Some why) →
    left r number (lines_of rest) ≡ refused_at (Some r.plan.replicas) r.notes (record { line = number; why = why })
next_refused number r new rest line after text why e h = ap (left r number) e ∙ refused_by r new number line (lines_of after) text why (line_outcome r.object (setting_of r.plan) r.notes line) refl h

ended_by : (number : ℕ) (r : Run) → left r number [] ≡ ended (Some r.plan.replicas) r.notes
unfolding played_from
ended_by number r = refl

no_lines : (rest : List ℕ) → length rest ≡ 0 → lines_of rest ≡ []
unfolding lines_of
no_lines [] e = refl
no_lines (b ∷ bs) e = absurd (omega arith)

-- where no bytes are left, no lines are
pub at_end : (number : ℕ) (r : Run) (rest : List ℕ) → length rest ≡ 0 → left r number (lines_of rest) ≡ ended (Some r.plan.replicas) r.notes
at_end number r rest e = ap (left r number) (no_lines rest e) ∙ ended_by number r

-- ---- what was sent so far, and what is left

pub record Playing (before now : Option (List ℕ)) (held holds : List ℕ) (faults faults_now : ℕ) (whole rest : Played) : Type 0 where
  pub sending : Sending before (held ++ whole.text) now holds rest.text
  pub refused : whole.refused ≡ rest.refused
  pub later : faults ≤ faults_now

pub begins : (before : Option (List ℕ)) (held : List ℕ) (faults : ℕ) (whole : Played) → Playing before before held held faults faults whole whole
begins before held faults whole = record { sending = Sending-start before held whole.text; refused = refl; later = omega arith }

-- a text more was sent
pub goes_on : (before mid now : Option (List ℕ)) (held holds holds_now : List ℕ) (faults faults_mid faults_now : ℕ) (whole rest rest_now : Played) (text : List ℕ)
    → Playing before mid held holds faults faults_mid whole rest → rest ≡ then_played text rest_now → Carries mid (holds ++ text) now holds_now → faults_mid ≤ faults_now
    → Playing before now held holds_now faults faults_now whole rest_now
goes_on before mid now held holds holds_now faults faults_mid faults_now whole rest rest_now text p e put later = record {
  sending = Sending-write before mid now (held ++ whole.text) holds holds_now rest.text text rest_now.text p.sending put (ap (λ (q : Played). q.text) e);
  refused = p.refused ∙ ap (λ (q : Played). q.refused) e;
  later = omega (arith, p.later);
}

-- ---- how it ends

takes_none : (mid : Option (List ℕ)) (text : List ℕ) → TakesSome mid mid text
takes_none None text = tt
takes_none (Some x) text = (0, omega arith, ap Some (sym (append-nil x)))

-- nothing more was put
pub stops : (before mid : Option (List ℕ)) (held holds : List ℕ) (faults faults_mid : ℕ) (whole rest : Played) → Playing before mid held holds faults faults_mid whole rest → TakesSome before mid (held ++ whole.text)
stops before mid held holds faults faults_mid whole rest p =
    Sending-fault before mid mid (held ++ whole.text) holds rest.text rest.text [] p.sending (takes_none mid (holds ++ rest.text)) (sym (append-nil rest.text))

-- a front of a text was put, with which what is left begins
pub stops_in : (before mid now : Option (List ℕ)) (held holds : List ℕ) (faults faults_mid : ℕ) (whole rest rest_now : Played) (text : List ℕ)
    → Playing before mid held holds faults faults_mid whole rest → rest ≡ then_played text rest_now → TakesSome mid now (holds ++ text) → TakesSome before now (held ++ whole.text)
stops_in before mid now held holds faults faults_mid whole rest rest_now text p e put =
    Sending-fault before mid now (held ++ whole.text) holds rest.text text rest_now.text p.sending put (ap (λ (q : Played). q.text) e)

last_sent : (before mid now : Option (List ℕ)) (held holds holds_now : List ℕ) (faults faults_mid : ℕ) (whole rest : Played) (text : List ℕ) → Playing before mid held holds faults faults_mid whole rest → rest.text ≡ text → Carries mid (holds ++ text) now holds_now → Carries before (held ++ whole.text) now holds_now
last_sent before mid now held holds holds_now faults faults_mid whole rest text p e put =
    Sending-end before now (held ++ whole.text) holds_now (Sending-write before mid now (held ++ whole.text) holds holds_now rest.text text [] p.sending put (e ∙ sym (append-nil text)))

-- what is left was sent, or cut short
pub finish : {A : Type 0} (before mid now : Option (List ℕ)) (held holds holds_now : List ℕ) (faults faults_mid : ℕ) (whole rest : Played) (text : List ℕ) (result : Result A Stop)
    → Playing before mid held holds faults faults_mid whole rest → rest.text ≡ text → Gathers mid holds now holds_now text result → Gathers before held now holds_now whole.text result
finish before mid now held holds holds_now faults faults_mid whole rest text (Ok value) p e put = last_sent before mid now held holds holds_now faults faults_mid whole rest text p e put
finish before mid now held holds holds_now faults faults_mid whole rest text (Err stop) p e put =
    Sending-fault before mid now (held ++ whole.text) holds rest.text text [] p.sending put (e ∙ sym (append-nil text))

-- the same from what was before, and of the same text
pub gathers_as : {A : Type 0} (before mid now : Option (List ℕ)) (held holds holds_now whole text : List ℕ) (result : Result A Stop)
    → mid ≡ before → holds ≡ held → whole ≡ text → Gathers mid holds now holds_now text result → Gathers before held now holds_now whole result
gathers_as before mid now held holds holds_now whole text result m h t put = rw (sym m, sym h, t) put

-- the count rose no earlier
pub stops_after : {A : Type 0} (before mid now : ℕ) (result : Result A Stop) → before ≤ mid → StopsWith mid now result → StopsWith before now result
stops_after before mid now (Ok value) le h = omega (arith, le, h)
stops_after before mid now (Err Sink) le h = (omega (arith, le, h.0), omega (arith, le, h.1))
stops_after before mid now (Err Memory) le h = omega (arith, le, h)

-- ---- the first line

module _ (o : Schema) (settings : ℕ → Setting) where
  pub next_skipped : (number : ℕ) (rest line after : List ℕ) → lines_of rest ≡ line ∷ lines_of after → is_skipped line ≡ true → played_lines o settings number (lines_of rest) ≡ played_lines o settings (number + 1) (lines_of after)
  unfolding played_lines
  next_skipped number rest line after e skipped = ap (played_lines o settings number) e ∙ ap (λ (b : Bool). if b then played_lines o settings (number + 1) (lines_of after) else played_first o settings number (lines_of after) (read_of o line)) skipped

  pub next_first : (number : ℕ) (rest line after : List ℕ) → lines_of rest ≡ line ∷ lines_of after → is_skipped line ≡ false → played_lines o settings number (lines_of rest) ≡ played_first o settings number (lines_of after) (read_of o line)
  unfolding played_lines
  next_first number rest line after e first = ap (played_lines o settings number) e ∙ ap (λ (b : Bool). if b then played_lines o settings (number + 1) (lines_of after) else played_first o settings number (lines_of after) (read_of o line)) first

  none_left : (number : ℕ) → played_lines o settings number [] ≡ refused_at None [] (record { line = number; why = NotALine })
  unfolding played_lines
  none_left number = refl

  pub no_first : (number : ℕ) (rest : List ℕ) → length rest ≡ 0 → played_lines o settings number (lines_of rest) ≡ refused_at None [] (record { line = number; why = NotALine })
  no_first number rest e = ap (played_lines o settings number) (no_lines rest e) ∙ none_left number

  -- the world was made
  pub made_left : (number n : ℕ) (p : Plan) (world : Run) (ls : List (List ℕ)) → world ≡ begun o p → p.replicas ≡ n → settings n ≡ setting_of p →
      played_made o settings number n ls ≡ then_played (answer_line (answers.Replicas n)) (left world (number + 1) ls)
  made_left number n p world ls made replicas setting =
      ap (λ (y : Setting). then_played (answer_line (answers.Replicas n)) (played_from o y n (number + 1) [] ls)) setting
      ∙ ap (λ (m : ℕ). then_played (answer_line (answers.Replicas n)) (played_from o (setting_of p) m (number + 1) [] ls)) (sym replicas)
      ∙ ap (λ (r : Run). then_played (answer_line (answers.Replicas n)) (left r (number + 1) ls)) (sym made)
