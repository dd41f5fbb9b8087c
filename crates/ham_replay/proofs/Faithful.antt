-- The run of a schedule is a run: each line that is answered adds the turns of some inputs, or none.
use Rattle.std.proofs.Common.{◌≡◌, ℕ, ◌+◌, ◌-◌, ◌≤◌, Bool, true, false, List, [], ◌∷◌, ◌++◌, length, Option, Some, None, Result, Ok, Err, inl, inr, refl, sym, ap, subst, ◌∙◌, arith}
use Rattle.std.specs.Prelude.{if◌then◌else◌, fold, slice_get}
use Rattle.std.proofs.lemmas.List.Sums.{fold-append}
use Rattle.std.proofs.lemmas.Option.{slice_get_cases}
use Rattle.ham_text.specs.Cuts.{lines_of}
use Rattle.ham_syntax.specs.declared.limits.TheConstants.{MAX_REPLICAS}
use Rattle.ham_syntax.specs.Objects.{Schema}
use Rattle.ham_plan.specs.Plans.{Plan}
use Rattle.ham_frame.specs.declared.frame.Frame.{Frame}
use Rattle.ham_turns.specs.Settings.{Setting, setting_of, rules_of}
use Rattle.ham_laws.specs.Constrained.{IsPlanned}
use Rattle.ham_runs.specs.Runs.{Note, IsRun}
use Rattle.ham_runs.specs.Next.{Input, after_input, run_of}
use Rattle.ham_runs.specs.Claims.{RunsAreFaithful, InputsGiveRuns}
use Rattle.ham_runs.specs.Headline.{IsFaithful}
use Rattle.ham_lines.specs.declared.fault.LineFault.{LineFault}
use Rattle.ham_lines.specs.declared.answer.Answer.{Answer}
use Rattle.ham_turns.specs.declared.event.Event.{Event}
use Rattle.ham_grammar.specs.declared.line.Line.{Line}
use Rattle.ham_grammar.specs.declared.line.Line.TheVariants.{Replicas, Act, Ask}
use Rattle.ham_grammar.specs.declared.line.Query.{Query}
use Rattle.ham_grammar.specs.declared.line.Query.TheVariants as queries
use Rattle.ham_grammar.specs.Lines.{IsReading, is_skipped}
use Rattle.ham_grammar.specs.Computed.{read_of}
use Rattle.ham_world.specs.declared.refusal.StepRefusal.{StepRefusal}
use Rattle.ham_world.specs.Worlds.{refusal_of, taken}
use Rattle.ham_replay.specs.Replays.{LineOutcome, Refuses, Answers, event_by, event_outcome, answer_if, frame_if, query_outcome, read_outcome, line_outcome, played_from, played_first, played_lines, played}
use Rattle.ham_replay.specs.Claims.{ArePlans, settings_of, setting_by, IsPlayedFaithfully, IsPlayedRun}

-- notes of a run that inputs give
pub record IsMade (o : Schema) (y : Setting) (notes : List Note) : Type 0 where
  pub inputs : List Input
  pub is : notes ≡ run_of (rules_of o) y inputs

none_made : (o : Schema) (y : Setting) → IsMade o y []
unfolding run_of
none_made o y = record { inputs = []; is = refl }

pub taken_made : (o : Schema) (y : Setting) (notes : List Note) (more : List Input) → IsMade o y notes → IsMade o y (taken o y notes more)
unfolding taken run_of
taken_made o y notes more h = record {
  inputs = h.inputs ++ more;
  is = ap (λ (ns : List Note). fold (after_input (rules_of o) y) ns more) h.is ∙ sym (fold-append (after_input (rules_of o) y) [] h.inputs more);
}

same_notes : (notes new : List Note) (told bs : List Answer) → Answers notes told ≡ Answers new bs → notes ≡ new
same_notes notes new told bs e = cc

module _ (o : Schema) (y : Setting) where
  after_event : (notes new : List Note) (e : Event) (told : List Answer) (why : Option StepRefusal) → event_by o y notes e why ≡ Answers new told → IsMade o y notes → IsMade o y new
  after_event notes new e told None turned h = subst (IsMade o y) (same_notes _ _ _ _ turned) (taken_made o y notes _ h)
  after_event notes new e told (Some why) turned h = absurd cc

  after_answer : (b : Bool) (notes new : List Note) (a : Answer) (told : List Answer) → answer_if b notes a ≡ Answers new told → notes ≡ new
  after_answer true notes new a told turned = same_notes _ _ _ _ turned
  after_answer false notes new a told turned = absurd cc

  after_frame : (b : Bool) (f : Option Frame) (notes new : List Note) (told : List Answer) → frame_if b notes f ≡ Answers new told → notes ≡ new
  after_frame true (Some f) notes new told turned = same_notes _ _ _ _ turned
  after_frame true None notes new told turned = absurd cc
  after_frame false f notes new told turned = absurd cc

  after_query : (notes new : List Note) (q : Query) (told : List Answer) → query_outcome o y notes q ≡ Answers new told → notes ≡ new
  unfolding query_outcome
  after_query notes new (queries.Show r c k) told turned = after_answer _ notes new _ told turned
  after_query notes new (queries.Rows r c) told turned = after_answer _ notes new _ told turned
  after_query notes new (queries.Log r) told turned = after_answer _ notes new _ told turned
  after_query notes new (queries.Verdict r g k) told turned = after_answer _ notes new _ told turned
  after_query notes new (queries.Sent f t) told turned = after_answer _ notes new _ told turned
  after_query notes new (queries.Frame f t k) told turned = after_frame _ _ notes new told turned
  after_query notes new (queries.Compare r s) told turned = after_answer _ notes new _ told turned

  after_read : (notes new : List Note) (found : Result Line LineFault) (told : List Answer) → read_outcome o y notes found ≡ Answers new told → IsMade o y notes → IsMade o y new
  unfolding event_outcome
  after_read notes new (Ok (Replicas n)) told turned h = absurd cc
  after_read notes new (Ok (Act e)) told turned h = after_event notes new e told (refusal_of o y notes e) turned h
  after_read notes new (Ok (Ask q)) told turned h = subst (IsMade o y) (after_query notes new q told turned) h
  after_read notes new (Err f) told turned h = absurd cc

  after_line : (b : Bool) (notes new : List Note) (found : Result Line LineFault) (told : List Answer) → (if b then Answers notes [] else read_outcome o y notes found) ≡ Answers new told → IsMade o y notes → IsMade o y new
  after_line true notes new found told turned h = subst (IsMade o y) (same_notes _ _ _ _ turned) h
  after_line false notes new found told turned h = after_read notes new found told turned h

  after_turn : (notes new : List Note) (l : List ℕ) (told : List Answer) → line_outcome o y notes l ≡ Answers new told → IsMade o y notes → IsMade o y new
  unfolding line_outcome
  after_turn notes new l told turned h = after_line (is_skipped l) notes new (read_of o l) told turned h

  played_by : (count number : ℕ) (notes : List Note) (l : List ℕ) (ls : List (List ℕ)) (t : LineOutcome) → line_outcome o y notes l ≡ t →
      (played_from o y count number notes (l ∷ ls)).notes ≡ (elim t [ Refuses why ↦ notes | Answers new told ↦ (played_from o y count (number + 1) new ls).notes ])
  unfolding played_from
  played_by count number notes l ls (Refuses why) e = rw (played_from, e) refl
  played_by count number notes l ls (Answers new told) e = rw (played_from, e) refl

  after_by : (count number : ℕ) (notes : List Note) (l : List ℕ) (ls : List (List ℕ)) (t : LineOutcome) → line_outcome o y notes l ≡ t → IsMade o y notes →
      ((new : List Note) → IsMade o y new → IsMade o y (played_from o y count (number + 1) new ls).notes) → IsMade o y (played_from o y count number notes (l ∷ ls)).notes
  after_by count number notes l ls (Refuses why) e h rest = subst (IsMade o y) (sym (played_by count number notes l ls (Refuses why) e)) h
  after_by count number notes l ls (Answers new told) e h rest = subst (IsMade o y) (sym (played_by count number notes l ls (Answers new told) e)) (rest new (after_turn notes new l told e h))

  after_lines : (count number : ℕ) (notes : List Note) (ls : List (List ℕ)) → IsMade o y notes → IsMade o y (played_from o y count number notes ls).notes
  unfolding played_from
  after_lines count number notes [] h = h
  after_lines count number notes (l ∷ ls) h = after_by count number notes l ls (line_outcome o y notes l) refl h (λ new k. after_lines count (number + 1) new ls k)

  replicas_by : (count number : ℕ) (notes : List Note) (l : List ℕ) (ls : List (List ℕ)) (t : LineOutcome) → line_outcome o y notes l ≡ t →
      ((new : List Note) → (played_from o y count (number + 1) new ls).replicas ≡ Some count) → (played_from o y count number notes (l ∷ ls)).replicas ≡ Some count
  unfolding played_from
  replicas_by count number notes l ls (Refuses why) e rest = rw (played_from, e) refl
  replicas_by count number notes l ls (Answers new told) e rest = rw (played_from, e) (rest new)

  replicas_are : (count number : ℕ) (notes : List Note) (ls : List (List ℕ)) → (played_from o y count number notes ls).replicas ≡ Some count
  unfolding played_from
  replicas_are count number notes [] = refl
  replicas_are count number notes (l ∷ ls) = replicas_by count number notes l ls (line_outcome o y notes l) refl (λ new. replicas_are count (number + 1) new ls)

-- what was played in a world of n replicas is made in its setting, and there are 1 to 8 of them
pub record IsMadeOf (o : Schema) (settings : ℕ → Setting) (notes : List Note) (n : ℕ) : Type 0 where
  pub some : 1 ≤ n
  pub few : n ≤ MAX_REPLICAS
  pub made : IsMade o (settings n) notes

same_count : (m n : ℕ) → Some m ≡ Some n → m ≡ n
same_count m n e = cc

module _ (o : Schema) (settings : ℕ → Setting) (readings : (bytes : List ℕ) → IsReading o bytes (read_of o bytes)) where
  first_by : (number : ℕ) (l : List ℕ) (ls : List (List ℕ)) (found : Result Line LineFault) → read_of o l ≡ found → (n : ℕ) → (played_first o settings number ls found).replicas ≡ Some n →
      IsMadeOf o settings (played_first o settings number ls found).notes n
  first_by number l ls (Ok (Replicas m)) e n is =
      let within = subst (IsReading o l) e (readings l) in
      let same : m ≡ n = same_count m n (sym (replicas_are o (settings m) m (number + 1) [] ls) ∙ is) in
      subst (IsMadeOf o settings (played_from o (settings m) m (number + 1) [] ls).notes) same
      (record { some = omega (arith, within.is_printable.0); few = within.is_printable.1; made = after_lines o (settings m) m (number + 1) [] ls (none_made o (settings m)) })
  first_by number l ls (Ok (Act a)) e n is = absurd cc
  first_by number l ls (Ok (Ask q)) e n is = absurd cc
  first_by number l ls (Err f) e n is = absurd cc

  either_by : (b : Bool) (number : ℕ) (l : List ℕ) (ls : List (List ℕ)) (n : ℕ) →
      ((n : ℕ) → (played_lines o settings (number + 1) ls).replicas ≡ Some n → IsMadeOf o settings (played_lines o settings (number + 1) ls).notes n) →
      (if b then played_lines o settings (number + 1) ls else played_first o settings number ls (read_of o l)).replicas ≡ Some n →
      IsMadeOf o settings (if b then played_lines o settings (number + 1) ls else played_first o settings number ls (read_of o l)).notes n
  either_by true number l ls n rest is = rest n is
  either_by false number l ls n rest is = first_by number l ls (read_of o l) refl n is

  all_made : (number : ℕ) (ls : List (List ℕ)) (n : ℕ) → (played_lines o settings number ls).replicas ≡ Some n → IsMadeOf o settings (played_lines o settings number ls).notes n
  unfolding played_lines
  all_made number [] n is = absurd cc
  all_made number (l ∷ ls) n is = either_by (is_skipped l) number l ls n (all_made (number + 1) ls) is

there : (plans : List Plan) (n : ℕ) → length plans ≡ MAX_REPLICAS → 1 ≤ n → n ≤ MAX_REPLICAS → (p : Plan) × (slice_get plans (n - 1) ≡ Some p)
there plans n eight some few = elim ((slice_get_cases plans (n - 1)).1) [
  | inl h ↦ (h.0, h.2)
  | inr h ↦ absurd (omega (arith, h.0))
]

pub all_runs : ((o : Schema) (p : Plan) → IsPlanned o p → InputsGiveRuns (rules_of o) (setting_of p)) → ((o : Schema) (bytes : List ℕ) → IsReading o bytes (read_of o bytes)) →
    (o : Schema) (plans : List Plan) (schedule : List ℕ) → ArePlans o plans → IsPlayedRun o plans (played o (settings_of plans) schedule)
unfolding settings_of
all_runs give readings o plans schedule are n is =
    let h = all_made o (settings_of plans) (readings o) 1 (lines_of schedule) n is in
    let p = there plans n are.eight h.some h.few in
    let planned = are.planned n p.0 h.some h.few p.1 in
    let same : settings_of plans n ≡ setting_of p.0 = ap setting_by p.1 in
    let run : IsRun (rules_of o) (setting_of p.0) (played o (settings_of plans) schedule).notes =
    subst (IsRun (rules_of o) (setting_of p.0)) (sym (h.made.is ∙ ap (λ (y : Setting). run_of (rules_of o) y h.made.inputs) same)) ((give o p.0 planned).0 h.made.inputs) in
    record {
      some = h.some;
      few = h.few;
      plan = p.0;
      planned = planned;
      replicas = are.replicas n p.0 h.some h.few p.1;
      setting = same;
      run = subst (λ (y : Setting). IsRun (rules_of o) y (played o (settings_of plans) schedule).notes) (sym same) run;
    }

pub faithful : ((o : Schema) (p : Plan) → IsPlanned o p → InputsGiveRuns (rules_of o) (setting_of p)) → ((o : Schema) (p : Plan) → IsPlanned o p → RunsAreFaithful (rules_of o) (setting_of p)) →
    ((o : Schema) (bytes : List ℕ) → IsReading o bytes (read_of o bytes)) →
    (o : Schema) (plans : List Plan) (schedule : List ℕ) → ArePlans o plans → IsPlayedFaithfully o (settings_of plans) (played o (settings_of plans) schedule)
faithful give law readings o plans schedule are n is =
    let h = all_runs give readings o plans schedule are n is in
    let run = subst (λ (y : Setting). IsRun (rules_of o) y (played o (settings_of plans) schedule).notes) h.setting h.run in
    subst (λ (y : Setting). IsFaithful (rules_of o) y (played o (settings_of plans) schedule).notes) (sym h.setting) (law o h.plan h.planned _ run)
