-- A script, played line by line.
use Rattle.std.proofs.Common.{◌≡◌, ℕ, zero, suc, ◌+◌, ◌-◌, ◌^◌, ◌<◌, ◌≤◌, Bool, true, false, ◌&&◌, nat_le, nat_lt, List, [], ◌∷◌, ◌++◌, length, map, Option, Some, None, Result, Ok, Err, refl, sym, ap, subst, ◌∙◌, arith, append_assoc, append-nil, lt-ltb, le-leb}
use Rattle.std.specs.Prelude.{if◌then◌else◌, codes}
use Rattle.std.specs.List.{AllByRecursion, flat_map, range_with_len}
use Rattle.ham_text.specs.Cuts.{lines_of, words_of}
use Rattle.ham_text.specs.Written.{ended}
use Rattle.ham_syntax.specs.declared.limits.TheConstants.{MAX_REPLICAS}
use Rattle.ham_syntax.specs.Objects.{Schema}
use Rattle.ham_syntax.specs.Checked.{IsChecked}
use Rattle.ham_turns.specs.Settings.{Setting}
use Rattle.ham_runs.specs.Runs.{Note}
use Rattle.ham_runs.specs.Next.{is_replica}
use Rattle.ham_lines.specs.declared.fault.LineFault.{LineFault}
use Rattle.ham_lines.specs.declared.answer.Answer.{Answer}
use Rattle.ham_turns.specs.declared.event.Event.{Event}
use Rattle.ham_turns.specs.declared.event.Event.TheVariants as events
use Rattle.ham_grammar.specs.declared.line.Line.{Line}
use Rattle.ham_grammar.specs.declared.line.Line.TheVariants.{Replicas, Act, Ask}
use Rattle.ham_grammar.specs.declared.line.Query.{Query}
use Rattle.ham_grammar.specs.declared.line.Query.TheVariants as queries
use Rattle.ham_grammar.specs.Lines.{Spells, IsPrintable, IsWritten, written, written_words, printed}
use Rattle.ham_grammar.specs.Lines.{is_skipped, are_skipped}
use Rattle.ham_grammar.specs.Computed.{read_of}
use Rattle.ham_grammar.specs.Typed.{IsTypedLine}
use Rattle.ham_grammar.proofs.Spelling.{line_words}
use Rattle.ham_world.specs.declared.refusal.StepRefusal.{StepRefusal}
use Rattle.ham_world.specs.Worlds.{refusal_of, taken, inputs_of}
use Rattle.ham_replay.specs.Replays.{LineOutcome, Refuses, Answers, Played, event_by, event_outcome, answer_if, answers_since, query_outcome, read_outcome, line_outcome, then_played, answer_lines, played_from, played_made, played_first, played_lines, played}
use Rattle.ham_bulk.specs.Scripts.{Script, generated}
use Rattle.ham_bulk.specs.ScriptTexts.{script_text, script_lines, last_lines, line_of, event_line as event_text, compare_line as compare_text, others}
use Rattle.ham_bulk.specs.Scripted.{AreTaken, AreSpelled, IsPlayedTo, ScriptsReplay}
use Rattle.ham_bulk.proofs.Lined.{IsLine, joined_line, line_first, none_line}
use Rattle.ham_bulk.proofs.Taken.{generated_taken}

-- what laws of lines say
abbrev pub SpelledAreRead : Type 0
SpelledAreRead = (o : Schema) → IsChecked o → (l : Line) (bytes : List ℕ) → Spells o l bytes → read_of o bytes ≡ Ok l

abbrev pub PrintedAreSpelled : Type 0
PrintedAreSpelled = (o : Schema) → IsChecked o → (l : Line) → IsPrintable o l → IsTypedLine l → Spells o l (printed o l)

-- ---- lines that are printed

printed_line : (o : Schema) (l : Line) → IsWritten (written o l) → IsLine (printed o l)
unfolding printed
printed_line o l h = joined_line (written_words (written o l)) (line_words (written o l) h)

event_words : (o : Schema) (e : Event) → are_skipped (written_words (written o (Act e))) ≡ false
event_words o (events.Issue r a) = refl
event_words o (events.Deliver f t k) = refl
event_words o (events.Pieces f t k l cuts) = refl
event_words o (events.Torn f t k p) = refl
event_words o (events.Tick r) = refl

query_words : (o : Schema) (q : Query) → are_skipped (written_words (written o (Ask q))) ≡ false
query_words o (queries.Show r c k) = refl
query_words o (queries.Rows r c) = refl
query_words o (queries.Log r) = refl
query_words o (queries.Verdict r g k) = refl
query_words o (queries.Sent f t) = refl
query_words o (queries.Frame f t k) = refl
query_words o (queries.Compare r s) = refl

some_words : (o : Schema) (l : Line) → are_skipped (written_words (written o l)) ≡ false
some_words o (Replicas n) = refl
some_words o (Act e) = event_words o e
some_words o (Ask q) = query_words o q

not_skipped : (o : Schema) (l : Line) (bytes : List ℕ) → Spells o l bytes → is_skipped bytes ≡ false
not_skipped o l bytes h = ap are_skipped h.spelling.words ∙ some_words o l

module _ (spelled : SpelledAreRead) (print : PrintedAreSpelled) (o : Schema) (checked : IsChecked o) (y : Setting) (count : ℕ) where
  turn_by : (notes : List Note) (l : Line) (bytes : List ℕ) → Spells o l bytes → line_outcome o y notes bytes ≡ read_outcome o y notes (Ok l)
  unfolding line_outcome
  turn_by notes l bytes h =
      ap (λ (b : Bool). if b then Answers notes [] else read_outcome o y notes (read_of o bytes)) (not_skipped o l bytes h)
      ∙ ap (read_outcome o y notes) (spelled o checked l bytes h)

  event_turned : (notes : List Note) (e : Event) → refusal_of o y notes e ≡ None → event_outcome o y notes e ≡ Answers (taken o y notes (inputs_of e)) (answers_since notes (taken o y notes (inputs_of e)))
  unfolding event_outcome
  event_turned notes e is = ap (event_by o y notes e) is

  -- the rest is played to its end from these notes
  abbrev pub IsPlayedFrom : List Note → List (List ℕ) → List Note → Type 0
  IsPlayedFrom notes ls end = (number : ℕ) → IsPlayedTo (played_from o y count number notes ls) count end

  one_more : (notes new end : List Note) (l : List ℕ) (ls : List (List ℕ)) (told : List Answer) → line_outcome o y notes l ≡ Answers new told → IsPlayedFrom new ls end → IsPlayedFrom notes (l ∷ ls) end
  unfolding played_from
  one_more notes new end l ls told e h number =
      let same : played_from o y count number notes (l ∷ ls) ≡ then_played (answer_lines told) (played_from o y count (number + 1) new ls) = rw (played_from, e) refl in
      let k = h (number + 1) in
      record { whole = ap (λ (p : Played). p.refused) same ∙ k.whole; run = ap (λ (p : Played). p.notes) same ∙ k.run; of = ap (λ (p : Played). p.replicas) same ∙ k.of }

  at_end : (notes : List Note) → IsPlayedFrom notes [] notes
  unfolding played_from
  at_end notes number = record { whole = refl; run = refl; of = refl }

  abbrev event_line : Event → List ℕ
  event_line e = printed o (Act e)

  -- ---- comparisons

  in_range : (r : ℕ) → 1 ≤ r → r ≤ y.replicas → is_replica y r ≡ true
  in_range r some few = rw (lt-ltb 0 r (omega arith), le-leb r y.replicas few) refl

  answer_true : (b : Bool) (notes : List Note) (a : Answer) → b ≡ true → answer_if b notes a ≡ Answers notes (a ∷ [])
  answer_true true notes a h = refl
  answer_true false notes a h = absurd cc

  pub record IsAnswered (notes : List Note) (r : ℕ) : Type 0 where
    pub answers : List Answer
    pub turned : query_outcome o y notes (queries.Compare 1 r) ≡ Answers notes answers

  compared : (notes : List Note) (r : ℕ) → 1 ≤ r → r ≤ y.replicas → IsAnswered notes r
  unfolding query_outcome
  compared notes r some few =
      record { answers = _; turned = answer_true (is_replica y 1 && is_replica y r) notes _ (rw (in_range 1 (omega arith) (omega (arith, some, few)), in_range r some few) refl) }

  compare_spelled : (r : ℕ) → r ≤ 8 → Spells o (Ask (queries.Compare 1 r)) (printed o (Ask (queries.Compare 1 r)))
  compare_spelled r few = print o checked (Ask (queries.Compare 1 r)) tt (omega arith, (omega arith, tt))

  abbrev compare_line : ℕ → List ℕ
  compare_line r = printed o (Ask (queries.Compare 1 r))

  compares : (notes : List Note) (first many : ℕ) → 1 ≤ first → first + many ≤ y.replicas + 1 → y.replicas ≤ 8 → IsPlayedFrom notes (map compare_line (range_with_len first many)) notes
  compares notes first zero some within few = at_end notes
  compares notes first (suc many) some within few =
      let a = compared notes first some (omega (arith, within)) in
      one_more notes notes notes (compare_line first) (map compare_line (range_with_len (first + 1) many)) a.answers
      (turn_by notes (Ask (queries.Compare 1 first)) (compare_line first) (compare_spelled first (omega (arith, within, few))) ∙ a.turned)
      (compares notes (first + 1) many (omega arith) (omega (arith, within)) few)

  -- ---- events

  events_played : (notes end : List Note) (es : List Event) (ls : List (List ℕ)) → AreTaken o y notes es end → AreSpelled o es → IsPlayedFrom end ls end → IsPlayedFrom notes (map event_line es ++ ls) end
  events_played notes end [] ls h k rest = subst (λ (ns : List Note). IsPlayedFrom ns ls end) h rest
  events_played notes end (e ∷ es) ls h k rest =
      one_more notes (taken o y notes (inputs_of e)) end (event_line e) (map event_line es ++ ls) (answers_since notes (taken o y notes (inputs_of e)))
      (turn_by notes (Act e) (event_line e) k.0 ∙ event_turned notes e h.0)
      (events_played (taken o y notes (inputs_of e)) end es ls h.1 k.1 rest)

  -- ---- the text, cut into lines

  events_lined : (es : List Event) (rest : List ℕ) → AreSpelled o es → lines_of (flat_map (event_text o) es ++ rest) ≡ map event_line es ++ lines_of rest
  events_lined [] rest h = refl
  events_lined (e ∷ es) rest h =
      ap lines_of (append_assoc (ended (event_line e)) (flat_map (event_text o) es) rest)
      ∙ line_first (event_line e) (flat_map (event_text o) es ++ rest) (printed_line o (Act e) h.0.spelling.is_written)
      ∙ ap (λ (ls : List (List ℕ)). event_line e ∷ ls) (events_lined es rest h.1)

  compares_lined : (first many : ℕ) → first + many ≤ 9 → lines_of (flat_map (compare_text o) (range_with_len first many)) ≡ map compare_line (range_with_len first many)
  compares_lined first zero within = none_line
  compares_lined first (suc many) within =
      line_first (compare_line first) (flat_map (compare_text o) (range_with_len (first + 1) many)) (printed_line o (Ask (queries.Compare 1 first)) (compare_spelled first (omega (arith, within))).spelling.is_written)
      ∙ ap (λ (ls : List (List ℕ)). compare_line first ∷ ls) (compares_lined (first + 1) many (omega (arith, within)))

-- ---- the whole

module _ (spelled : SpelledAreRead) (print : PrintedAreSpelled) (o : Schema) (checked : IsChecked o) (settings : ℕ → Setting) (n : ℕ) (some : 1 ≤ n) (few : n ≤ MAX_REPLICAS) (replicas : (settings n).replicas ≡ n) where
  replicas_spelled : Spells o (Replicas n) (printed o (Replicas n))
  replicas_spelled = print o checked (Replicas n) (omega (arith, some), few) (omega (arith, few))

  abbrev all_lines : Script → List (List ℕ)
  all_lines s = map (λ e. printed o (Act e)) s.events ++ map (λ r. printed o (Ask (queries.Compare 1 r))) (others n)

  lined : (s : Script) → AreSpelled o s.events → s.refused ≡ None → lines_of (script_lines o n s) ≡ printed o (Replicas n) ∷ all_lines s
  lined s h none =
      line_first (printed o (Replicas n)) (flat_map (event_text o) s.events ++ last_lines o n s.events s.refused) (printed_line o (Replicas n) replicas_spelled.spelling.is_written)
      ∙ ap (λ (ls : List (List ℕ)). printed o (Replicas n) ∷ ls)
      (events_lined spelled print o checked (settings n) n s.events (last_lines o n s.events s.refused) h
      ∙ ap (λ (ls : List (List ℕ)). map (λ e. printed o (Act e)) s.events ++ ls)
      (ap (λ (r : Option StepRefusal). lines_of (last_lines o n s.events r)) none ∙ compares_lined spelled print o checked (settings n) n 2 (n - 1) (omega (arith, some, few))))

  made_by : (l : List ℕ) (ls : List (List ℕ)) → Spells o (Replicas n) l → played_lines o settings 1 (l ∷ ls) ≡ played_made o settings 1 n ls
  unfolding played_lines
  made_by l ls h =
      ap (λ (b : Bool). if b then played_lines o settings 2 ls else played_first o settings 1 ls (read_of o l)) (not_skipped o (Replicas n) l h)
      ∙ ap (played_first o settings 1 ls) (spelled o checked (Replicas n) l h)

  plays : (s : Script) → AreTaken o (settings n) [] s.events s.notes → AreSpelled o s.events → s.refused ≡ None → IsPlayedTo (played o settings (script_lines o n s)) n s.notes
  plays s h k none =
      let same : played o settings (script_lines o n s) ≡ played_made o settings 1 n (all_lines s) =
      ap (played_lines o settings 1) (lined s k none) ∙ made_by (printed o (Replicas n)) (all_lines s) replicas_spelled in
      let compare = compares spelled print o checked (settings n) n s.notes 2 (n - 1) (omega arith) (rw replicas (omega (arith, some))) (rw replicas few) in
      let p = events_played spelled print o checked (settings n) n [] s.notes s.events (map (λ r. printed o (Ask (queries.Compare 1 r))) (others n)) h k compare 2 in
      record { whole = ap (λ (p : Played). p.refused) same ∙ p.whole; run = ap (λ (p : Played). p.notes) same ∙ p.run; of = ap (λ (p : Played). p.replicas) same ∙ p.of }

pub scripts_replay : SpelledAreRead → PrintedAreSpelled → ScriptsReplay
scripts_replay spelled print o settings n seed rounds checked some few replicas none are =
    let s = generated o (settings n) seed rounds in
    let p = plays spelled print o checked settings n some few replicas s (generated_taken o (settings n) seed rounds) are none in
    subst (λ (m : ℕ). IsPlayedTo (played o settings (script_lines o m s)) n s.notes) (sym replicas) p
