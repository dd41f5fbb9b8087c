-- What is read of a text is what its lines spell, and what they spell is read.
use Rattle.std.proofs.Common.{◌≡◌, ℕ, ◌+◌, ◌-◌, ◌<◌, ◌≤◌, zero, suc, true, false, cond, Bool, List, [], ◌∷◌, ◌++◌, length, length-append, map, Option, Some, None, Result, Ok, Err, refl, sym, ap, ◌∙◌, subst, append_assoc, arith}
use Rattle.std.specs.Prelude.{option_and_then, option_map, nat_le, replicate, ◌==◌, ◌&&◌}
use Rattle.std.specs.List.{AllByRecursion}
use Rattle.std.proofs.lemmas.Bool.{eq-eqb, eqb-true, le-leb, leb-true, and_parts, and_from}
use Rattle.std.proofs.lemmas.List.{append-nil, map-append, length-replicate}
use Rattle.std.proofs.lemmas.Option.{same_Some, none-some}
use Rattle.std.specs.Global.{Global}
use denote.Bor.{Bor}
use Rattle.ham_text.specs.Cuts.{pieces_of}
use Rattle.ham_text.specs.Written.{nothing}
use Rattle.ham_text.specs.Forms.{Form, form, state_after, MayBegin, IsText, read_from}
use Rattle.ham_text.proofs.Reading.{more, closed, kept, text_read, read_text, first_bad, same_bad_line}
use Rattle.ham_text.proofs.Choices.{chosen, steps, mapped}
use Rattle.ham_syntax.specs.Objects.{Schema}
use Rattle.ham_syntax.specs.Checked.{IsChecked}
use Rattle.ham_syntax.specs.declared.limits.TheConstants.{MAX_REPLICAS}
use Rattle.ham_records.specs.declared.records.Logged.{Logged}
use Rattle.ham_records.specs.declared.line.RecordLine.{RecordLine}
use Rattle.ham_records.specs.declared.line.RecordLine.TheVariants.{Opening, Replicas, Replica, Call, End}
use Rattle.ham_records.specs.declared.draft.Draft.{Draft}
use Rattle.ham_records.specs.declared.draft.Draft.TheVariants.{Nothing, Opened, Counted, Filling, Whole}
use Rattle.ham_records.specs.declared.reader.RecordsReader.{RecordsReader}
use Rattle.ham_records.specs.declared.reader.AuditText.{AuditText}
use Rattle.ham_records.specs.declared.reader.AuditText.TheVariants.{BadLine}
use Rattle.ham_records.specs.Texts.{opening_words, replicas_words, replica_words, call_words, end_words, log_lines, logs_lines, text_lines, IsLogged, AreLogs, IsAuditText, IsBeginning, IsWhole, IsBadLine}
use Rattle.ham_records.specs.Reading.{line_of}
use Rattle.ham_records.specs.Drafts.{draft_with, with_replica, with_end, after, is_end, is_whole}
use Rattle.ham_records.proofs.Lines.{line_words, IsLine, Spells, line_spelled, line_read}

abbrev pub Lines : Type 0
Lines = List (List (List ℕ))

-- ---- the lines of logs

abbrev pub front_lines : Schema → ℕ → List (List Logged) → Lines
front_lines o n logs = opening_words ∷ replicas_words n ∷ logs_lines o 1 logs

-- one log more
pub logs_push : (o : Schema) (r : ℕ) (logs : List (List Logged)) (log : List Logged) → logs_lines o r (logs ++ log ∷ []) ≡ logs_lines o r logs ++ log_lines o (r + length logs) log
logs_push o r [] log = append-nil (log_lines o r log) ∙ ap (λ k. log_lines o k log) (let q : r ≡ r + 0 = omega arith in q)
logs_push o r (l ∷ logs) log =
    ap (λ z. log_lines o r l ++ z) (logs_push o (r + 1) logs log ∙ ap (λ k. logs_lines o (r + 1) logs ++ log_lines o k log) (let q : r + 1 + length logs ≡ r + suc (length logs) = omega arith in q))
    ∙ sym (append_assoc (log_lines o r l) (logs_lines o (r + 1) logs) (log_lines o (r + suc (length logs)) log))

-- one call more of the last log
pub call_push : (o : Schema) (logs : List (List Logged)) (log : List Logged) (e : Logged) → logs_lines o 1 (logs ++ (log ++ e ∷ []) ∷ []) ≡ logs_lines o 1 (logs ++ log ∷ []) ++ call_words o e ∷ []
call_push o logs log e =
    logs_push o 1 logs (log ++ e ∷ [])
    ∙ ap (λ z. logs_lines o 1 logs ++ replica_words (1 + length logs) ∷ z) (map-append (call_words o) log (e ∷ []))
    ∙ sym (append_assoc (logs_lines o 1 logs) (log_lines o (1 + length logs) log) (call_words o e ∷ []))
    ∙ ap (λ z. z ++ call_words o e ∷ []) (sym (logs_push o 1 logs log))

all_push : {X : Type 0} (P : X → Type 0) (xs : List X) (x : X) → AllByRecursion P xs → P x → AllByRecursion P (xs ++ x ∷ [])
all_push P [] x all h = (h, tt)
all_push P (y ∷ xs) x all h = (all.0, all_push P xs x all.1 h)

all_both : {X : Type 0} (P : X → Type 0) (xs ys : List X) → AllByRecursion P xs → AllByRecursion P ys → AllByRecursion P (xs ++ ys)
all_both P [] ys all h = h
all_both P (x ∷ xs) ys all h = (all.0, all_both P xs ys all.1 h)

one_more : {X : Type 0} (xs : List X) (x : X) → length (xs ++ x ∷ []) ≡ length xs + 1
one_more xs x = length-append xs (x ∷ [])

-- ---- readers

abbrev pub at : Bor Schema → Global → Draft → RecordsReader
at b g d = record { alloc = g; object = b; draft = d }

abbrev pub text_form : Bor Schema → Global → Form RecordsReader
text_form b g = form after is_whole (at b g Nothing)

-- ---- what is read is spelled

abbrev AreCalls : Schema → List (List Logged) → Type 0
AreCalls o logs = AllByRecursion (AllByRecursion (IsLogged o)) logs

-- of so many replicas some have their logs: the calls are calls of the object, and the lines are these
pub record FilledBy (o : Schema) (n : ℕ) (logs : List (List Logged)) (log : List Logged) (lines : Lines) : Type 0 where
  pub few : n ≤ MAX_REPLICAS
  pub room : length logs + 1 ≤ n
  pub before : AreCalls o logs
  pub calls : AllByRecursion (IsLogged o) log
  pub lines_are : lines ≡ front_lines o n (logs ++ log ∷ [])

-- the lines that are read, by how far
abbrev SpelledTo : Schema → Draft → Lines → Type 0
SpelledTo o Nothing lines = lines ≡ []
SpelledTo o Opened lines = lines ≡ opening_words ∷ []
SpelledTo o (Counted n) lines = (1 ≤ n) × (n ≤ MAX_REPLICAS) × (lines ≡ opening_words ∷ replicas_words n ∷ [])
SpelledTo o (Filling n logs log) lines = FilledBy o n logs log lines
SpelledTo o (Whole logs) lines = AreLogs o logs × (lines ≡ text_lines o logs)

record IsAt (b : Bor Schema) (g : Global) (r : RecordsReader) (lines : Lines) : Type 0 where
  object : r.object ≡ b
  alloc : r.alloc ≡ g
  spells : SpelledTo b.now r.draft lines

module _ (o : Schema) (words : List (List ℕ)) (lines : Lines) where
  to : (d : Draft) (f : Draft) → f ≡ d → SpelledTo o f (lines ++ words ∷ []) → SpelledTo o d (lines ++ words ∷ [])
  to d f q h = subst (λ z. SpelledTo o z (lines ++ words ∷ [])) q h

  -- the first log
  first_spelled : (n r : ℕ) (d : Draft) → SpelledTo o (Counted n) lines → words ≡ replica_words r → cond (r == 1) (Some (Filling n [] [])) None ≡ Some d → SpelledTo o d (lines ++ words ∷ [])
  first_spelled n r d h w e =
      let c = chosen (r == 1) (Filling n [] []) d e in
      let one = eqb-true r 1 c.0 in
      to d (Filling n [] []) c.1 (record {
        few = h.1;
        room = h.0;
        before = tt;
        calls = tt;
        lines_are = ap (λ ls. ls ++ words ∷ []) h.2 ∙ ap (λ v. opening_words ∷ replicas_words n ∷ v ∷ []) (w ∙ ap replica_words one);
      })

  -- the next log
  next_spelled : (n : ℕ) (logs : List (List Logged)) (log : List Logged) (r : ℕ) (d : Draft) → FilledBy o n logs log lines → words ≡ replica_words r →
      with_replica n logs log r ≡ Some d → SpelledTo o d (lines ++ words ∷ [])
  next_spelled n logs log r d h w e =
      let c = chosen (nat_le r n && (length logs + 2 == r)) (Filling n (logs ++ log ∷ []) []) d e in
      let p = and_parts (nat_le r n) (length logs + 2 == r) c.0 in
      let low = leb-true r n p.0 in
      let next = eqb-true (length logs + 2) r p.1 in
      let size = one_more logs log in
      to d (Filling n (logs ++ log ∷ []) []) c.1 (record {
        few = h.few;
        room = omega (arith, size, low, next);
        before = all_push (AllByRecursion (IsLogged o)) logs log h.before h.calls;
        calls = tt;
        lines_are = ap (λ ls. ls ++ words ∷ []) h.lines_are
            ∙ ap (λ v. front_lines o n (logs ++ log ∷ []) ++ v ∷ []) (w ∙ ap replica_words (let q : r ≡ 1 + length (logs ++ log ∷ []) = omega (arith, size, next) in q))
            ∙ ap (λ ls. opening_words ∷ replicas_words n ∷ ls) (sym (logs_push o 1 (logs ++ log ∷ []) []));
      })

  -- one call more
  call_spelled : (n : ℕ) (logs : List (List Logged)) (log : List Logged) (x : Logged) (d : Draft) → FilledBy o n logs log lines → words ≡ call_words o x → IsLogged o x →
      Some (Filling n logs (log ++ x ∷ [])) ≡ Some d → SpelledTo o d (lines ++ words ∷ [])
  call_spelled n logs log x d h w is e =
      to d (Filling n logs (log ++ x ∷ [])) (same_Some (Filling n logs (log ++ x ∷ [])) d e) (record {
        few = h.few;
        room = h.room;
        before = h.before;
        calls = all_push (IsLogged o) log x h.calls is;
        lines_are = ap (λ ls. ls ++ words ∷ []) h.lines_are ∙ ap (λ v. front_lines o n (logs ++ log ∷ []) ++ v ∷ []) w
            ∙ ap (λ ls. opening_words ∷ replicas_words n ∷ ls) (sym (call_push o logs log x));
      })

  -- the end
  ended : (n : ℕ) (logs : List (List Logged)) (log : List Logged) (d : Draft) → FilledBy o n logs log lines → words ≡ end_words → with_end n logs log ≡ Some d → SpelledTo o d (lines ++ words ∷ [])
  ended n logs log d h w e =
      let c = chosen (length logs + 1 == n) (Whole (logs ++ log ∷ [])) d e in
      let size = one_more logs log in
      let all : length logs + 1 ≡ n = eqb-true (length logs + 1) n c.0 in
      let few = h.few in
      to d (Whole (logs ++ log ∷ [])) c.1 (
        record { some = omega (arith, size); few = omega (arith, size, few, all); each = all_push (AllByRecursion (IsLogged o)) logs log h.before h.calls },
        ap (λ ls. ls ++ words ∷ []) h.lines_are
            ∙ ap (λ v. front_lines o n (logs ++ log ∷ []) ++ v ∷ []) w
            ∙ ap (λ k. front_lines o k (logs ++ log ∷ []) ++ end_words ∷ []) (let q : n ≡ length (logs ++ log ∷ []) = omega (arith, size, all) in q),
      )

  spelled_more : (f d : Draft) (line : RecordLine) → SpelledTo o f lines → IsLine o line → words ≡ line_words o line → draft_with f line ≡ Some d → SpelledTo o d (lines ++ words ∷ [])
  unfolding draft_with
  spelled_more Nothing d Opening h is w e = to d Opened (same_Some Opened d e) (ap (λ ls. ls ++ words ∷ []) h ∙ ap (λ v. v ∷ []) w)
  spelled_more Nothing d (Replicas n) h is w e = absurd (none-some d e)
  spelled_more Nothing d (Replica r) h is w e = absurd (none-some d e)
  spelled_more Nothing d (Call x) h is w e = absurd (none-some d e)
  spelled_more Nothing d End h is w e = absurd (none-some d e)
  spelled_more Opened d (Replicas n) h is w e = to d (Counted n) (same_Some (Counted n) d e) (is.0, is.1, ap (λ ls. ls ++ words ∷ []) h ∙ ap (λ v. opening_words ∷ v ∷ []) w)
  spelled_more Opened d Opening h is w e = absurd (none-some d e)
  spelled_more Opened d (Replica r) h is w e = absurd (none-some d e)
  spelled_more Opened d (Call x) h is w e = absurd (none-some d e)
  spelled_more Opened d End h is w e = absurd (none-some d e)
  spelled_more (Counted n) d (Replica r) h is w e = first_spelled n r d h w e
  spelled_more (Counted n) d Opening h is w e = absurd (none-some d e)
  spelled_more (Counted n) d (Replicas m) h is w e = absurd (none-some d e)
  spelled_more (Counted n) d (Call x) h is w e = absurd (none-some d e)
  spelled_more (Counted n) d End h is w e = absurd (none-some d e)
  spelled_more (Filling n logs log) d (Call x) h is w e = call_spelled n logs log x d h w is e
  spelled_more (Filling n logs log) d (Replica r) h is w e = next_spelled n logs log r d h w e
  spelled_more (Filling n logs log) d End h is w e = ended n logs log d h w e
  spelled_more (Filling n logs log) d Opening h is w e = absurd (none-some d e)
  spelled_more (Filling n logs log) d (Replicas m) h is w e = absurd (none-some d e)
  spelled_more (Whole logs) d line h is w e = absurd (none-some d e)

taken : (b : Bor Schema) (g : Global) (r t : RecordsReader) (lines : Lines) (words : List (List ℕ)) → IsAt b g r lines → after r words ≡ Some t → IsAt b g t (lines ++ words ∷ [])
taken b g r t lines words h e =
    let w = mapped (option_and_then (draft_with r.draft) (line_of r.object.now words)) (λ d. record r { draft = d }) t e in
    let v = steps (line_of r.object.now words) (draft_with r.draft) w.0 w.1 in
    let s = line_spelled b.now words v.0 (ap (λ x. line_of x.now words) (sym h.object) ∙ v.1) in
    subst (λ u. IsAt b g u (lines ++ words ∷ [])) w.2
    (record { object = h.object; alloc = h.alloc; spells = spelled_more b.now words lines r.draft w.0 v.0 h.spells s.is s.words_are v.2 })

reached : (b : Bor Schema) (g : Global) (t : RecordsReader) (lines : Lines) → state_after (text_form b g) (at b g Nothing) lines ≡ Some t → IsAt b g t lines
reached b g t lines e =
    kept (text_form b g) (IsAt b g) (λ r t lines words h e. taken b g r t lines words h e) (at b g Nothing) t [] lines (record { object = refl; alloc = refl; spells = refl }) e

-- ---- what is spelled is read

module _ (b : Bor Schema) (g : Global) (checked : IsChecked b.now) where
  line_taken : (d f : Draft) (line : RecordLine) → IsLine b.now line → draft_with d line ≡ Some f → after (at b g d) (line_words b.now line) ≡ Some (at b g f)
  line_taken d f line is e =
      ap (λ o. option_map (λ z. at b g z) (option_and_then (draft_with d) o)) (line_read b.now checked line is) ∙ ap (option_map (λ z. at b g z)) e

  calls_taken : (n : ℕ) (logs : List (List Logged)) (log later : List Logged) → AllByRecursion (IsLogged b.now) later →
      state_after (text_form b g) (at b g (Filling n logs log)) (map (call_words b.now) later) ≡ Some (at b g (Filling n logs (log ++ later)))
  unfolding draft_with
  calls_taken n logs log [] all = ap (λ l. Some (at b g (Filling n logs l))) (sym (append-nil log))
  calls_taken n logs log (x ∷ later) all =
      ap (option_and_then (λ t. state_after (text_form b g) t (map (call_words b.now) later))) (line_taken (Filling n logs log) (Filling n logs (log ++ x ∷ [])) (Call x) all.0 refl)
      ∙ calls_taken n logs (log ++ x ∷ []) later all.1
      ∙ ap (λ l. Some (at b g (Filling n logs l))) (append_assoc log (x ∷ []) later)

  replica_taken : (n : ℕ) (logs : List (List Logged)) (log : List Logged) (r : ℕ) → r ≤ n → n ≤ MAX_REPLICAS → length logs + 2 ≡ r →
      after (at b g (Filling n logs log)) (replica_words r) ≡ Some (at b g (Filling n (logs ++ log ∷ []) []))
  unfolding draft_with
  replica_taken n logs log r low few next =
      line_taken (Filling n logs log) (Filling n (logs ++ log ∷ []) []) (Replica r) (omega arith)
      (ap (λ c. cond c (Some (Filling n (logs ++ log ∷ []) [])) None) (and_from (nat_le r n) (length logs + 2 == r) (le-leb r n low) (eq-eqb (length logs + 2) r next)))

  end_taken : (n : ℕ) (logs : List (List Logged)) (log : List Logged) → length logs + 1 ≡ n → after (at b g (Filling n logs log)) end_words ≡ Some (at b g (Whole (logs ++ log ∷ [])))
  unfolding draft_with
  end_taken n logs log all =
      line_taken (Filling n logs log) (Whole (logs ++ log ∷ [])) End tt (ap (λ c. cond c (Some (Whole (logs ++ log ∷ []))) None) (eq-eqb (length logs + 1) n all))

  log_taken : (n : ℕ) (logs : List (List Logged)) (log next : List Logged) (r : ℕ) → r ≤ n → n ≤ MAX_REPLICAS → length logs + 2 ≡ r → AllByRecursion (IsLogged b.now) next →
      state_after (text_form b g) (at b g (Filling n logs log)) (log_lines b.now r next) ≡ Some (at b g (Filling n (logs ++ log ∷ []) next))
  log_taken n logs log next r low few number all =
      ap (option_and_then (λ t. state_after (text_form b g) t (map (call_words b.now) next))) (replica_taken n logs log r low few number)
      ∙ calls_taken n (logs ++ log ∷ []) [] next all

  -- the logs that are left, and the end
  rest_taken : (n : ℕ) (logs : List (List Logged)) (log : List Logged) (rest : List (List Logged)) (r : ℕ) → n ≡ length logs + 1 + length rest → n ≤ MAX_REPLICAS → length logs + 2 ≡ r → AreCalls b.now rest →
      state_after (text_form b g) (at b g (Filling n logs log)) (logs_lines b.now r rest ++ end_words ∷ []) ≡ Some (at b g (Whole (logs ++ log ∷ rest)))
  rest_taken n logs log [] r size few number all =
      ap (option_and_then (λ t. state_after (text_form b g) t [])) (end_taken n logs log (omega arith))
  rest_taken n logs log (next ∷ rest) r size few number all =
      let one = one_more logs log in
      ap (state_after (text_form b g) (at b g (Filling n logs log))) (append_assoc (log_lines b.now r next) (logs_lines b.now (r + 1) rest) (end_words ∷ []))
      ∙ more (text_form b g) (at b g (Filling n logs log)) (log_lines b.now r next) (logs_lines b.now (r + 1) rest ++ end_words ∷ [])
      ∙ ap (option_and_then (λ t. state_after (text_form b g) t (logs_lines b.now (r + 1) rest ++ end_words ∷ []))) (log_taken n logs log next r (omega arith) few number all.0)
      ∙ rest_taken n (logs ++ log ∷ []) next rest (r + 1) (omega (arith, one)) few (omega (arith, one)) all.1
      ∙ ap (λ l. Some (at b g (Whole l))) (append_assoc logs (log ∷ []) (next ∷ rest))

  opened_taken : after (at b g Nothing) opening_words ≡ Some (at b g Opened)
  unfolding draft_with
  opened_taken = line_taken Nothing Opened Opening tt refl

  counted_taken : (n : ℕ) → 1 ≤ n → n ≤ MAX_REPLICAS → after (at b g Opened) (replicas_words n) ≡ Some (at b g (Counted n))
  unfolding draft_with
  counted_taken n some few = line_taken Opened (Counted n) (Replicas n) (some, few) refl

  first_taken : (n : ℕ) → after (at b g (Counted n)) (replica_words 1) ≡ Some (at b g (Filling n [] []))
  unfolding draft_with
  first_taken n = line_taken (Counted n) (Filling n [] []) (Replica 1) (omega arith) refl

  from_first : (n : ℕ) (log : List Logged) (rest : List (List Logged)) → n ≡ suc (length rest) → n ≤ MAX_REPLICAS → AllByRecursion (IsLogged b.now) log → AreCalls b.now rest →
      state_after (text_form b g) (at b g (Counted n)) (logs_lines b.now 1 (log ∷ rest) ++ end_words ∷ []) ≡ Some (at b g (Whole (log ∷ rest)))
  from_first n log rest size few here all =
      ap (option_and_then (λ t. state_after (text_form b g) t ((map (call_words b.now) log ++ logs_lines b.now 2 rest) ++ end_words ∷ []))) (first_taken n)
      ∙ ap (state_after (text_form b g) (at b g (Filling n [] []))) (append_assoc (map (call_words b.now) log) (logs_lines b.now 2 rest) (end_words ∷ []))
      ∙ more (text_form b g) (at b g (Filling n [] [])) (map (call_words b.now) log) (logs_lines b.now 2 rest ++ end_words ∷ [])
      ∙ ap (option_and_then (λ t. state_after (text_form b g) t (logs_lines b.now 2 rest ++ end_words ∷ []))) (calls_taken n [] [] log here)
      ∙ rest_taken n [] log rest 2 (omega arith) few refl all

  pub text_taken : (logs : List (List Logged)) → AreLogs b.now logs → state_after (text_form b g) (at b g Nothing) (text_lines b.now logs) ≡ Some (at b g (Whole logs))
  text_taken [] are = absurd (let some = are.some in omega arith)
  text_taken (log ∷ rest) are =
      let n = suc (length rest) in
      ap (option_and_then (λ t. state_after (text_form b g) t (replicas_words n ∷ (logs_lines b.now 1 (log ∷ rest) ++ end_words ∷ [])))) opened_taken
      ∙ ap (option_and_then (λ t. state_after (text_form b g) t (logs_lines b.now 1 (log ∷ rest) ++ end_words ∷ []))) (counted_taken n are.some are.few)
      ∙ from_first n log rest refl are.few are.each.0 are.each.1

-- ---- each beginning can be ended

no_calls : (o : Schema) (n : ℕ) → AreCalls o (replicate n [])
no_calls o zero = tt
no_calls o (suc n) = (tt, no_calls o n)

whole_of : (o : Schema) (logs : List (List Logged)) (lines later : Lines) → AreLogs o logs → lines ++ later ≡ text_lines o logs → IsBeginning o lines
whole_of o logs lines later are e = record { more = later; whole = record { logs = logs; logs_are = are; lines_are = e } }

logs_both : (o : Schema) (r : ℕ) (logs rest : List (List Logged)) → logs_lines o r (logs ++ rest) ≡ logs_lines o r logs ++ logs_lines o (r + length logs) rest
logs_both o r [] rest = ap (λ k. logs_lines o k rest) (let q : r ≡ r + 0 = omega arith in q)
logs_both o r (l ∷ logs) rest =
    ap (λ z. log_lines o r l ++ z) (logs_both o (r + 1) logs rest ∙ ap (λ k. logs_lines o (r + 1) logs ++ logs_lines o k rest) (let q : r + 1 + length logs ≡ r + suc (length logs) = omega arith in q))
    ∙ sym (append_assoc (log_lines o r l) (logs_lines o (r + 1) logs) (logs_lines o (r + suc (length logs)) rest))

-- logs, and the empty ones of the other replicas
filled_up : (o : Schema) (n : ℕ) (logs : List (List Logged)) (lines : Lines) → 1 ≤ n → n ≤ MAX_REPLICAS → length logs ≤ n → AreCalls o logs → lines ≡ front_lines o n logs → IsBeginning o lines
filled_up o n logs lines some few room all is =
    let empty : List (List Logged) = replicate (n - length logs) [] in
    let size = length-append logs empty in
    let left = length-replicate {A = List Logged} (n - length logs) [] in
    let total : length (logs ++ empty) ≡ n = omega (arith, size, left) in
    whole_of o (logs ++ empty) lines (logs_lines o (1 + length logs) empty ++ end_words ∷ [])
    (record { some = omega (arith, total); few = omega (arith, total); each = all_both (AllByRecursion (IsLogged o)) logs empty all (no_calls o (n - length logs)) })
    (ap (λ z. z ++ (logs_lines o (1 + length logs) empty ++ end_words ∷ [])) is
    ∙ ap (λ z. opening_words ∷ replicas_words n ∷ z)
    (sym (append_assoc (logs_lines o 1 logs) (logs_lines o (1 + length logs) empty) (end_words ∷ [])) ∙ ap (λ z. z ++ end_words ∷ []) (sym (logs_both o 1 logs empty)))
    ∙ ap (λ k. opening_words ∷ replicas_words k ∷ (logs_lines o 1 (logs ++ empty) ++ end_words ∷ [])) (sym total))

begins_so : (o : Schema) (d : Draft) (lines : Lines) → SpelledTo o d lines → IsBeginning o lines
begins_so o Nothing lines h =
    whole_of o ([] ∷ []) lines (text_lines o ([] ∷ [])) (record { some = omega arith; few = omega arith; each = (tt, tt) }) (ap (λ z. z ++ text_lines o ([] ∷ [])) h)
begins_so o Opened lines h =
    whole_of o ([] ∷ []) lines (replicas_words 1 ∷ replica_words 1 ∷ end_words ∷ []) (record { some = omega arith; few = omega arith; each = (tt, tt) })
    (ap (λ z. z ++ (replicas_words 1 ∷ replica_words 1 ∷ end_words ∷ [])) h)
begins_so o (Counted n) lines h = let some = h.0 in filled_up o n [] lines h.0 h.1 (omega arith) tt h.2
begins_so o (Filling n logs log) lines h =
    let size = one_more logs log in
    let room = h.room in
    filled_up o n (logs ++ log ∷ []) lines (omega arith) h.few (omega (arith, size)) (all_push (AllByRecursion (IsLogged o)) logs log h.before h.calls) h.lines_are
begins_so o (Whole logs) lines h = whole_of o logs lines [] h.0 (append-nil lines ∙ h.1)

is_beginning : (b : Bor Schema) (g : Global) (lines : Lines) → MayBegin (text_form b g) lines → IsBeginning b.now lines
is_beginning b g lines h = begins_so b.now h.state.draft lines (reached b g h.state lines h.reached).spells

-- ---- the form's texts are those of logs

is_text : (b : Bor Schema) (g : Global) → IsChecked b.now → (lines : Lines) → IsWhole b.now lines → IsText (text_form b g) lines
is_text b g checked lines h =
    record { state = at b g (Whole h.logs); reached = ap (state_after (text_form b g) (at b g Nothing)) h.lines_are ∙ text_taken b g checked h.logs h.logs_are; ends = refl }

may_begin : (b : Bor Schema) (g : Global) → IsChecked b.now → (lines : Lines) → IsBeginning b.now lines → MayBegin (text_form b g) lines
may_begin b g checked lines h =
    let t = is_text b g checked (lines ++ h.more) h.whole in
    closed (text_form b g) lines h.more (record { state = t.state; reached = t.reached })

-- ---- what a reader's answer says of the bytes

pub bad_line : (b : Bor Schema) (g : Global) → IsChecked b.now → (bytes : List ℕ) (n : ℕ) → read_from (text_form b g) (at b g Nothing) 1 (pieces_of bytes) ≡ Err n → IsBadLine b.now bytes n
bad_line b g checked bytes n e =
    same_bad_line (MayBegin (text_form b g)) (IsText (text_form b g)) (IsBeginning b.now) (IsWhole b.now) (is_beginning b g) (may_begin b g checked) (is_text b g checked) bytes n (first_bad (text_form b g) bytes n e)

pub same_line : {A : Type 0} (o : Schema) (bytes : List ℕ) (n line : ℕ) → ◌≡◌ {A = Result A AuditText} (Err (BadLine n)) (Err (BadLine line)) → IsBadLine o bytes n → IsBadLine o bytes line
same_line o bytes n line e h = let same : n ≡ line = cc in subst (IsBadLine o bytes) same h

pub read_whole : (b : Bor Schema) (g : Global) (bytes : List ℕ) (t : RecordsReader) → read_from (text_form b g) (at b g Nothing) 1 (pieces_of bytes) ≡ Ok t → is_whole t ≡ true
read_whole b g bytes t e = (read_text (text_form b g) (at b g Nothing) t 1 (pieces_of bytes) e).ends

pub text_found : (b : Bor Schema) (g : Global) (bytes : List ℕ) (t : RecordsReader) (logs : List (List Logged)) → read_from (text_form b g) (at b g Nothing) 1 (pieces_of bytes) ≡ Ok t → t.draft ≡ Whole logs →
    IsAuditText b.now logs bytes
text_found b g bytes t logs e p =
    let w = read_text (text_form b g) (at b g Nothing) t 1 (pieces_of bytes) e in
    let h : SpelledTo b.now (Whole logs) w.lines = subst (λ d. SpelledTo b.now d w.lines) p (reached b g t w.lines w.reached).spells in
    record { logs_are = h.0; pieces = w.pieces_are ∙ ap (λ ls. ls ++ nothing ∷ []) h.1 }

-- a text is read
pub text_is_read : (b : Bor Schema) (g : Global) → IsChecked b.now → (logs : List (List Logged)) (bytes : List ℕ) → IsAuditText b.now logs bytes →
    read_from (text_form b g) (at b g Nothing) 1 (pieces_of bytes) ≡ Ok (at b g (Whole logs))
text_is_read b g checked logs bytes text =
    ap (read_from (text_form b g) (at b g Nothing) 1) text.pieces
    ∙ text_read (text_form b g) (at b g Nothing) (at b g (Whole logs)) 1 (text_lines b.now logs) (text_taken b g checked logs text.logs_are) refl

pub refused : (o : Schema) (bytes : List ℕ) (n : ℕ) → IsBadLine o bytes n → (logs : List (List Logged)) → IsAuditText o logs bytes → ⊥
refused o bytes n bad logs text = bad.no_text (text_lines o logs) text.pieces (record { logs = logs; logs_are = text.logs_are; lines_are = refl })
