-- The laws of records' texts.
use Rattle.std.proofs.Common.{◌≡◌, ℕ, zero, suc, ◌+◌, ◌^◌, ◌<◌, ◌≤◌, List, [], ◌∷◌, ◌++◌, length, map, Result, Ok, refl, sym, ap, ◌∙◌, arith}
use Rattle.std.specs.Prelude.{slice_get, IsTrue, codes}
use Rattle.std.specs.List.{AllByRecursion}
use Rattle.std.specs.Fmt.{decimal}
use Rattle.std.specs.Global.{Global}
use denote.Bor.{Bor}
use Rattle.ham_text.specs.Numbers.{AreNumbers}
use Rattle.ham_text.specs.Cuts.{pieces_of}
use Rattle.ham_text.specs.Written.{IsWord, AreWords, AreLines, nothing}
use Rattle.ham_text.proofs.Wording.{decimal_word, lines_apart, lines_together}
use Rattle.ham_syntax.specs.declared.object.Method.{Method}
use Rattle.ham_syntax.specs.declared.limits.TheConstants.{MAX_REPLICAS}
use Rattle.ham_syntax.specs.Names.{is_name}
use Rattle.ham_syntax.specs.Objects.{Schema, name_by, method_name}
use Rattle.ham_syntax.specs.Typed.{IsTypedMethod}
use Rattle.ham_syntax.specs.Checked.{IsChecked}
use Rattle.ham_syntax.proofs.Solid.{name_solid}
use Rattle.ham_records.specs.declared.records.Logged.{Logged}
use Rattle.ham_records.specs.declared.draft.Draft.{Draft}
use Rattle.ham_records.specs.declared.draft.Draft.TheVariants.{Whole}
use Rattle.ham_records.specs.declared.reader.RecordsReader.{RecordsReader}
use Rattle.ham_records.specs.Texts.{opening_words, replicas_words, replica_words, call_words, end_words, log_lines, logs_lines, text_lines, text_of, IsLogged, AreLogs, IsAuditText, TextsAreTexts, TextsAreOfOne, TextsAreSpelled}
use Rattle.ham_records.proofs.Lines.{method_there}
use Rattle.ham_records.proofs.Understood.{at, text_is_read}

abbrev IsLine : List (List ℕ) → Type 0
IsLine words = (0 < length words) × AreWords words

number_words : (ns : List ℕ) → AreNumbers ns → AreWords (map decimal ns)
number_words [] h = tt
number_words (n ∷ ns) h = (decimal_word n h.0, number_words ns h.1)

lines_both : (xs ys : List (List (List ℕ))) → AreLines xs → AreLines ys → AreLines (xs ++ ys)
lines_both [] ys h k = k
lines_both (x ∷ xs) ys h k = (h.0, lines_both xs ys h.1 k)

module _ (o : Schema) (checked : IsChecked o) where
  named : (m : ℕ) → m < length o.methods → IsWord (method_name o m)
  named m h = name_solid (method_name o m) (is_named o.methods m checked.typed.methods h)
    where
      is_named : (ms : List Method) (m : ℕ) → AllByRecursion IsTypedMethod ms → m < length ms → IsTrue (is_name (name_by (λ x. x.name) (slice_get ms m)))
      is_named [] m all h = absurd (omega arith)
      is_named (x ∷ ms) zero all h = all.0.named
      is_named (x ∷ ms) (suc m) all h = is_named ms m all.1 (omega arith)

  call_line : (e : Logged) → IsLogged o e → IsLine (call_words o e)
  call_line e is =
      let lane = is.lane in
      let number = is.number in
      (omega arith, ((omega arith, refl), (decimal_word e.place.lane (omega arith), (decimal_word e.place.number (omega arith), (named e.act.method (method_there o e is), number_words e.act.args is.args)))))

  calls_lines : (log : List Logged) → AllByRecursion (IsLogged o) log → AreLines (map (call_words o) log)
  calls_lines [] all = tt
  calls_lines (e ∷ log) all = (call_line e all.0, calls_lines log all.1)

  each_log : (r : ℕ) (logs : List (List Logged)) → r + length logs ≤ 2 ^ 32 → AllByRecursion (AllByRecursion (IsLogged o)) logs → AreLines (logs_lines o r logs)
  each_log r [] low all = tt
  each_log r (log ∷ logs) low all =
      lines_both (log_lines o r log) (logs_lines o (r + 1) logs)
      ((omega arith, ((omega arith, refl), (decimal_word r (omega arith), tt))), calls_lines log all.0)
      (each_log (r + 1) logs (omega arith) all.1)

  all_lines : (logs : List (List Logged)) → AreLogs o logs → AreLines (text_lines o logs)
  all_lines logs are =
      let few = are.few in (
        (omega arith, ((omega arith, refl), ((omega arith, refl), ((omega arith, refl), tt)))),
        (
          (omega arith, ((omega arith, refl), (decimal_word (length logs) (omega arith), tt))),
          lines_both (logs_lines o 1 logs) (end_words ∷ []) (each_log 1 logs (omega arith) are.each) ((omega arith, ((omega arith, refl), tt)), tt),
        ),
      )

  pub texts_are_texts : TextsAreTexts o
  unfolding text_of
  texts_are_texts logs are = record { logs_are = are; pieces = lines_apart (text_lines o logs) (all_lines logs are) }

same_read : (s t : RecordsReader) → ◌≡◌ {A = Result RecordsReader ℕ} (Ok s) (Ok t) → s ≡ t
same_read s t e = cc

same_logs : (xs ys : List (List Logged)) → ◌≡◌ {A = Draft} (Whole xs) (Whole ys) → xs ≡ ys
same_logs xs ys e = cc

-- bytes are read as one list of logs, whatever the allocator is
pub texts_are_of_one : (o : Schema) → IsChecked o → Global → TextsAreOfOne o
texts_are_of_one o checked g logs others bytes a b =
    let object : Bor Schema = record { ref_ptr = (0, 0); now = o } in
    let same = same_read (at object g (Whole logs)) (at object g (Whole others)) (sym (text_is_read object g checked logs bytes a) ∙ text_is_read object g checked others bytes b) in
    same_logs logs others (ap (λ (r : RecordsReader). r.draft) same)

pub texts_are_spelled : (o : Schema) → TextsAreSpelled o
unfolding text_of
texts_are_spelled o logs bytes text = lines_together (text_lines o logs) bytes text.pieces
