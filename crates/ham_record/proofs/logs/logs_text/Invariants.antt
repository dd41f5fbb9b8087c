use Rattle.std.proofs.Common.{◌≡◌, ◌++◌, []}
use Rattle.std.specs.List.{AllByRecursion}
use Rattle.ham_text.specs.Written.{line_text, lines_text}
use Rattle.ham_records.specs.Texts.{IsLogged, logs_lines, opening_words, replicas_words}
use Rattle.ham_record.specs.Recorded.{entries_at}
use Rattle.ham_record.proofs.Lined.{first_logs}
use Rattle.ham_record.proofs.logs.logs_text.Given as goal

abbrev pub invariant-loop-before : goal.invariant-loop-before
invariant-loop-before l =
    record {
      text : l.text ≡ ([] ++ (line_text opening_words ++ line_text (replicas_words l.replicas))) ++ lines_text (logs_lines l.world.object 1 (first_logs l.world.object (entries_at l.world) 1 l.before));
      spelled : AllByRecursion (AllByRecursion (IsLogged l.world.object)) (first_logs l.world.object (entries_at l.world) 1 l.before);
    }
