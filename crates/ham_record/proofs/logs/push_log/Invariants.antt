use Rattle.std.proofs.Common.{◌≡◌, ◌++◌, map, take}
use Rattle.std.specs.List.{AllByRecursion}
use Rattle.ham_text.specs.Written.{line_text, lines_text}
use Rattle.ham_records.specs.Texts.{IsLogged, call_words, replica_words}
use Rattle.ham_runs.specs.Runs.{log_of}
use Rattle.ham_record.specs.Recorded.{entry_at}
use Rattle.ham_record.proofs.logs.push_log.Given as goal

abbrev pub invariant-loop-place : goal.invariant-loop-place
invariant-loop-place l =
    record {
      text : l.text ≡ (l.fn.text ++ line_text (replica_words l.replica)) ++ lines_text (map (call_words l.world.object) (map (entry_at l.world) (take l.place-index (log_of l.world.notes l.replica))));
      spelled : AllByRecursion (IsLogged l.world.object) (map (entry_at l.world) (take l.place-index (log_of l.world.notes l.replica)));
    }
