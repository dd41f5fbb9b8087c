use Rattle.std.proofs.Common.{◌≡◌, ◌++◌}
use Rattle.std.specs.List.{flat_map, range_with_len}
use Rattle.ham_bulk.specs.Summaries.{logged_line}
use Rattle.ham_bulk.proofs.summary.push_logged.Given as goal

abbrev pub invariant-loop-before : goal.invariant-loop-before
invariant-loop-before l = l.text ≡ l.fn.text ++ flat_map (logged_line l.world.notes) (range_with_len 1 l.before)
