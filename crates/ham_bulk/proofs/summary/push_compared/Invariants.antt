use Rattle.std.proofs.Common.{◌≡◌, ◌-◌, ◌++◌}
use Rattle.std.specs.List.{flat_map, range_with_len}
use Rattle.ham_turns.specs.Settings.{setting_of}
use Rattle.ham_bulk.specs.Summaries.{compared_line}
use Rattle.ham_bulk.proofs.summary.push_compared.Given as goal

abbrev pub invariant-loop-before : goal.invariant-loop-before
invariant-loop-before l = l.text ≡ l.fn.text ++ flat_map (compared_line l.world.object (setting_of l.world.plan) l.world.notes) (range_with_len 2 (l.before - 1))
