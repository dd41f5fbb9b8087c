use Rattle.std.proofs.Common.{◌≡◌, ◌++◌}
use Rattle.std.specs.List.{flat_map}
use Rattle.ham_site.specs.Sites.{setting_at}
use Rattle.ham_turns.specs.Sends.{due_calls, decided_by}
use Rattle.ham_replica.specs.Values.{words}
use Rattle.ham_replica.specs.Shown.{lists_of}
use Rattle.ham_replica.specs.Ticks.{addressed}
use Rattle.ham_replica.proofs.tick.push_calls.Given as goal

abbrev pub invariant-loop-lane : goal.invariant-loop-lane
invariant-loop-lane l = l.out.items ≡ l.initial.out.items ++ addressed l.peer (flat_map (due_calls (words (lists_of l.held)) l.peer) (decided_by (setting_at l.site) l.site.me l.lane))
