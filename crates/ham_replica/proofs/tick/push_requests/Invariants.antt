use Rattle.std.proofs.Common.{◌≡◌, ◌++◌}
use Rattle.std.specs.List.{flat_map}
use Rattle.ham_site.specs.Sites.{setting_at}
use Rattle.ham_turns.specs.Sends.{due_requests, decided_by}
use Rattle.ham_replica.specs.Values.{words}
use Rattle.ham_replica.specs.Shown.{lists_of}
use Rattle.ham_replica.specs.Ticks.{addressed}
use Rattle.ham_replica.proofs.tick.push_requests.Given as goal

abbrev pub invariant-loop-group : goal.invariant-loop-group
invariant-loop-group l = l.out.items ≡ l.initial.out.items ++ addressed l.peer (flat_map (due_requests (words (lists_of l.held))) (decided_by (setting_at l.site) l.peer l.group))
