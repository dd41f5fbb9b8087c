use Rattle.std.proofs.Common.{◌≡◌}
use Rattle.std.specs.List.{flat_map}
use Rattle.ham_site.specs.Sites.{setting_at}
use Rattle.ham_turns.specs.Sends.{due_to, peers}
use Rattle.ham_replica.specs.Values.{words}
use Rattle.ham_replica.specs.Shown.{lists_of}
use Rattle.ham_replica.specs.Ticks.{addressed}
use Rattle.ham_replica.proofs.tick.due_frames.Given as goal

abbrev pub invariant-loop-before : goal.invariant-loop-before
invariant-loop-before l = l.out.items ≡ flat_map (λ q. addressed q (due_to (setting_at l.site) (words (lists_of l.held)) l.site.me q)) (peers l.site.me l.before)
