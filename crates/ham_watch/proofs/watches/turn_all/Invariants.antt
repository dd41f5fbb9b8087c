use Rattle.std.proofs.Common.{◌+◌}
use Rattle.ham_content.specs.Kept.{content}
use Rattle.ham_steps.specs.Content.{with_change}
use Rattle.ham_content.proofs.Each.{Changed}
use Rattle.ham_watch.proofs.Moves.{Moves}
use Rattle.ham_watch.proofs.watches.turn_all.Given as goal

abbrev pub invariant-loop-watch : goal.invariant-loop-watch
invariant-loop-watch l = Changed (Moves (with_change (content l.facts l.amounts) l.counter l.key l.by) (λ n. n + 1)) l.initial.watches l.watches l.watch-index
