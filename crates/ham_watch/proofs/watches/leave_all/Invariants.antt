use Rattle.ham_steps.specs.Pattern.{is_row}
use Rattle.ham_content.specs.Kept.{content}
use Rattle.ham_steps.specs.Content.{without_rows}
use Rattle.ham_content.proofs.Each.{Changed}
use Rattle.ham_watch.proofs.Moves.{Moves}
use Rattle.ham_watch.proofs.watches.leave_all.Given as goal

abbrev pub invariant-loop-watch : goal.invariant-loop-watch
invariant-loop-watch l = Changed (Moves (without_rows (content l.facts l.amounts) l.relation (is_row l.row)) (λ n. n)) l.initial.watches l.watches l.watch-index
