use Rattle.std.proofs.Common.{arith}
use Rattle.ham_steps.specs.Pattern.{is_row}
use Rattle.ham_content.specs.Kept.{content}
use Rattle.ham_steps.specs.Content.{without_rows}
use Rattle.ham_watch.proofs.Moves.{invariants-moved}
use Rattle.ham_watch.proofs.watches.leave_all.Goals as goal

pub returns-clause-invariants : goal.returns-clause-invariants
returns-clause-invariants c = invariants-moved (without_rows (content c.args.facts.now c.args.amounts.now) c.args.relation (is_row c.args.row)) (λ n. n) c.args.watches.now c.loop-watch.watches c.loop-watch.watch-index (omega arith) c.loop-watch.invariant
