use Rattle.ham_syntax.specs.declared.object.Invariant.TheVariants as invariants
use Rattle.ham_steps.specs.Pattern.{is_row}
use Rattle.ham_content.specs.Kept.{content}
use Rattle.ham_steps.specs.Content.{without_rows}
use Rattle.ham_steps.proofs.ContentLaws.{value-without_rows}
use Rattle.ham_watch.proofs.Moves.{room_as, low_kept, high_kept}
use Rattle.ham_watch.proofs.watches.leave.Goals as goal

pub returns-in-Reference-clause-room : goal.returns-in-Reference-clause-room
returns-in-Reference-clause-room c = room_as c.args.watch.now.invariant (invariants.Reference c.in-Reference.from c.in-Reference.columns c.in-Reference.to) (λ n. n) c.args.watch.now.tallies c.args.watch.now.broken c.leave_reference.new.tallies c.leave_reference.new.broken c.in-Reference.is c.leave_reference.ensures.room

pub returns-in-Low-clause-watched : goal.returns-in-Low-clause-watched
returns-in-Low-clause-watched c = low_kept (content c.args.facts.now c.args.amounts.now) (without_rows (content c.args.facts.now c.args.amounts.now) c.args.relation (is_row c.args.row)) c.args.watch.now.invariant c.in-Low.counter c.in-Low.limit c.args.watch.now.tallies c.args.watch.now.broken c.in-Low.is (λ k. value-without_rows (content c.args.facts.now c.args.amounts.now) c.args.relation (is_row c.args.row) c.in-Low.counter k) c.requires.watched

pub returns-in-High-clause-watched : goal.returns-in-High-clause-watched
returns-in-High-clause-watched c = high_kept (content c.args.facts.now c.args.amounts.now) (without_rows (content c.args.facts.now c.args.amounts.now) c.args.relation (is_row c.args.row)) c.args.watch.now.invariant c.in-High.counter c.in-High.limit c.args.watch.now.tallies c.args.watch.now.broken c.in-High.is (λ k. value-without_rows (content c.args.facts.now c.args.amounts.now) c.args.relation (is_row c.args.row) c.in-High.counter k) c.requires.watched
