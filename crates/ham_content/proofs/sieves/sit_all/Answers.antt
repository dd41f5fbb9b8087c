use Rattle.std.proofs.Common.{arith, ◌+◌}
use Rattle.ham_steps.specs.Content.{with_row}
use Rattle.ham_content.specs.Kept.{content}
use Rattle.ham_content.specs.Seats.{IsSieve, HasSeats}
use Rattle.ham_content.proofs.Sitting.{AreSieves-moved, AllHaveSeats-moved, not_yet, sits_next}
use Rattle.ham_content.proofs.sieves.sit_all.Goals as goal

pub sit_row-requires-clause-sieve : goal.sit_row-requires-clause-sieve
sit_row-requires-clause-sieve c = not_yet (with_row (content c.args.facts.now c.args.amounts.now) c.args.relation c.args.row) (λ n. n + 1) c.args.sieves.now c.loop-sieve.sieves c.loop-sieve.sieve-index (IsSieve (content c.args.facts.now c.args.amounts.now)) (omega arith) c.loop-sieve.invariant c.requires.sieves c.sieve-item.result

pub sit_row-requires-clause-room : goal.sit_row-requires-clause-room
sit_row-requires-clause-room c = not_yet (with_row (content c.args.facts.now c.args.amounts.now) c.args.relation c.args.row) (λ n. n + 1) c.args.sieves.now c.loop-sieve.sieves c.loop-sieve.sieve-index (HasSeats 1) (omega arith) c.loop-sieve.invariant c.requires.room c.sieve-item.result

pub loop-sieve-preserved : goal.loop-sieve-preserved
loop-sieve-preserved c = sits_next (with_row (content c.args.facts.now c.args.amounts.now) c.args.relation c.args.row) (λ n. n + 1) c.args.sieves.now c.loop-sieve.sieves c.loop-sieve.sieve-index c.sieve-item.result c.sit_row.new.sieve c.loop-sieve-test.true c.sit_row.ensures.sieve c.sit_row.ensures.room c.loop-sieve.invariant

pub returns-clause-sieves : goal.returns-clause-sieves
returns-clause-sieves c = AreSieves-moved (with_row (content c.args.facts.now c.args.amounts.now) c.args.relation c.args.row) (λ n. n + 1) c.args.sieves.now c.loop-sieve.sieves c.loop-sieve.sieve-index (omega arith) c.loop-sieve.invariant

pub returns-clause-room : goal.returns-clause-room
returns-clause-room c = AllHaveSeats-moved (with_row (content c.args.facts.now c.args.amounts.now) c.args.relation c.args.row) (λ n. n + 1) c.args.sieves.now c.loop-sieve.sieves c.loop-sieve.sieve-index (omega arith) c.loop-sieve.invariant
