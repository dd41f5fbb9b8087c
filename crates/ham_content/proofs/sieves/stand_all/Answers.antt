use Rattle.std.proofs.Common.{arith}
use Rattle.ham_steps.specs.Pattern.{is_row}
use Rattle.ham_steps.specs.Content.{without_rows}
use Rattle.ham_content.specs.Kept.{content}
use Rattle.ham_content.specs.Seats.{IsSieve}
use Rattle.ham_content.proofs.Sitting.{AreSieves-moved, AllHaveSeats-moved, not_yet, sits_next}
use Rattle.ham_content.proofs.sieves.stand_all.Goals as goal

pub stand_row-requires-clause-sieve : goal.stand_row-requires-clause-sieve
stand_row-requires-clause-sieve c = not_yet (without_rows (content c.args.facts.now c.args.amounts.now) c.args.relation (is_row c.args.row)) (λ n. n) c.args.sieves.now c.loop-sieve.sieves c.loop-sieve.sieve-index (IsSieve (content c.args.facts.now c.args.amounts.now)) (omega arith) c.loop-sieve.invariant c.requires.sieves c.sieve-item.result

pub loop-sieve-preserved : goal.loop-sieve-preserved
loop-sieve-preserved c = sits_next (without_rows (content c.args.facts.now c.args.amounts.now) c.args.relation (is_row c.args.row)) (λ n. n) c.args.sieves.now c.loop-sieve.sieves c.loop-sieve.sieve-index c.sieve-item.result c.stand_row.new.sieve c.loop-sieve-test.true c.stand_row.ensures.sieve c.stand_row.ensures.room c.loop-sieve.invariant

pub returns-clause-sieves : goal.returns-clause-sieves
returns-clause-sieves c = AreSieves-moved (without_rows (content c.args.facts.now c.args.amounts.now) c.args.relation (is_row c.args.row)) (λ n. n) c.args.sieves.now c.loop-sieve.sieves c.loop-sieve.sieve-index (omega arith) c.loop-sieve.invariant

pub returns-clause-room : goal.returns-clause-room
returns-clause-room c = AllHaveSeats-moved (without_rows (content c.args.facts.now c.args.amounts.now) c.args.relation (is_row c.args.row)) (λ n. n) c.args.sieves.now c.loop-sieve.sieves c.loop-sieve.sieve-index (omega arith) c.loop-sieve.invariant
