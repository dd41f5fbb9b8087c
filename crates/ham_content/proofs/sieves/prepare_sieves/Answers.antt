use Rattle.std.proofs.Common.{arith, ◌+◌, set}
use Rattle.ham_content.proofs.Sitting.{AreSieves-kept, AllHaveSeats-kept, prepared_keeps, prepared_next, kept_next, AllHaveSeats-prepared}
use Rattle.ham_content.proofs.sieves.prepare_sieves.Goals as goal

pub returns-in_err-prepare_sieve-clause-sieves : goal.returns-in_err-prepare_sieve-clause-sieves
returns-in_err-prepare_sieve-clause-sieves c = AreSieves-kept c.args.sieves.now (set c.loop-sieve.sieves c.loop-sieve.sieve-index c.prepare_sieve.new.sieve) (c.loop-sieve.sieve-index + 1) (kept_next c.args.rows c.args.sieves.now c.loop-sieve.sieves c.loop-sieve.sieve-index c.sieve-item.result c.prepare_sieve.new.sieve c.loop-sieve-test.true (record { sieve = c.prepare_sieve.ensures.sieve; kept = c.prepare_sieve.ensures.kept }) c.loop-sieve.invariant)

pub returns-in_err-prepare_sieve-clause-kept : goal.returns-in_err-prepare_sieve-clause-kept
returns-in_err-prepare_sieve-clause-kept c = AllHaveSeats-kept c.args.sieves.now (set c.loop-sieve.sieves c.loop-sieve.sieve-index c.prepare_sieve.new.sieve) (c.loop-sieve.sieve-index + 1) (kept_next c.args.rows c.args.sieves.now c.loop-sieve.sieves c.loop-sieve.sieve-index c.sieve-item.result c.prepare_sieve.new.sieve c.loop-sieve-test.true (record { sieve = c.prepare_sieve.ensures.sieve; kept = c.prepare_sieve.ensures.kept }) c.loop-sieve.invariant)

pub loop-sieve-preserved : goal.loop-sieve-preserved
loop-sieve-preserved c = prepared_next c.args.rows c.args.sieves.now c.loop-sieve.sieves c.loop-sieve.sieve-index c.sieve-item.result c.prepare_sieve.new.sieve c.loop-sieve-test.true (record { sieve = c.prepare_sieve.ensures.sieve; kept = c.prepare_sieve.ensures.kept }) c.in_ok-prepare_sieve.ensures.room c.loop-sieve.invariant

pub returns-clause-sieves : goal.returns-clause-sieves
returns-clause-sieves c = AreSieves-kept c.args.sieves.now c.loop-sieve.sieves c.loop-sieve.sieve-index (prepared_keeps c.args.rows c.args.sieves.now c.loop-sieve.sieves c.loop-sieve.sieve-index c.loop-sieve.invariant)

pub returns-clause-kept : goal.returns-clause-kept
returns-clause-kept c = AllHaveSeats-kept c.args.sieves.now c.loop-sieve.sieves c.loop-sieve.sieve-index (prepared_keeps c.args.rows c.args.sieves.now c.loop-sieve.sieves c.loop-sieve.sieve-index c.loop-sieve.invariant)

pub returns-clause-room : goal.returns-clause-room
returns-clause-room c = AllHaveSeats-prepared c.args.rows c.args.sieves.now c.loop-sieve.sieves c.loop-sieve.sieve-index (omega arith) c.loop-sieve.invariant
