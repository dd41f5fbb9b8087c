use Rattle.std.proofs.Common.{arith, ◌+◌, set}
use Rattle.ham_watch.proofs.Moves.{AreWatches-kept, HaveRoom-kept, invariants-kept, prepared_keeps, prepared_next, kept_next, HaveRoom-prepared}
use Rattle.ham_watch.proofs.room.prepare_all.Goals as goal

pub returns-in_err-prepare_watch-clause-watched : goal.returns-in_err-prepare_watch-clause-watched
returns-in_err-prepare_watch-clause-watched c = AreWatches-kept c.args.watches.now (set c.loop-watch.watches c.loop-watch.watch-index c.prepare_watch.new.watch) (c.loop-watch.watch-index + 1) (kept_next c.args.steps c.args.watches.now c.loop-watch.watches c.loop-watch.watch-index c.watch-item.result c.prepare_watch.new.watch c.loop-watch-test.true (record { watched = c.prepare_watch.ensures.watched; kept = c.prepare_watch.ensures.kept; invariant = c.prepare_watch.ensures.invariant }) c.loop-watch.invariant)

pub returns-in_err-prepare_watch-clause-kept : goal.returns-in_err-prepare_watch-clause-kept
returns-in_err-prepare_watch-clause-kept c = HaveRoom-kept c.args.watches.now (set c.loop-watch.watches c.loop-watch.watch-index c.prepare_watch.new.watch) (c.loop-watch.watch-index + 1) (kept_next c.args.steps c.args.watches.now c.loop-watch.watches c.loop-watch.watch-index c.watch-item.result c.prepare_watch.new.watch c.loop-watch-test.true (record { watched = c.prepare_watch.ensures.watched; kept = c.prepare_watch.ensures.kept; invariant = c.prepare_watch.ensures.invariant }) c.loop-watch.invariant)

pub returns-in_err-prepare_watch-clause-invariants : goal.returns-in_err-prepare_watch-clause-invariants
returns-in_err-prepare_watch-clause-invariants c = invariants-kept c.args.watches.now (set c.loop-watch.watches c.loop-watch.watch-index c.prepare_watch.new.watch) (c.loop-watch.watch-index + 1) (kept_next c.args.steps c.args.watches.now c.loop-watch.watches c.loop-watch.watch-index c.watch-item.result c.prepare_watch.new.watch c.loop-watch-test.true (record { watched = c.prepare_watch.ensures.watched; kept = c.prepare_watch.ensures.kept; invariant = c.prepare_watch.ensures.invariant }) c.loop-watch.invariant)

pub loop-watch-preserved : goal.loop-watch-preserved
loop-watch-preserved c = prepared_next c.args.steps c.args.watches.now c.loop-watch.watches c.loop-watch.watch-index c.watch-item.result c.prepare_watch.new.watch c.loop-watch-test.true (record { watched = c.prepare_watch.ensures.watched; kept = c.prepare_watch.ensures.kept; invariant = c.prepare_watch.ensures.invariant }) c.in_ok-prepare_watch.ensures.room c.loop-watch.invariant

pub returns-clause-watched : goal.returns-clause-watched
returns-clause-watched c = AreWatches-kept c.args.watches.now c.loop-watch.watches c.loop-watch.watch-index (prepared_keeps c.args.steps c.args.watches.now c.loop-watch.watches c.loop-watch.watch-index c.loop-watch.invariant)

pub returns-clause-kept : goal.returns-clause-kept
returns-clause-kept c = HaveRoom-kept c.args.watches.now c.loop-watch.watches c.loop-watch.watch-index (prepared_keeps c.args.steps c.args.watches.now c.loop-watch.watches c.loop-watch.watch-index c.loop-watch.invariant)

pub returns-clause-invariants : goal.returns-clause-invariants
returns-clause-invariants c = invariants-kept c.args.watches.now c.loop-watch.watches c.loop-watch.watch-index (prepared_keeps c.args.steps c.args.watches.now c.loop-watch.watches c.loop-watch.watch-index c.loop-watch.invariant)

pub returns-clause-room : goal.returns-clause-room
returns-clause-room c = HaveRoom-prepared c.args.steps c.args.watches.now c.loop-watch.watches c.loop-watch.watch-index (omega arith) c.loop-watch.invariant
