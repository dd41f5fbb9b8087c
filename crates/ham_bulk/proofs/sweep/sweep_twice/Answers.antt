use Rattle.ham_bulk.proofs.After.{ok_then, twice, still_going}
use Rattle.ham_bulk.proofs.sweep.sweep_twice.Goals as goal

pub sweep-requires-2 : goal.sweep-requires-2
sweep-requires-2 c = still_going _ _ _ _ c.in_ok-sweep.ensures.script c.requires

pub returns : goal.returns
returns c = ok_then c.sweep-2.result
    (twice c.args.world.now c.sweep.new.world c.sweep-2.new.world c.args.draft.now c.sweep.new.draft c.sweep-2.new.draft _ _ _ c.new-reached.ensures c.in_ok-sweep.ensures) c.sweep-2.ensures
