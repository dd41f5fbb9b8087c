use Rattle.ham_bulk.proofs.After.{opened, still_going}
use Rattle.ham_bulk.proofs.drafting.draft_of.Goals as goal

pub sweep_twice-requires : goal.sweep_twice-requires
sweep_twice-requires c = still_going _ _ _ _ c.in_ok-play.ensures c.requires.going

pub returns : goal.returns
returns c = opened c.args.world.now c.play.new.world c.sweep_twice.new.world _ _ _ c.args.seed c.args.rounds c.requires.new c.new-draft.ensures c.in_ok-play.ensures c.in_ok-sweep_twice.ensures
