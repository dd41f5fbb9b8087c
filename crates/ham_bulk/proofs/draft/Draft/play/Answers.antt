use Rattle.ham_bulk.specs.Drafts.{seen}
use Rattle.ham_bulk.proofs.After.{round_more, still_going}
use Rattle.ham_bulk.proofs.draft.Draft.play.Goals as goal

pub round-requires : goal.round-requires
round-requires c = still_going _ _ _ _ c.loop-round.invariant c.requires

pub loop-round-preserved : goal.loop-round-preserved
loop-round-preserved c = round_more _ _ _ _ _ c.loop-round._round (seen c.args.world.now c.args.self.now) c.loop-round.invariant c.in_ok-round.ensures
