use Rattle.ham_turns.specs.Settings.{setting_of}
use Rattle.ham_bulk.specs.Scripts.{rounds}
use Rattle.ham_bulk.specs.Drafts.{seen, IsAfter}
use Rattle.ham_bulk.proofs.draft.Draft.play.Given as goal

abbrev pub invariant-loop-round : goal.invariant-loop-round
invariant-loop-round l = IsAfter l.fn.world l.world l.self (rounds l.fn.world.object (setting_of l.fn.world.plan) l._round (seen l.fn.world l.fn.self))
