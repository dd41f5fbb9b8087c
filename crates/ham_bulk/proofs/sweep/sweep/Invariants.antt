use Rattle.std.specs.Prelude.{fold}
use Rattle.std.specs.List.{range_with_len}
use Rattle.ham_turns.specs.Settings.{setting_of}
use Rattle.ham_bulk.specs.Scripts.{swept_from}
use Rattle.ham_bulk.specs.Drafts.{swept_so_far, IsSweptAfter}
use Rattle.ham_bulk.proofs.sweep.sweep.Given as goal

abbrev pub invariant-loop-sender : goal.invariant-loop-sender
invariant-loop-sender l =
    IsSweptAfter l.fn.world l.world l.draft l.reached (fold (swept_from l.fn.world.object (setting_of l.fn.world.plan)) (swept_so_far l.fn.world l.fn.draft l.fn.reached) (range_with_len 1 l.sender))
