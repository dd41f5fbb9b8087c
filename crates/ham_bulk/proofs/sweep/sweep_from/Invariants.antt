use Rattle.std.specs.Prelude.{fold}
use Rattle.std.specs.List.{flat_map, range_with_len}
use Rattle.ham_turns.specs.Settings.{setting_of}
use Rattle.ham_bulk.specs.Scripts.{link_swept, link_if}
use Rattle.ham_bulk.specs.Drafts.{swept_so_far, IsSweptAfter}
use Rattle.ham_bulk.proofs.sweep.sweep_from.Given as goal

abbrev pub invariant-loop-receiver : goal.invariant-loop-receiver
invariant-loop-receiver l =
    IsSweptAfter l.fn.world l.world l.draft l.reached (fold (link_swept l.fn.world.object (setting_of l.fn.world.plan)) (swept_so_far l.fn.world l.fn.draft l.fn.reached) (flat_map (link_if l.from) (range_with_len 1 l.receiver)))
