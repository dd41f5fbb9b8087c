use Rattle.std.proofs.Common.{◌≡◌, ◌<◌, ◌≤◌}
use Rattle.std.specs.Prelude.{fold}
use Rattle.ham_turns.specs.Settings.{setting_of}
use Rattle.ham_bulk.specs.Scripts.{after_event, deliveries}
use Rattle.ham_bulk.specs.Drafts.{seen, IsAfter}
use Rattle.ham_bulk.proofs.sweep.deliver.Given as goal

abbrev pub invariant-loop-frame : goal.invariant-loop-frame
invariant-loop-frame l = record {
  after : IsAfter l.fn.world l.world l.draft (fold (after_event l.fn.world.object (setting_of l.fn.world.plan)) (seen l.fn.world l.fn.draft) (deliveries (record { from = l.from; to = l.to }) l.first l.frame));
  still : l.count < l.first → l.frame ≡ l.first;
}
