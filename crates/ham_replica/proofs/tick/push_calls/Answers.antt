use Rattle.std.proofs.Common.{◌++◌, ap, ◌∙◌}
use Rattle.ham_site.specs.Sites.{setting_at}
use Rattle.ham_turns.specs.Sends.{due_calls}
use Rattle.ham_replica.specs.Values.{words}
use Rattle.ham_replica.specs.Shown.{lists_of}
use Rattle.ham_replica.specs.Ticks.{addressed, if_decided}
use Rattle.std.specs.List.{flat_map}
use Rattle.ham_replica.proofs.Ticking.{addressed_more}
use Rattle.ham_replica.proofs.tick.push_calls.Goals as goal

pub loop-lane-preserved : goal.loop-lane-preserved
loop-lane-preserved c =
    c.in_ok-push_lane.ensures ∙ ap (λ l. l ++ addressed c.args.peer (flat_map (due_calls (words (lists_of c.args.held.now)) c.args.peer) (if_decided (setting_at c.args.site.now) c.args.site.now.me c.loop-lane.lane))) c.loop-lane.invariant
    ∙ addressed_more (setting_at c.args.site.now) c.args.site.now.me c.loop-lane.lane c.args.peer (due_calls (words (lists_of c.args.held.now)) c.args.peer) c.args.out.now.items
