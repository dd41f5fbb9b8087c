use Rattle.std.proofs.Common.{◌++◌, ap, ◌∙◌}
use Rattle.ham_site.specs.Sites.{setting_at}
use Rattle.ham_turns.specs.Sends.{due_requests}
use Rattle.ham_replica.specs.Values.{words}
use Rattle.ham_replica.specs.Shown.{lists_of}
use Rattle.std.specs.List.{flat_map}
use Rattle.ham_replica.specs.Ticks.{addressed, if_decided}
use Rattle.ham_replica.proofs.Ticking.{addressed_more}
use Rattle.ham_replica.proofs.tick.push_requests.Goals as goal

pub loop-group-preserved : goal.loop-group-preserved
loop-group-preserved c =
    c.in_ok-push_group.ensures ∙ ap (λ l. l ++ addressed c.args.peer (flat_map (due_requests (words (lists_of c.args.held.now))) (if_decided (setting_at c.args.site.now) c.args.peer c.loop-group.group))) c.loop-group.invariant
    ∙ addressed_more (setting_at c.args.site.now) c.args.peer c.loop-group.group c.args.peer (due_requests (words (lists_of c.args.held.now))) c.args.out.now.items
