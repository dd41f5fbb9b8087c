use Rattle.std.proofs.Common.{◌≡◌, ◌≤◌}
use Rattle.ham_peer.specs.Collecting.{Feeding}
use Rattle.ham_peer.proofs.feeding.feed_peer.Given as goal

abbrev pub invariant-loop : goal.invariant-loop
invariant-loop g l =
    record {
      feeding : Feeding (g.D.Door.object l.fn.door) (g.D.Door.plan l.fn.door) (g.D.Door.me l.fn.door) l.peer l.greeting (g.D.Door.history l.fn.door) (g.D.Door.history l.door)
          (g.K.Link.sent l.fn.link) (g.K.Link.sent l.link);
      later : g.K.Link.faults l.fn.link ≤ g.K.Link.faults l.link;
      stops : g.D.Door.stops l.fn.door ≤ g.D.Door.stops l.door;
      fulls : g.D.Door.fulls l.fn.door ≤ g.D.Door.fulls l.door;
      object : g.D.Door.object l.door ≡ g.D.Door.object l.fn.door;
      plan : g.D.Door.plan l.door ≡ g.D.Door.plan l.fn.door;
      me : g.D.Door.me l.door ≡ g.D.Door.me l.fn.door;
    }
