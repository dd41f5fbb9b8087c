use Rattle.std.proofs.Common.{◌≡◌, ◌≢◌, ◌≤◌}
use Rattle.ham_turns.specs.Settings.{setting_of, IsReplica}
use Rattle.ham_peer.specs.Delivering.{Going}
use Rattle.ham_peer.proofs.serving.serve_peer.Given as goal

abbrev pub invariant-loop : goal.invariant-loop
invariant-loop g l =
    record {
      going : Going (g.D.Door.object l.initial.door) (g.D.Door.plan l.initial.door) (g.D.Door.me l.initial.door) l.greeting (g.D.Door.history l.initial.door) (g.D.Door.history l.door)
          (g.K.Link.left l.initial.link) (g.K.Link.left l.link) l.greeted l.decoder;
      replica : IsReplica (setting_of (g.D.Door.plan l.door)) l.greeting.from;
      another : l.greeting.from ≢ g.D.Door.me l.door;
      faults : g.K.Link.faults l.initial.link ≤ g.K.Link.faults l.link;
      ends : g.K.Link.ends l.initial.link ≤ g.K.Link.ends l.link;
      stops : g.D.Door.stops l.initial.door ≤ g.D.Door.stops l.door;
      fulls : g.D.Door.fulls l.initial.door ≤ g.D.Door.fulls l.door;
      refusals : g.D.Door.refusals l.initial.door ≤ g.D.Door.refusals l.door;
      object : g.D.Door.object l.door ≡ g.D.Door.object l.initial.door;
      plan : g.D.Door.plan l.door ≡ g.D.Door.plan l.initial.door;
      me : g.D.Door.me l.door ≡ g.D.Door.me l.initial.door;
    }
