use Rattle.std.proofs.Common.{◌≡◌, ◌≢◌, ◌≤◌, take}
use Rattle.ham_turns.specs.Settings.{setting_of, IsReplica}
use Rattle.ham_peer.specs.Delivering.{Delivers, going}
use Rattle.ham_peer.proofs.meeting.meet_all.Given as goal

abbrev pub invariant-loop-frame : goal.invariant-loop-frame
invariant-loop-frame g l =
    record {
      met : Delivers (g.D.Door.object l.initial.door) (g.D.Door.plan l.initial.door) (g.D.Door.me l.initial.door) l.greeting (going l.initial.greeted) (g.D.Door.history l.initial.door)
          (take l.frame-index l.all) (going l.greeted) (g.D.Door.history l.door);
      replica : IsReplica (setting_of (g.D.Door.plan l.door)) l.greeting.from;
      another : l.greeting.from ≢ g.D.Door.me l.door;
      stops : g.D.Door.stops l.initial.door ≤ g.D.Door.stops l.door;
      fulls : g.D.Door.fulls l.initial.door ≤ g.D.Door.fulls l.door;
      refusals : g.D.Door.refusals l.initial.door ≤ g.D.Door.refusals l.door;
      object : g.D.Door.object l.door ≡ g.D.Door.object l.initial.door;
      plan : g.D.Door.plan l.door ≡ g.D.Door.plan l.initial.door;
      me : g.D.Door.me l.door ≡ g.D.Door.me l.initial.door;
    }
