use Rattle.std.proofs.Common.{◌≡◌, ◌≤◌}
use Rattle.ham_serve.specs.Rounds.{Talked}
use Rattle.ham_serve.proofs.serve.serve_client.Given as goal

abbrev pub invariant-loop : goal.invariant-loop
invariant-loop g l =
    record {
      talked : Talked (g.D.Door.object l.initial.door) (g.D.Door.plan l.initial.door) (g.D.Door.me l.initial.door) (g.D.Door.history l.initial.door) (g.D.Door.history l.door)
          (g.K.Link.left l.initial.link) (g.K.Link.left l.link) (g.K.Link.sent l.initial.link) (g.K.Link.sent l.link) l.held.items;
      later : g.D.Door.stops l.initial.door ≤ g.D.Door.stops l.door;
      faults : g.K.Link.faults l.initial.link ≤ g.K.Link.faults l.link;
      ends : g.K.Link.ends l.initial.link ≤ g.K.Link.ends l.link;
      object : g.D.Door.object l.door ≡ g.D.Door.object l.initial.door;
      plan : g.D.Door.plan l.door ≡ g.D.Door.plan l.initial.door;
      me : g.D.Door.me l.door ≡ g.D.Door.me l.initial.door;
    }
