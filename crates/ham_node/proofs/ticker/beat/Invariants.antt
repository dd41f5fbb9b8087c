use Rattle.std.proofs.Common.{◌≡◌, ◌≤◌}
use Rattle.ham_node.specs.Beats.{Beats}
use Rattle.ham_node.proofs.ticker.beat.Given as goal

abbrev pub invariant-loop : goal.invariant-loop
invariant-loop g l =
    record {
      beats : Beats (g.D.Door.object l.initial.door) (g.D.Door.plan l.initial.door) (g.D.Door.me l.initial.door) (g.D.Door.history l.initial.door) (g.D.Door.history l.door);
      later : g.D.Door.stops l.initial.door ≤ g.D.Door.stops l.door;
      object : g.D.Door.object l.door ≡ g.D.Door.object l.initial.door;
      plan : g.D.Door.plan l.door ≡ g.D.Door.plan l.initial.door;
      me : g.D.Door.me l.door ≡ g.D.Door.me l.initial.door;
    }
