use Rattle.std.proofs.Common.{◌≡◌, ◌≤◌, length}
use Rattle.ham_serve.specs.Talks.{Served}
use Rattle.ham_serve.specs.declared.serve.Went.TheVariants as went
use Rattle.ham_serve.proofs.serve.serve_lines.Given as goal

abbrev pub invariant-loop-inputs : goal.invariant-loop-inputs
invariant-loop-inputs g l =
    record {
      served : Served (g.D.Door.object l.initial.door) (g.D.Door.plan l.initial.door) (g.D.Door.me l.initial.door) (g.D.Door.history l.initial.door) (g.D.Door.history l.door) went.On
          l.held l.rest l.initial.out l.out;
      later : g.D.Door.stops l.initial.door ≤ g.D.Door.stops l.door;
      object : g.D.Door.object l.door ≡ g.D.Door.object l.initial.door;
      plan : g.D.Door.plan l.door ≡ g.D.Door.plan l.initial.door;
      me : g.D.Door.me l.door ≡ g.D.Door.me l.initial.door;
    }

abbrev pub decreases-loop-inputs : goal.decreases-loop-inputs
decreases-loop-inputs g l = length l.rest
