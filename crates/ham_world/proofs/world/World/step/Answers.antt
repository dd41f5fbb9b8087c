use Rattle.std.proofs.Common.{ap, sym, ◌∙◌}
use Rattle.ham_world.specs.Worlds.{Run}
use Rattle.ham_world.proofs.Taken.{stopped_stays}
use Rattle.ham_world.proofs.world.World.step.Goals as goal

pub returns-then-self-clause-steps : goal.returns-then-self-clause-steps
returns-then-self-clause-steps c = stopped_stays c.args.self.now c.args.event.now (ap (λ (r : Run). r.stopped) (sym c.self.view_is) ∙ c.if-self.true)
