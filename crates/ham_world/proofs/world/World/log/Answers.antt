use Rattle.std.proofs.Common.{ap, sym, ◌∙◌, subst, ◌≡◌}
use Rattle.ham_turns.specs.Settings.{setting_of, IsReplica}
use Rattle.ham_runs.specs.Runs.{log_of}
use Rattle.ham_world.specs.Worlds.{Run}
use Rattle.ham_world.proofs.world.World.log.Goals as goal

pub log-requires-clause-keeps : goal.log-requires-clause-keeps
log-requires-clause-keeps c = c.self.invariant.going (ap (λ (r : Run). r.stopped) c.self.view_is ∙ c.requires.going)

pub log-requires-clause-replica : goal.log-requires-clause-replica
log-requires-clause-replica c =
    let F : Run → Type 0 = λ r. IsReplica (setting_of r.plan) c.args.replica in
    subst F (sym c.self.view_is) c.requires.replica

pub returns : goal.returns
returns c =
    let F : Run → Type 0 = λ r. c.log.result.now ≡ log_of r.notes c.args.replica in
    subst F c.self.view_is c.log.ensures
