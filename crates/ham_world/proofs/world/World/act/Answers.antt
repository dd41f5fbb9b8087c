use Rattle.std.proofs.Common.{ap, sym, ◌∙◌, subst, ◌≡◌}
use Rattle.ham_plan.specs.Lists.{In}
use Rattle.ham_turns.specs.Settings.{setting_of, IsReplica}
use Rattle.ham_runs.specs.Runs.{execution, log_of}
use Rattle.ham_world.specs.Worlds.{Run}
use Rattle.ham_world.proofs.world.World.act.Goals as goal

pub act-requires-clause-kept : goal.act-requires-clause-kept
act-requires-clause-kept c = c.self.invariant.kept_is

pub act-requires-clause-keeps : goal.act-requires-clause-keeps
act-requires-clause-keeps c = c.self.invariant.going (ap (λ (r : Run). r.stopped) c.self.view_is ∙ c.requires.going)

pub act-requires-clause-replica : goal.act-requires-clause-replica
act-requires-clause-replica c =
    let F : Run → Type 0 = λ r. IsReplica (setting_of r.plan) c.args.replica in
    subst F (sym c.self.view_is) c.requires.replica

pub act-requires-clause-logged : goal.act-requires-clause-logged
act-requires-clause-logged c =
    let F : Run → Type 0 = λ r. In c.args.place.now (log_of r.notes c.args.replica) in
    subst F (sym c.self.view_is) c.requires.logged

pub returns : goal.returns
returns c =
    let F : Run → Type 0 = λ r. c.act.result ≡ (execution r.notes).act c.args.place.now in
    subst F c.self.view_is c.act.ensures
