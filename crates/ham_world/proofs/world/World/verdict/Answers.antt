use Rattle.std.proofs.Common.{ap, sym, ◌∙◌, subst, ◌≡◌}
use Rattle.ham_turns.specs.Settings.{setting_of, IsReplica}
use Rattle.ham_world.specs.Worlds.{Run, asked_of}
use Rattle.ham_world.proofs.world.World.verdict.Goals as goal

pub verdict-requires-clause-kept : goal.verdict-requires-clause-kept
verdict-requires-clause-kept c = c.self.invariant.kept_is

pub verdict-requires-clause-keeps : goal.verdict-requires-clause-keeps
verdict-requires-clause-keeps c = c.self.invariant.going (ap (λ (r : Run). r.stopped) c.self.view_is ∙ c.requires.going)

pub verdict-requires-clause-replica : goal.verdict-requires-clause-replica
verdict-requires-clause-replica c =
    let F : Run → Type 0 = λ r. IsReplica (setting_of r.plan) c.args.replica in
    subst F (sym c.self.view_is) c.requires.replica

pub returns : goal.returns
returns c =
    let F : Run → Type 0 = λ r. c.verdict.result ≡ asked_of r.notes c.args.replica c.args.group c.args.number in
    subst F c.self.view_is c.verdict.ensures
