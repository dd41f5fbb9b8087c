use Rattle.std.proofs.Common.{ap, sym, ◌∙◌, subst, ◌≡◌, length}
use Rattle.ham_turns.specs.Settings.{setting_of, IsReplica}
use Rattle.ham_runs.specs.Runs.{on_link}
use Rattle.ham_world.specs.Worlds.{Run}
use Rattle.ham_world.proofs.world.World.sent.Goals as goal

pub sent-requires-clause-kept : goal.sent-requires-clause-kept
sent-requires-clause-kept c = c.self.invariant.kept_is

pub sent-requires-clause-keeps : goal.sent-requires-clause-keeps
sent-requires-clause-keeps c = c.self.invariant.going (ap (λ (r : Run). r.stopped) c.self.view_is ∙ c.requires.going)

pub sent-requires-clause-from : goal.sent-requires-clause-from
sent-requires-clause-from c =
    let F : Run → Type 0 = λ r. IsReplica (setting_of r.plan) c.args.from in
    subst F (sym c.self.view_is) c.requires.from

pub sent-requires-clause-to : goal.sent-requires-clause-to
sent-requires-clause-to c =
    let F : Run → Type 0 = λ r. IsReplica (setting_of r.plan) c.args.to in
    subst F (sym c.self.view_is) c.requires.to

pub returns : goal.returns
returns c =
    let F : Run → Type 0 = λ r. c.sent.result ≡ length (on_link r.notes c.args.from c.args.to) in
    subst F c.self.view_is c.sent.ensures
