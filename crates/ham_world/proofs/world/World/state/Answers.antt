use Rattle.std.proofs.Common.{ap, sym, ◌∙◌, subst, ◌≡◌}
use Rattle.ham_turns.specs.Settings.{setting_of, IsReplica}
use Rattle.ham_world.specs.Worlds.{Run, state_at}
use Rattle.ham_world.proofs.world.World.state.Goals as goal

pub state-requires-clause-keeps : goal.state-requires-clause-keeps
state-requires-clause-keeps c = c.self.invariant.going (ap (λ (r : Run). r.stopped) c.self.view_is ∙ c.requires.going)

pub state-requires-clause-replica : goal.state-requires-clause-replica
state-requires-clause-replica c =
    let F : Run → Type 0 = λ r. IsReplica (setting_of r.plan) c.args.replica in
    subst F (sym c.self.view_is) c.requires.replica

pub returns : goal.returns
returns c =
    let F : Run → Type 0 = λ r. c.state.result.now.content ≡ state_at r.object (setting_of r.plan) r.notes c.args.replica in
    let G : Run → Type 0 = λ r. c.state.result.now.invariants ≡ r.object.invariants in
    record { state = subst F c.self.view_is c.state.ensures.state; opened = subst G c.self.view_is c.state.ensures.opened }
