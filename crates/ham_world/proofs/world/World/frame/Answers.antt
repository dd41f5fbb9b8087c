use Rattle.std.proofs.Common.{ap, sym, ◌∙◌, subst, ◌≡◌, Some, None}
use Rattle.std.specs.Prelude.{MatchOption}
use Rattle.ham_turns.specs.Settings.{setting_of, IsReplica}
use Rattle.ham_turns.specs.Words.{numbered}
use Rattle.ham_runs.specs.Runs.{on_link}
use Rattle.ham_world.specs.Worlds.{Run, bytes_of}
use Rattle.ham_world.proofs.world.World.frame.Goals as goal

pub frame-requires-clause-kept : goal.frame-requires-clause-kept
frame-requires-clause-kept c = c.self.invariant.kept_is

pub frame-requires-clause-keeps : goal.frame-requires-clause-keeps
frame-requires-clause-keeps c = c.self.invariant.going (ap (λ (r : Run). r.stopped) c.self.view_is ∙ c.requires.going)

pub frame-requires-clause-from : goal.frame-requires-clause-from
frame-requires-clause-from c =
    let F : Run → Type 0 = λ r. IsReplica (setting_of r.plan) c.args.from in
    subst F (sym c.self.view_is) c.requires.from

pub frame-requires-clause-to : goal.frame-requires-clause-to
frame-requires-clause-to c =
    let F : Run → Type 0 = λ r. IsReplica (setting_of r.plan) c.args.to in
    subst F (sym c.self.view_is) c.requires.to

pub returns : goal.returns
returns c =
    let F : Run → Type 0 = λ r. MatchOption c.frame.result (numbered (on_link r.notes c.args.from c.args.to) c.args.frame ≡ None)
    (λ bytes. bytes_of (numbered (on_link r.notes c.args.from c.args.to) c.args.frame) ≡ Some bytes.now) in
    subst F c.self.view_is c.frame.ensures
