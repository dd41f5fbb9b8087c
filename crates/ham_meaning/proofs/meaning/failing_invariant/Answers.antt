use Rattle.std.proofs.Common.{◌<◌, ◌≤◌, List, length, subst}
use Rattle.ham_syntax.specs.declared.object.Invariant.{Invariant}
use Rattle.ham_state.specs.Steps.{after_steps}
use Rattle.ham_meaning.proofs.Failing.{one_more_holds, first_that_fails, none_fails}
use Rattle.ham_meaning.proofs.meaning.failing_invariant.Goals as goal

pub returns-then-not-holds_after : goal.returns-then-not-holds_after
returns-then-not-holds_after c =
    first_that_fails (after_steps c.args.steps.now c.args.state.now.content) c.args.state.now.invariants c.args.object.now.invariants c.requires.opened c.loop-i.i c.holds_after.result
    (subst (λ (vs : List Invariant). c.loop-i.i < length vs) c.invariants.ensures.invariants c.loop-i-test.true) c.holds_after.ensures c.if-not-holds_after.true c.loop-i.invariant

pub loop-i-preserved : goal.loop-i-preserved
loop-i-preserved c =
    one_more_holds (after_steps c.args.steps.now c.args.state.now.content) c.args.state.now.invariants c.args.object.now.invariants c.requires.opened c.loop-i.i c.holds_after.result
    c.holds_after.ensures c.if-not-holds_after.false c.loop-i.invariant

pub returns : goal.returns
returns c =
    none_fails (after_steps c.args.steps.now c.args.state.now.content) c.args.state.now.invariants c.args.object.now.invariants c.requires.opened c.loop-i.i
    (subst (λ (vs : List Invariant). length vs ≤ c.loop-i.i) c.invariants.ensures.invariants c.loop-i-test.false) c.loop-i.invariant
