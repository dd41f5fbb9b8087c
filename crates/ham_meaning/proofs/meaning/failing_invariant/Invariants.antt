use Rattle.ham_state.specs.Steps.{after_steps}
use Rattle.ham_meaning.proofs.Failing.{HoldBelow}
use Rattle.ham_meaning.proofs.meaning.failing_invariant.Given as goal

abbrev pub invariant-loop-i : goal.invariant-loop-i
invariant-loop-i l = HoldBelow (after_steps l.steps l.state.content) l.object.invariants l.i
