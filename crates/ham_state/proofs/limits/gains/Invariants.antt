use Rattle.ham_state.proofs.Gains.{SumsUp}
use Rattle.ham_state.proofs.limits.gains.Given as goal

abbrev pub invariant-loop-step : goal.invariant-loop-step
invariant-loop-step l = SumsUp l.ahead.steps.now l.counter l.key l.sum l.step-index
