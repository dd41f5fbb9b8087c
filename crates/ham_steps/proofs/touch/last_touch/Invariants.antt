use Rattle.std.proofs.Common.{◌≡◌, drop}
use Rattle.std.specs.Option.{option_or}
use Rattle.ham_steps.specs.Touch as touch
use Rattle.ham_steps.proofs.touch.last_touch.Given as goal

abbrev pub invariant-loop-step : goal.invariant-loop-step
invariant-loop-step l = option_or (touch.last_touch (drop l.step-index l.steps) l.relation l.row) l.last ≡ touch.last_touch l.steps l.relation l.row
