use Rattle.std.proofs.Common.{◌≡◌, ◌+◌, ◌<◌, ◌^◌, take}
use Rattle.ham_steps.specs.Steps.{after_steps}
use Rattle.ham_content.specs.Kept.{content}
use Rattle.ham_content.specs.Counted.{tally}
use Rattle.ham_state.proofs.after.tally_after.Given as goal

abbrev pub invariant-loop-i : goal.invariant-loop-i
invariant-loop-i l = record {
  number : l.number ≡ tally (after_steps (take l.i l.ahead.steps.now) (content l.ahead.facts.now l.ahead.amounts.now)) l.relation l.columns l.key;
  small : l.number < 2 ^ 63 + l.i;
}
