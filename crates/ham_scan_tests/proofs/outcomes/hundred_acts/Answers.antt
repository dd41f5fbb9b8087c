use Rattle.std.proofs.Common.{◌∙◌}
use Rattle.ham_scan_tests.proofs.Opening.{at-opening, grown}
use Rattle.ham_scan_tests.proofs.outcomes.hundred_acts.Goals as goal

pub loop-init : goal.loop-init
loop-init c = record {
  opened = c.in_ok-state.ensures.1;
  values = at-opening c.in_ok-state.state.content 0 c.in_ok-state.ensures.0;
}

pub loop-preserved : goal.loop-preserved
loop-preserved c = record {
  opened = c.one_act.ensures.opened ∙ c.loop.invariant.opened;
  values = grown c.loop.state.content c.one_act.new.state.content c.loop.counter c.loop.invariant.values c.one_act.ensures.small;
}
