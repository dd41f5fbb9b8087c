use Rattle.std.proofs.Common.{◌≡◌}
use Rattle.ham_witness.proofs.Made.{Taken}
use Rattle.ham_witness.proofs.states.made.Given as goal

abbrev pub invariant-loop-step : goal.invariant-loop-step
invariant-loop-step l = record {
  taken : Taken l.steps l.step-index l.state.content;
  opened : l.state.invariants ≡ l.object.invariants;
}
