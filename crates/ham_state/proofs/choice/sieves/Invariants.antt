use Rattle.ham_steps.specs.Content.{opening}
use Rattle.ham_content.specs.Seats.{AreSieves, AllHaveSeats}
use Rattle.ham_state.proofs.choice.sieves.Given as goal

abbrev pub invariant-loop-choice : goal.invariant-loop-choice
invariant-loop-choice l = record {
  sieves : AreSieves opening l.sieves.items;
  room : AllHaveSeats 0 l.sieves.items;
}
