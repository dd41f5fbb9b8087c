use Rattle.ham_steps.proofs.ContentLaws.{same_state}
use Rattle.ham_steps.proofs.laws.states_are_what_they_show.Goals as goal

pub returns : goal.returns
returns c = same_state
