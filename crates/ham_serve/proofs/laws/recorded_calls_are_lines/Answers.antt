use Rattle.ham_serve.proofs.Recording.{recorded_lines}
use Rattle.ham_serve.proofs.laws.recorded_calls_are_lines.Goals as goal

pub returns : goal.returns
returns c = recorded_lines
