use Rattle.ham_bulk.proofs.Taken.{generated_prints}
use Rattle.ham_bulk.proofs.laws.scripts_print.Goals as goal

pub returns : goal.returns
returns c = generated_prints
