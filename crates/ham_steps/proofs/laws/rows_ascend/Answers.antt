use Rattle.ham_steps.proofs.Ascending.{rows_ascend}
use Rattle.ham_steps.proofs.laws.rows_ascend.Goals as goal

pub returns : goal.returns
returns c = rows_ascend
