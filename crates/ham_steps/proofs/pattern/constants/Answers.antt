use Rattle.ham_steps.proofs.Matching.{not_constants}
use Rattle.ham_steps.proofs.pattern.constants.Goals as goal

pub returns-in-Param : goal.returns-in-Param
returns-in-Param c = λ row w. not_constants c.args.pattern.now c.loop-i.i c.loop-i-test.true c.in-Param.is row w.1
