use Rattle.ham_cli.specs.Commands.{seen}
use Rattle.ham_cli.proofs.Ending.{read_refused}
use Rattle.ham_cli.proofs.top.perform_read.Goals as goal

pub returns-in-Err-clause-ends : goal.returns-in-Err-clause-ends
returns-in-Err-clause-ends g c = read_refused _ c.args.text.now c.in-Err.fault (seen c.args.task.now) _ _ _ c.in-Err.ensures.answer c.refuse_object.ensures.want c.refuse_object.ensures.ends
