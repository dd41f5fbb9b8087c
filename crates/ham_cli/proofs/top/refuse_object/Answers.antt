use Rattle.ham_cli.proofs.Telling.{made_puts}
use Rattle.ham_cli.proofs.top.refuse_object.Goals as goal

pub returns-else-is_no_memory-clause-ends : goal.returns-else-is_no_memory-clause-ends
returns-else-is_no_memory-clause-ends g c = made_puts _ _ _ _ _ _ c.object_refusal.ensures.answer c.put_answer.ensures.ends
