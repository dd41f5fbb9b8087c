use Rattle.std.proofs.Common.{inl, refl}
use Rattle.ham_cli.proofs.Ending.{unread}
use Rattle.ham_node_cli.proofs.node.run_text.Goals as goal

pub returns-in-Err-clause-ends : goal.returns-in-Err-clause-ends
returns-in-Err-clause-ends g c = inl (c.refuse_object.result, refl, unread c.args.text.now c.in-Err.fault _ _ _ c.in-Err.ensures.answer c.refuse_object.ensures.want c.refuse_object.ensures.ends)
