use Rattle.ham_node_cli.specs.NodeReading.{seen}
use Rattle.ham_node_cli.proofs.Noded.{fetched}
use Rattle.ham_node_cli.proofs.node.run_asked.Goals as goal

pub returns-in-Ok-clause-ends : goal.returns-in-Ok-clause-ends
returns-in-Ok-clause-ends g c = fetched _ (seen c.args.node.now) _ _ _ _ _ c.in-Ok.ensures.found c.items.ensures c.run_text.ensures.ends

pub returns-in-Ok-clause-counted : goal.returns-in-Ok-clause-counted
returns-in-Ok-clause-counted g c = c.run_text.ensures.counted _ _
