use Rattle.ham_node_cli.proofs.Noded.{one_of}
use Rattle.ham_node_cli.proofs.node.run_object.Goals as goal

pub run_replica-end-requires-clause-replica : goal.run_replica-end-requires-clause-replica
run_replica-end-requires-clause-replica g c = λ κs l. one_of c.plan_of-plan.result c.args.node.now.me _ c.plan_of-plan.ensures.replicas c.requires.one
