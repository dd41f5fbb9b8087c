use Rattle.std.proofs.Common.{set, ◌-◌}
use Rattle.ham_world.proofs.Asked.{IsThere, there_at, is_there, delivered, delivery_refused}
use Rattle.ham_world.proofs.ask.deliver.Goals as goal

pub deliver-requires-clause-sender : goal.deliver-requires-clause-sender
deliver-requires-clause-sender c = (c.requires.from c.index_mut-replica.result.now (there_at c.args.replicas.now.items c.args.at c.from.result c.index_mut-replica.result.now c.from.ensures c.requires.some c.requires.within c.index_mut-replica.ensures.value)).0

pub deliver-requires-clause-another : goal.deliver-requires-clause-another
deliver-requires-clause-another c = (c.requires.from c.index_mut-replica.result.now (there_at c.args.replicas.now.items c.args.at c.from.result c.index_mut-replica.result.now c.from.ensures c.requires.some c.requires.within c.index_mut-replica.ensures.value)).1

there : (c : goal.After-replicas-1) → IsThere c.args.replicas.now.items (set c.args.replicas.now.items (c.from.result - 1) c.deliver.new.self) c.args.at c.index_mut-replica.result.now c.deliver.new.self
there c = is_there c.args.replicas.now.items c.args.at c.from.result c.index_mut-replica.result.now c.deliver.new.self c.from.ensures c.requires.some c.requires.within c.index_mut-replica.ensures.value

pub returns-clause-turn : goal.returns-clause-turn
returns-clause-turn c = delivered _ _ c.args.at c.index_mut-replica.result.now c.deliver.new.self c.args.from c.args.frame.now c.deliver.result (there c) c.deliver.ensures.site c.deliver.ensures.turn

pub returns-clause-refused : goal.returns-clause-refused
returns-clause-refused c = delivery_refused _ _ c.args.at c.index_mut-replica.result.now c.deliver.new.self c.args.from c.args.frame.now c.deliver.result (there c) c.deliver.ensures.turn
