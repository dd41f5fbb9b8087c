use Rattle.std.proofs.Common.{set, ◌-◌}
use Rattle.ham_world.proofs.Asked.{IsThere, is_there, ticked}
use Rattle.ham_world.proofs.ask.tick.Goals as goal

there : (c : goal.After-replicas-1) → IsThere c.args.replicas.now.items (set c.args.replicas.now.items (c.from.result - 1) c.tick.new.self) c.args.at c.index_mut-replica.result.now c.tick.new.self
there c = is_there c.args.replicas.now.items c.args.at c.from.result c.index_mut-replica.result.now c.tick.new.self c.from.ensures c.requires.some c.requires.within c.index_mut-replica.ensures.value

pub returns : goal.returns
returns c = record { turn = ticked _ _ c.args.at c.index_mut-replica.result.now c.tick.new.self c.tick.result (there c) c.tick.ensures.same c.tick.ensures.turn }
