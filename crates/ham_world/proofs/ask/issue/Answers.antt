use Rattle.std.proofs.Common.{set, ◌-◌}
use Rattle.ham_world.proofs.Asked.{IsThere, is_there, issued, issue_taken, issue_refused}
use Rattle.ham_world.proofs.ask.issue.Goals as goal

there : (c : goal.After-replicas-1) → IsThere c.args.replicas.now.items (set c.args.replicas.now.items (c.from.result - 1) c.issue.new.self) c.args.at c.index_mut-replica.result.now c.issue.new.self
there c = is_there c.args.replicas.now.items c.args.at c.from.result c.index_mut-replica.result.now c.issue.new.self c.from.ensures c.requires.some c.requires.within c.index_mut-replica.ensures.value

pub returns-clause-turn : goal.returns-clause-turn
returns-clause-turn c = issued _ _ c.args.at c.index_mut-replica.result.now c.issue.new.self c.args.act.now c.issue.result (there c) c.issue.ensures.site c.issue.ensures.turn

pub returns-clause-taken : goal.returns-clause-taken
returns-clause-taken c = issue_taken _ _ c.args.at c.index_mut-replica.result.now c.issue.new.self c.args.act.now c.issue.result (there c) c.issue.ensures.turn

pub returns-clause-refused : goal.returns-clause-refused
returns-clause-refused c = issue_refused _ _ c.args.at c.index_mut-replica.result.now c.issue.new.self c.args.act.now c.issue.result (there c) c.issue.ensures.turn
