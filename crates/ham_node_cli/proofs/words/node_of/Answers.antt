use Rattle.std.proofs.Common.{sym, ◌∙◌}
use Rattle.ham_node_cli.proofs.NodeSpelling.{asks_by, not_text}
use Rattle.ham_node_cli.proofs.words.node_of.Goals as goal

pub returns-then-are_text-clause-asks : goal.returns-then-are_text-clause-asks
returns-then-are_text-clause-asks c = asks_by c.args.words.now c.read.result (sym c.if-are_text.true ∙ c.are_text.ensures) c.read.ensures.read
