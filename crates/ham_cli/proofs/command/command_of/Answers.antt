use Rattle.std.proofs.Common.{sym, ◌∙◌}
use Rattle.ham_cli.proofs.Spelling.{asks_by}
use Rattle.ham_cli.proofs.command.command_of.Goals as goal

pub returns-then-are_text : goal.returns-then-are_text
returns-then-are_text c = record { asks = asks_by c.args.words.now c.read.result (sym c.if-are_text.true ∙ c.are_text.ensures) c.read.ensures }
