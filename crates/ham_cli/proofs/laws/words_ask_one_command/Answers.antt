use Rattle.ham_cli.proofs.Spelling.{asks_once}
use Rattle.ham_cli.proofs.laws.words_ask_one_command.Goals as goal

pub returns : goal.returns
returns c = asks_once
